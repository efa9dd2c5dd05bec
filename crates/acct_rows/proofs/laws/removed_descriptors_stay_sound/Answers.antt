-- Rows stay sound when a descriptor is removed.
use Rattle.acct_rows.proofs.Moves.{removed_desc_sound}
use Rattle.acct_rows.proofs.laws.removed_descriptors_stay_sound.Goals as goal

pub returns : goal.returns
returns c = removed_desc_sound
