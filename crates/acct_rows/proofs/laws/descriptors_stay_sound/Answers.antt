-- Rows stay sound when a descriptor of an object that is there is put.
use Rattle.acct_rows.proofs.Moves.{desc_sound}
use Rattle.acct_rows.proofs.laws.descriptors_stay_sound.Goals as goal

pub returns : goal.returns
returns c = desc_sound
