-- Rows stay sound when the change with the least number is removed.
use Rattle.acct_rows.proofs.Moves.{removed_out_sound}
use Rattle.acct_rows.proofs.laws.removed_outs_stay_sound.Goals as goal

pub returns : goal.returns
returns c = removed_out_sound
