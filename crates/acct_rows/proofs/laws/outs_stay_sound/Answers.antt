-- Rows stay sound when a change of an account is put with the next out number.
use Rattle.acct_rows.proofs.Moves.{out_sound}
use Rattle.acct_rows.proofs.laws.outs_stay_sound.Goals as goal

pub returns : goal.returns
returns c = out_sound
