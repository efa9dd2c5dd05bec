-- Rows stay sound when a SID is put as a member of an alias that is there.
use Rattle.acct_rows.proofs.Moves.{alias_row_sound}
use Rattle.acct_rows.proofs.laws.alias_rows_stay_sound.Goals as goal

pub returns : goal.returns
returns c = alias_row_sound
