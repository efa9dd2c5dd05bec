-- Rows stay sound when an alias row is removed.
use Rattle.acct_rows.proofs.Moves.{removed_alias_row_sound}
use Rattle.acct_rows.proofs.laws.removed_alias_rows_stay_sound.Goals as goal

pub returns : goal.returns
returns c = removed_alias_row_sound
