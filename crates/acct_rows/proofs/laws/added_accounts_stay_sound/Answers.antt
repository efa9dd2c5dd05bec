-- Rows stay sound when a new group or alias is added.
use Rattle.acct_rows.proofs.Moves.{added_account_sound}
use Rattle.acct_rows.proofs.laws.added_accounts_stay_sound.Goals as goal

pub returns : goal.returns
returns c = added_account_sound
