-- Rows stay sound when an account that is no primary group, nor that of all users, goes with the rows that name it.
use Rattle.acct_rows.proofs.Purges.{removed_account_sound}
use Rattle.acct_rows.proofs.laws.removed_accounts_stay_sound.Goals as goal

pub returns : goal.returns
returns c = removed_account_sound
