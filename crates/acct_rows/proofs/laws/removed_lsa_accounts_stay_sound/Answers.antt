-- Rows stay sound when an account of the policy is removed.
use Rattle.acct_rows.proofs.Moves.{removed_lsa_sound}
use Rattle.acct_rows.proofs.laws.removed_lsa_accounts_stay_sound.Goals as goal

pub returns : goal.returns
returns c = removed_lsa_sound
