-- Rows stay sound when an account of the policy that keeps the rules is put.
use Rattle.acct_rows.proofs.Moves.{lsa_sound}
use Rattle.acct_rows.proofs.laws.lsa_accounts_stay_sound.Goals as goal

pub returns : goal.returns
returns c = lsa_sound
