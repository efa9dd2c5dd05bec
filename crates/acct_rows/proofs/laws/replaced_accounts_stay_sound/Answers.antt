-- Rows stay sound when an account gives way to one with its key and kind that keeps the rules.
use Rattle.acct_rows.proofs.Moves.{replaced_sound}
use Rattle.acct_rows.proofs.laws.replaced_accounts_stay_sound.Goals as goal

pub returns : goal.returns
returns c = replaced_sound
