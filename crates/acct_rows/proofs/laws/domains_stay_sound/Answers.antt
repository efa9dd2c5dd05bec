-- Rows stay sound when a domain's row gives way to one that keeps the rules, whose next RID is no lower.
use Rattle.acct_rows.proofs.Moves.{domains_sound}
use Rattle.acct_rows.proofs.laws.domains_stay_sound.Goals as goal

pub returns : goal.returns
returns c = domains_sound
