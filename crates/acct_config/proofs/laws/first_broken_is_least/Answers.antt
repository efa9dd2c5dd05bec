-- The rule that is found as the first broken one is broken, and each rule before it is kept.
use Rattle.acct_config.proofs.Broken.{first_is_least}
use Rattle.acct_config.proofs.laws.first_broken_is_least.Goals as goal

pub returns : goal.returns
returns c = first_is_least
