-- Where no rule is found as the first broken one, each of them is kept.
use Rattle.acct_config.proofs.Broken.{none_is_each}
use Rattle.acct_config.proofs.laws.none_broken_is_each_kept.Goals as goal

pub returns : goal.returns
returns c = none_is_each
