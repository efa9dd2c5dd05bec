-- `each_allows_number` holds just where the key of each limit is absent or has a number: one other stops it.
use Rattle.std.proofs.Common.{rules, tests}
use Rattle.std.proofs.lemmas.Iterator.{YieldsList-from_slice}
use Rattle.std.proofs.lemmas.Iterator.Search.{all_from_yields_List}
use Rattle.toml.specs.View.{view}
use Rattle.acct_config.specs.Document.{limit_key, optional, is_number}
use Rattle.acct_config.proofs.shape.each_allows_number.Goals as goal

pub returns : goal.returns
returns c =
    all_from_yields_List (λ limit. optional is_number (limit_key limit) (view c.args.value.now)) _ _ _ c.all.ensures.ran
    (YieldsList-from_slice c.args.limits.now cc) (λ x b q k. search (rules, tests))
