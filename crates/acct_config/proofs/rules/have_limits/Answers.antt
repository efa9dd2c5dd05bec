-- `have_limits` goes over the limits until one is out of its range, so it holds just where each is within.
use Rattle.std.proofs.Common.{rules, tests}
use Rattle.std.proofs.lemmas.Iterator.{YieldsList-from_slice}
use Rattle.std.proofs.lemmas.Iterator.Search.{all_from_yields_List}
use Rattle.toml.specs.View.{view}
use Rattle.acct_config.specs.Rules.{is_in_range}
use Rattle.acct_config.proofs.rules.have_limits.Goals as goal

pub returns : goal.returns
returns c =
    all_from_yields_List (is_in_range (view c.args.document.now)) _ _ _ c.all.ensures.ran
    (YieldsList-from_slice c.args.limits.now cc) (λ x b q k. search (rules, tests))
