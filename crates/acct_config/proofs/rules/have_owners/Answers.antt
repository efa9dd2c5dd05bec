-- `have_owners` goes over the kinds until a table has no SID as its owner, so it holds just where each table has one.
use Rattle.std.proofs.Common.{rules, tests}
use Rattle.std.proofs.lemmas.Iterator.{YieldsList-from_slice}
use Rattle.std.proofs.lemmas.Iterator.Search.{all_from_yields_List}
use Rattle.toml.specs.View.{view}
use Rattle.acct_config.specs.Rules.{owner_is_sid}
use Rattle.acct_config.proofs.rules.have_owners.Goals as goal

pub returns : goal.returns
returns c =
    all_from_yields_List (owner_is_sid (view c.args.document.now)) _ _ _ c.all.ensures.ran
    (YieldsList-from_slice c.args.kinds.now cc) (λ x b q k. search (rules, tests))
