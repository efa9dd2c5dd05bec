-- `have_aces` goes over the kinds until the ACEs of a table are wrong, so it holds just where those of none are.
use Rattle.std.proofs.Common.{rules, tests}
use Rattle.std.proofs.lemmas.Iterator.{YieldsList-from_slice}
use Rattle.std.proofs.lemmas.Iterator.Search.{all_from_yields_List}
use Rattle.toml.specs.View.{view}
use Rattle.acct_config.specs.Rules.{aces_are_entries}
use Rattle.acct_config.proofs.rules.have_aces.Goals as goal

pub returns : goal.returns
returns c =
    all_from_yields_List (aces_are_entries (view c.args.document.now)) _ _ _ c.all.ensures.ran
    (YieldsList-from_slice c.args.kinds.now cc) (λ x b q k. search (rules, tests))
