-- `first_without_counts` goes over the tables until one has a count out of range.
use Rattle.std.proofs.Common.{not, sym, ◌∙◌, rules, tests}
use Rattle.std.proofs.lemmas.Iterator.{YieldsList-from_slice}
use Rattle.std.proofs.lemmas.Iterator.Search.{position_from_yields_List}
use Rattle.toml.specs.View.{view}
use Rattle.acct_config.specs.Rules.{has_counts}
use Rattle.acct_config.proofs.Sought.{position-map}
use Rattle.acct_config.proofs.faults.first_without_counts.Goals as goal

pub returns : goal.returns
returns c =
    position_from_yields_List (λ table. not (has_counts (view table))) _ _ c.position.result c.position.ensures.ran
    (YieldsList-from_slice c.args.tables.now cc) (λ x b q k. search (rules, tests))
    ∙ sym (position-map (λ table. not (has_counts table)) view c.args.tables.now)
