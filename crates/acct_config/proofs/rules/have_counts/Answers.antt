-- `have_counts` goes over the tables until a count is out of range, so it holds just where all are within.
use Rattle.std.proofs.Common.{sym, ◌∙◌, rules, tests}
use Rattle.std.proofs.lemmas.Iterator.{YieldsList-from_slice}
use Rattle.std.proofs.lemmas.Iterator.Search.{all_from_yields_List}
use Rattle.std.proofs.lemmas.List.Folds.{list_all-map}
use Rattle.toml.specs.View.{view}
use Rattle.acct_config.specs.Rules.{has_counts}
use Rattle.acct_config.proofs.rules.have_counts.Goals as goal

pub returns : goal.returns
returns c =
    all_from_yields_List (λ table. has_counts (view table)) _ _ _ c.all.ensures.ran
    (YieldsList-from_slice c.args.tables.now cc) (λ x b q k. search (rules, tests))
    ∙ sym (list_all-map has_counts view c.args.tables.now)
