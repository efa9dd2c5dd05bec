-- `have_tokens` goes over the tables until one has no valid token, so it holds just where each has one.
use Rattle.std.proofs.Common.{sym, ◌∙◌, rules, tests}
use Rattle.std.proofs.lemmas.Iterator.{YieldsList-from_slice}
use Rattle.std.proofs.lemmas.Iterator.Search.{all_from_yields_List}
use Rattle.std.proofs.lemmas.List.Folds.{list_all-map}
use Rattle.toml.specs.View.{view}
use Rattle.acct_config.specs.Rules.{has_token}
use Rattle.acct_config.proofs.rules.have_tokens.Goals as goal

pub returns : goal.returns
returns c =
    all_from_yields_List (λ table. has_token (view table)) _ _ _ c.all.ensures.ran
    (YieldsList-from_slice c.args.tables.now cc) (λ x b q k. search (rules, tests))
    ∙ sym (list_all-map has_token view c.args.tables.now)
