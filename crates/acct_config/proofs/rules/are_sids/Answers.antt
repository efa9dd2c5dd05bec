-- `are_sids` goes over the texts until one is no SID, so it holds just where each of them is one.
use Rattle.std.proofs.Common.{sym, ◌∙◌, rules, tests}
use Rattle.std.proofs.lemmas.Iterator.{YieldsList-from_slice}
use Rattle.std.proofs.lemmas.Iterator.Search.{all_from_yields_List}
use Rattle.std.proofs.lemmas.List.Folds.{list_all-map}
use Rattle.toml.specs.View.{view}
use Rattle.acct_config.specs.Rules.{is_sid}
use Rattle.acct_config.proofs.rules.are_sids.Goals as goal

pub returns : goal.returns
returns c =
    all_from_yields_List (λ text. is_sid (view text)) _ _ _ c.all.ensures.ran
    (YieldsList-from_slice c.args.texts.now cc) (λ x b q k. search (rules, tests))
    ∙ sym (list_all-map is_sid view c.args.texts.now)
