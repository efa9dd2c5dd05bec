-- `are_texts` goes over the values until one is no text, so it holds just where each of them is one.
use Rattle.std.proofs.Common.{sym, ◌∙◌, rules, tests}
use Rattle.std.proofs.lemmas.Iterator.{YieldsList-from_slice}
use Rattle.std.proofs.lemmas.Iterator.Search.{all_from_yields_List}
use Rattle.std.proofs.lemmas.List.Folds.{list_all-map}
use Rattle.toml.specs.View.{view}
use Rattle.acct_config.specs.Document.{is_text}
use Rattle.acct_config.proofs.shape.are_texts.Goals as goal

pub returns : goal.returns
returns c =
    all_from_yields_List (λ value. is_text (view value)) _ _ _ c.all.ensures.ran
    (YieldsList-from_slice c.args.values.now cc) (λ x b q k. search (rules, tests))
    ∙ sym (list_all-map is_text view c.args.values.now)
