-- `is_among` goes over the names until one is the key, so it holds just where the key is one of them.
use Rattle.std.proofs.Common.{sym, ◌∙◌, rules, tests}
use Rattle.std.specs.Str.{bytes_eq}
use Rattle.std.proofs.lemmas.Iterator.{YieldsList-from_slice}
use Rattle.std.proofs.lemmas.Iterator.Search.{any_from_yields_List}
use Rattle.acct_config.proofs.Sought.{list_any-map}
use Rattle.acct_config.proofs.shape.is_among.Goals as goal

pub returns : goal.returns
returns c =
    any_from_yields_List (λ name. bytes_eq name.now c.args.key.now) _ _ _ c.any.ensures.ran
    (YieldsList-from_slice c.args.names.now cc) (λ x b q k. search (rules, tests))
    ∙ sym (list_any-map (λ name. bytes_eq name c.args.key.now) (λ name. name.now) c.args.names.now)
