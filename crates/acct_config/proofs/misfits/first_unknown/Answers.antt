-- `first_unknown` goes over the members until the key of one is none of the names.
use Rattle.std.proofs.Common.{List, ℕ, map, not, ap, ◌∙◌, rules, tests}
use Rattle.std.specs.Prelude.{string_bytes, option_map}
use Rattle.std.proofs.lemmas.Iterator.Consumers.{YieldsList-from_rest}
use Rattle.std.proofs.lemmas.Iterator.Search.{find_from_yields_List}
use Rattle.acct_config.specs.Document.{is_among}
use Rattle.acct_config.proofs.Sought.{option_map-twice, find-keys}
use Rattle.acct_config.proofs.misfits.first_unknown.Goals as goal

pub returns : goal.returns
returns c =
    let names : List (List ℕ) = map (λ name. name.now) c.args.names.now in
    option_map-twice (λ member. string_bytes member.0) _ c.find.result
    ∙ ap (option_map (λ member. string_bytes member.0))
    (find_from_yields_List (λ member. not (is_among names (string_bytes member.0))) _ _ c.find.result c.find.ensures.ran
    (YieldsList-from_rest c.args.table.now.entries c.iter.ensures.rest) (λ x b q k. search (rules, tests)))
    ∙ find-keys (λ key. not (is_among names key)) c.args.table.now.entries
