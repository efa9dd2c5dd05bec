-- `keys_are_among` goes over the entries until a key is none of the names, so it holds just where each key is one.
use Rattle.std.proofs.Common.{List, ℕ, map, sym, ◌∙◌, rules, tests}
use Rattle.std.specs.Prelude.{string_bytes}
use Rattle.std.proofs.lemmas.Iterator.Consumers.{YieldsList-from_rest}
use Rattle.std.proofs.lemmas.Iterator.Search.{all_from_yields_List}
use Rattle.acct_config.specs.Document.{is_among}
use Rattle.acct_config.proofs.Sought.{list_all-keys}
use Rattle.acct_config.proofs.shape.keys_are_among.Goals as goal

pub returns : goal.returns
returns c =
    let names : List (List ℕ) = map (λ name. name.now) c.args.names.now in
    all_from_yields_List (λ entry. is_among names (string_bytes entry.0)) _ _ c.all.result c.all.ensures.ran
    (YieldsList-from_rest c.args.table.now.entries c.iter.ensures.rest) (λ x b q k. search (rules, tests))
    ∙ sym (list_all-keys (is_among names) c.args.table.now.entries)
