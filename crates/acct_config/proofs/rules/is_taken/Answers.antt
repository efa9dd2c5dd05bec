-- `is_taken` goes over the tables until one has the name, so it holds just where the name is among theirs.
use Rattle.std.proofs.Common.{map, sym, ◌∙◌, rules, tests}
use Rattle.std.specs.Str.{bytes_eq}
use Rattle.std.proofs.lemmas.Iterator.{YieldsList-from_slice}
use Rattle.std.proofs.lemmas.Iterator.Search.{any_from_yields_List}
use Rattle.toml.specs.View.{view}
use Rattle.acct_config.specs.Rules.{listener_name}
use Rattle.acct_config.proofs.Sought.{list_any-map}
use Rattle.acct_config.proofs.rules.is_taken.Goals as goal

pub returns : goal.returns
returns c =
    let is_name = bytes_eq c.args.name.now in
    any_from_yields_List (λ table. bytes_eq c.args.name.now (listener_name (view table))) _ _ c.any.result
    c.any.ensures.ran (YieldsList-from_slice c.args.tables.now cc) (λ x b q k. search (rules, tests))
    ∙ sym (list_any-map is_name listener_name (map view c.args.tables.now)
    ∙ list_any-map (λ listener. is_name (listener_name listener)) view c.args.tables.now)
