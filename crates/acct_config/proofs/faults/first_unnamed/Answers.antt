-- `first_unnamed` goes over the tables until one has a name that none may have.
use Rattle.std.proofs.Common.{not, sym, ◌∙◌, rules, tests}
use Rattle.std.proofs.lemmas.Iterator.{YieldsList-from_slice}
use Rattle.std.proofs.lemmas.Iterator.Search.{position_from_yields_List}
use Rattle.toml.specs.View.{view}
use Rattle.acct_config.specs.Rules.{listener_name}
use Rattle.acct_config.specs.Values.{is_listener_name}
use Rattle.acct_config.proofs.Sought.{position-map}
use Rattle.acct_config.proofs.faults.first_unnamed.Goals as goal

pub returns : goal.returns
returns c =
    position_from_yields_List (λ table. not (is_listener_name (listener_name (view table)))) _ _ c.position.result
    c.position.ensures.ran (YieldsList-from_slice c.args.tables.now cc) (λ x b q k. search (rules, tests))
    ∙ sym (position-map (λ table. not (is_listener_name (listener_name table))) view c.args.tables.now)
