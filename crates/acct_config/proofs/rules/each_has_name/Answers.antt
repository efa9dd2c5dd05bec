-- `each_has_name` goes over the tables until a name can't be a listener's, so it holds just where each name can.
use Rattle.std.proofs.Common.{sym, ◌∙◌, rules, tests}
use Rattle.std.proofs.lemmas.Iterator.{YieldsList-from_slice}
use Rattle.std.proofs.lemmas.Iterator.Search.{all_from_yields_List}
use Rattle.std.proofs.lemmas.List.Folds.{list_all-map}
use Rattle.toml.specs.View.{view}
use Rattle.acct_config.specs.Rules.{listener_name}
use Rattle.acct_config.specs.Values.{is_listener_name}
use Rattle.acct_config.proofs.rules.each_has_name.Goals as goal

pub returns : goal.returns
returns c =
    all_from_yields_List (λ table. is_listener_name (listener_name (view table))) _ _ _ c.all.ensures.ran
    (YieldsList-from_slice c.args.tables.now cc) (λ x b q k. search (rules, tests))
    ∙ sym (list_all-map (λ listener. is_listener_name (listener_name listener)) view c.args.tables.now)
