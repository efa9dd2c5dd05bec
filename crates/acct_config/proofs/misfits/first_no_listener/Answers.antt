-- `first_no_listener` goes over the tables until one is no listener.
use Rattle.std.proofs.Common.{not, sym, ◌∙◌, rules, tests}
use Rattle.std.proofs.lemmas.Iterator.{YieldsList-from_slice}
use Rattle.std.proofs.lemmas.Iterator.Search.{position_from_yields_List}
use Rattle.toml.specs.View.{view}
use Rattle.acct_config.specs.Document.{is_listener}
use Rattle.acct_config.proofs.Sought.{position-map}
use Rattle.acct_config.proofs.misfits.first_no_listener.Goals as goal

pub returns : goal.returns
returns c =
    position_from_yields_List (λ table. not (is_listener (view table))) _ _ c.position.result c.position.ensures.ran
    (YieldsList-from_slice c.args.tables.now cc) (λ x b q k. search (rules, tests))
    ∙ sym (position-map (λ table. not (is_listener table)) view c.args.tables.now)
