-- `first_without_token` goes over the tables until one has no token.
use Rattle.std.proofs.Common.{not, sym, ◌∙◌, rules, tests}
use Rattle.std.proofs.lemmas.Iterator.{YieldsList-from_slice}
use Rattle.std.proofs.lemmas.Iterator.Search.{position_from_yields_List}
use Rattle.toml.specs.View.{view}
use Rattle.acct_config.specs.Rules.{has_token}
use Rattle.acct_config.proofs.Sought.{position-map}
use Rattle.acct_config.proofs.faults.first_without_token.Goals as goal

pub returns : goal.returns
returns c =
    position_from_yields_List (λ table. not (has_token (view table))) _ _ c.position.result c.position.ensures.ran
    (YieldsList-from_slice c.args.tables.now cc) (λ x b q k. search (rules, tests))
    ∙ sym (position-map (λ table. not (has_token table)) view c.args.tables.now)
