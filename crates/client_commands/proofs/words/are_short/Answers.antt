-- `all` over the names answers whether each of them is short.
use Rattle.std.proofs.Common.{rules, tests}
use Rattle.std.proofs.lemmas.Iterator.{YieldsList-from_slice}
use Rattle.std.proofs.lemmas.Iterator.Search.{all_from_yields_List}
use Rattle.client_commands.specs.Words.{is_short}
use Rattle.client_commands.proofs.words.are_short.Goals as goal

pub returns : goal.returns
returns c =
    all_from_yields_List is_short _ _ _ c.all.ensures.ran
    (YieldsList-from_slice c.args.names.now cc) (λ x b q k. search (rules, tests))
