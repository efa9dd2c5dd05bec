-- Without the pair at the place found the pairs are those without the key; where none is found, they are so already.
use Rattle.std.proofs.Common.{sym, ◌∙◌, Ok, Err}
use Rattle.acct_keeper.proofs.Placing.{without-placed}
use Rattle.acct_keeper.proofs.places.remove.Goals as goal

pub returns-in-Ok-clause-pairs : goal.returns-in-Ok-clause-pairs
returns-in-Ok-clause-pairs c = c.remove.ensures.items
    ∙ without-placed _ c.args.pairs.now.items (Ok c.in-Ok.i) c.requires
    (sym c.in-Ok.is ∙ c.place.ensures.found ∙ (cc))

pub returns-in-Err-clause-pairs : goal.returns-in-Err-clause-pairs
returns-in-Err-clause-pairs c =
    without-placed _ c.args.pairs.now.items (Err c.in-Err.field-0) c.requires
    (sym c.in-Err.is ∙ c.place.ensures.found ∙ (cc))
