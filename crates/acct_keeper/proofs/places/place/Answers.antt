-- Halving finds where a key stands in pairs that ascend, or would go, since each comparison is that of the keys.
use Rattle.std.proofs.Common.{rules}
use Rattle.std.proofs.lemmas.Fn.{always_returns_same}
use Rattle.acct_keeper.specs.Pairs.{compare}
use Rattle.acct_keeper.proofs.Halving.{searched}
use Rattle.acct_keeper.proofs.places.place.Goals as goal

pub returns-clause-found : goal.returns-clause-found
returns-clause-found c =
    let facts = c.binary_search_by.ensures in
    searched c.args.key.now c.args.pairs.now c.requires _ facts.bound
    (facts.position (λ y. compare y.key c.args.key.now)
    (always_returns_same _ _ _ (λ a r h called. (search rules, search rules))))
