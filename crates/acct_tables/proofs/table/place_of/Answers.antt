-- A binary search over keys that ascend finds the place of the key, or the one where it would go.
use Rattle.std.proofs.Common.{rules}
use Rattle.std.proofs.lemmas.Fn.{always_returns_same}
use Rattle.acct_tables.specs.Keyed.{compare}
use Rattle.acct_tables.proofs.Halving.{searched}
use Rattle.acct_tables.proofs.table.place_of.Goals as goal

pub returns-clause-found : goal.returns-clause-found
returns-clause-found g c =
    let facts = c.binary_search_by.ensures in
    let q = g.O.Whole.path c.args.key.now in
    searched g.O.Order.key_of q c.args.values.now c.requires _ facts.bound
    (facts.position (λ y. compare (g.O.Order.key_of y) q)
    (always_returns_same _ _ _ (λ a r h called. (search rules, search rules))))
