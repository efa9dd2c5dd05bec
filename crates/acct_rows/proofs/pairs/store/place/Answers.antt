-- Halving the pairs of a store finds where a key stands, or would go, since each comparison is that of the keys.
use Rattle.std.proofs.Common.{rules}
use Rattle.std.proofs.lemmas.Fn.{always_returns_same}
use Rattle.acct_keeper.specs.declared.pairs.Pair.{Pair}
use Rattle.acct_tables.specs.KeyedRows.{compare}
use Rattle.acct_rows.specs.PairRules.{pair_key}
use Rattle.acct_tables.proofs.Halving.{searched}
use Rattle.acct_rows.proofs.pairs.store.place.Goals as goal

pub returns-clause-found : goal.returns-clause-found
returns-clause-found c =
    let facts = c.binary_search_by.ensures in
    searched pair_key c.args.key.now c.args.pairs.now c.requires _ facts.bound
    (facts.position (λ (y : Pair). compare y.key c.args.key.now)
    (always_returns_same _ _ _ (λ a r h called. (search rules, search rules))))
