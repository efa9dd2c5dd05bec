-- Halving finds where a name stands among keys that ascend by name, or would go, as each comparison is that of names.
use Rattle.std.proofs.Common.{rules}
use Rattle.std.proofs.lemmas.Fn.{always_returns_same}
use Rattle.acct_tables.specs.steps.Indexes.{named, key_at}
use Rattle.acct_tables.specs.KeyedRows.{compare}
use Rattle.acct_tables.proofs.Halving.{searched}
use Rattle.acct_tables.proofs.names.place.Goals as goal

pub returns-clause-found : goal.returns-clause-found
returns-clause-found c =
    let facts = c.binary_search_by.ensures in
    let key = key_at c.args.accounts.now in
    let q = named c.args.domain c.args.name.now c.args.rid in
    searched key q c.args.keys.now c.requires.keys _ facts.bound
    (facts.position (λ y. compare (key y) q)
    (always_returns_same _ _ _ (λ a r h called. (search rules, search rules))))
