-- The RIDs so far, then those that the matching rows left add, are the aliases of all matching rows, each once.
use Rattle.std.proofs.Common.{◌≡◌, ◌++◌, drop, map}
use Rattle.std.specs.List.{filter}
use Rattle.acct_tables.specs.Selected.{has_one, each_once}
use Rattle.account_vectors.proofs.Once.{once_after}
use Rattle.account_vectors.proofs.tests.rows.plain.aliases_of.Given as goal

abbrev pub invariant-loop-row : goal.invariant-loop-row
invariant-loop-row l =
    l.rids ++ once_after l.last (map (λ row. row.alias) (filter (has_one l.domain l.sids) (drop l.row-index l.rows)))
    ≡ each_once (map (λ row. row.alias) (filter (has_one l.domain l.sids) l.rows))
