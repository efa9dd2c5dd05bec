-- The values below the prefix stand before the place found, and all others after.
use Rattle.std.proofs.Common.{rules}
use Rattle.std.proofs.lemmas.List.Sorted.{IsPartitionPoint-from_clause}
use Rattle.acct_tables.proofs.Between.{below, below_turns}
use Rattle.acct_tables.proofs.table.first_within.Goals as goal

pub returns-clause-turns : goal.returns-clause-turns
returns-clause-turns g c =
    let front = g.O.Fronts.front_of c.args.front.now in
    IsPartitionPoint-from_clause (below g.O.Order.key_of front) _ _ c.partition_point.ensures.partitioned
    (below_turns g.O.Order.key_of front c.args.values.now c.requires) (λ a r q k. search rules)
