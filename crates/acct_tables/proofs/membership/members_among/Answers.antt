-- The groups rise, so what lies from the first row not below a group to the first above it is just its members.
use Rattle.std.proofs.Common.{leb, ltb, arith, rules}
use Rattle.std.proofs.lemmas.List.Sorted.{IsPartitionPoint-from_clause, IsPartitionedBy-leb, IsPartitionedBy-ltb}
use Rattle.acct_tables.proofs.Together.{group, groups_rise, in_order, together}
use Rattle.acct_tables.proofs.membership.members_among.Goals as goal

pub slice_bounds-result-count : goal.slice_bounds-result-count
slice_bounds-result-count c =
    let risen = groups_rise c.args.rows.now c.requires in
    let below = IsPartitionPoint-from_clause (λ m. ltb (group m) c.args.group) _ _
    c.partition_point-first.ensures.partitioned (IsPartitionedBy-ltb group _ c.args.group risen)
    (λ a r q k. search rules) in
    let up_to = IsPartitionPoint-from_clause (λ m. leb (group m) c.args.group) _ _
    c.partition_point-last.ensures.partitioned (IsPartitionedBy-leb group _ c.args.group risen)
    (λ a r q k. search rules) in
    in_order group c.args.group c.args.rows.now _ _ c.partition_point-first.ensures.bound below up_to

pub slice_bounds-result-start : goal.slice_bounds-result-start
slice_bounds-result-start c = let le = slice_bounds-result-count c in omega arith

pub returns : goal.returns
returns c =
    let risen = groups_rise c.args.rows.now c.requires in
    let below = IsPartitionPoint-from_clause (λ m. ltb (group m) c.args.group) _ _
    c.partition_point-first.ensures.partitioned (IsPartitionedBy-ltb group _ c.args.group risen)
    (λ a r q k. search rules) in
    let up_to = IsPartitionPoint-from_clause (λ m. leb (group m) c.args.group) _ _
    c.partition_point-last.ensures.partitioned (IsPartitionedBy-leb group _ c.args.group risen)
    (λ a r q k. search rules) in
    together group c.args.group c.args.rows.now _ _ c.partition_point-first.ensures.bound
    c.partition_point-last.ensures.bound below up_to
