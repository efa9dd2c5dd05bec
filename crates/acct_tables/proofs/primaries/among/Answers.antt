-- What lies from the first entry not below a primary group to the first above it is just the entries of its accounts.
use Rattle.std.proofs.Common.{leb, ltb, arith, rules}
use Rattle.std.proofs.lemmas.List.Sorted.{IsPartitionPoint-from_clause, IsPartitionedBy-leb, IsPartitionedBy-ltb}
use Rattle.acct_tables.proofs.PrimaryGroups.{primary, primaries_rise}
use Rattle.acct_tables.proofs.Together.{in_order, together}
use Rattle.acct_tables.proofs.primaries.among.Goals as goal

pub slice_bounds-result-count : goal.slice_bounds-result-count
slice_bounds-result-count c =
    let risen = primaries_rise c.args.entries.now c.requires in
    let below = IsPartitionPoint-from_clause (λ b. ltb (primary b) c.args.group) _ _
    c.partition_point-first.ensures.partitioned (IsPartitionedBy-ltb primary _ c.args.group risen)
    (λ a r q k. search rules) in
    let up_to = IsPartitionPoint-from_clause (λ b. leb (primary b) c.args.group) _ _
    c.partition_point-last.ensures.partitioned (IsPartitionedBy-leb primary _ c.args.group risen)
    (λ a r q k. search rules) in
    in_order primary c.args.group c.args.entries.now _ _ c.partition_point-first.ensures.bound below up_to

pub slice_bounds-result-start : goal.slice_bounds-result-start
slice_bounds-result-start c = let le = slice_bounds-result-count c in omega arith

pub returns : goal.returns
returns c =
    let risen = primaries_rise c.args.entries.now c.requires in
    let below = IsPartitionPoint-from_clause (λ b. ltb (primary b) c.args.group) _ _
    c.partition_point-first.ensures.partitioned (IsPartitionedBy-ltb primary _ c.args.group risen)
    (λ a r q k. search rules) in
    let up_to = IsPartitionPoint-from_clause (λ b. leb (primary b) c.args.group) _ _
    c.partition_point-last.ensures.partitioned (IsPartitionedBy-leb primary _ c.args.group risen)
    (λ a r q k. search rules) in
    together primary c.args.group c.args.entries.now _ _ c.partition_point-first.ensures.bound
    c.partition_point-last.ensures.bound below up_to
