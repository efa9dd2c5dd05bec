-- What lies from the first membership not below a SID to the first above it is just its memberships.
use Rattle.std.proofs.Common.{arith, rules}
use Rattle.std.proofs.lemmas.List.Sorted.{IsPartitionPoint-from_clause}
use Rattle.acct_tables.specs.steps.Naming.{has_sid}
use Rattle.acct_tables.proofs.Between.{in_order, together}
use Rattle.acct_tables.proofs.NamedRows.{below_sid, up_to_sid, below_sid_turns, up_to_sid_turns, sid_later, has_sid_is}
use Rattle.acct_tables.proofs.ranges.memberships_among.Goals as goal

pub slice_bounds-result-count : goal.slice_bounds-result-count
slice_bounds-result-count c =
    let s = c.args.sid.now in
    let low = IsPartitionPoint-from_clause (below_sid s) _ _ c.partition_point-first.ensures.partitioned
    (below_sid_turns s c.args.rows.now c.requires) (λ a r q k. search rules) in
    let high = IsPartitionPoint-from_clause (up_to_sid s) _ _ c.partition_point-last.ensures.partitioned
    (up_to_sid_turns s c.args.rows.now c.requires) (λ a r q k. search rules) in
    in_order (below_sid s) (up_to_sid s) (sid_later s) c.args.rows.now _ _
    c.partition_point-first.ensures.bound low high

pub slice_bounds-result-start : goal.slice_bounds-result-start
slice_bounds-result-start c = let le = slice_bounds-result-count c in omega arith

pub returns : goal.returns
returns c =
    let s = c.args.sid.now in
    let low = IsPartitionPoint-from_clause (below_sid s) _ _ c.partition_point-first.ensures.partitioned
    (below_sid_turns s c.args.rows.now c.requires) (λ a r q k. search rules) in
    let high = IsPartitionPoint-from_clause (up_to_sid s) _ _ c.partition_point-last.ensures.partitioned
    (up_to_sid_turns s c.args.rows.now c.requires) (λ a r q k. search rules) in
    together (below_sid s) (up_to_sid s) (has_sid s) (has_sid_is s) (sid_later s) c.args.rows.now _ _
    c.partition_point-first.ensures.bound c.partition_point-last.ensures.bound low high
