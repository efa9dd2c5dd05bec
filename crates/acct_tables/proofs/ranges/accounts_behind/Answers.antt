-- The accounts of a domain after a RID lie between the two places that halving finds, and there is no other there.
use Rattle.std.proofs.Common.{arith, rules}
use Rattle.std.proofs.lemmas.List.Sorted.{IsPartitionPoint-from_clause}
use Rattle.acct_tables.specs.Ranges.{is_behind}
use Rattle.acct_tables.proofs.Between.{in_order, together}
use Rattle.acct_tables.proofs.BetweenRows.{not_behind, up_to_domain, not_behind_turns, domain_turns}
use Rattle.acct_tables.proofs.BetweenRows.{domain_later, behind_is}
use Rattle.acct_tables.proofs.ranges.accounts_behind.Goals as goal

pub slice_bounds-result-count : goal.slice_bounds-result-count
slice_bounds-result-count c =
    let d = c.args.domain in
    let r = c.args.rid in
    let low = IsPartitionPoint-from_clause (not_behind d r) _ _ c.partition_point-first.ensures.partitioned
    (not_behind_turns d r c.args.rows.now c.requires) (λ a r q k. search rules) in
    let high = IsPartitionPoint-from_clause (up_to_domain d r) _ _ c.partition_point-last.ensures.partitioned
    (domain_turns d r c.args.rows.now c.requires) (λ a r q k. search rules) in
    in_order (not_behind d r) (up_to_domain d r) (domain_later d r) c.args.rows.now _ _
    c.partition_point-first.ensures.bound low high

pub slice_bounds-result-start : goal.slice_bounds-result-start
slice_bounds-result-start c = let le = slice_bounds-result-count c in omega arith

pub returns : goal.returns
returns c =
    let d = c.args.domain in
    let r = c.args.rid in
    let low = IsPartitionPoint-from_clause (not_behind d r) _ _ c.partition_point-first.ensures.partitioned
    (not_behind_turns d r c.args.rows.now c.requires) (λ a r q k. search rules) in
    let high = IsPartitionPoint-from_clause (up_to_domain d r) _ _ c.partition_point-last.ensures.partitioned
    (domain_turns d r c.args.rows.now c.requires) (λ a r q k. search rules) in
    together (not_behind d r) (up_to_domain d r) (is_behind d r) (behind_is d r) (domain_later d r) c.args.rows.now _ _
    c.partition_point-first.ensures.bound c.partition_point-last.ensures.bound low high
