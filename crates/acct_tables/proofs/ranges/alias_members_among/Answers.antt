-- What lies from the first row not below an alias to the first above it is just its members.
use Rattle.std.proofs.Common.{arith, rules}
use Rattle.std.proofs.lemmas.List.Sorted.{IsPartitionPoint-from_clause}
use Rattle.acct_tables.specs.Selected.{is_in_alias}
use Rattle.acct_tables.proofs.Between.{in_order, together}
use Rattle.acct_tables.proofs.BetweenRows.{below_alias, up_to_alias, below_alias_turns, up_to_alias_turns}
use Rattle.acct_tables.proofs.BetweenRows.{alias_later, in_alias_is}
use Rattle.acct_tables.proofs.ranges.alias_members_among.Goals as goal

pub slice_bounds-result-count : goal.slice_bounds-result-count
slice_bounds-result-count c =
    let d = c.args.domain in
    let a = c.args.alias in
    let low = IsPartitionPoint-from_clause (below_alias d a) _ _ c.partition_point-first.ensures.partitioned
    (below_alias_turns d a c.args.rows.now c.requires) (λ a r q k. search rules) in
    let high = IsPartitionPoint-from_clause (up_to_alias d a) _ _ c.partition_point-last.ensures.partitioned
    (up_to_alias_turns d a c.args.rows.now c.requires) (λ a r q k. search rules) in
    in_order (below_alias d a) (up_to_alias d a) (alias_later d a) c.args.rows.now _ _
    c.partition_point-first.ensures.bound low high

pub slice_bounds-result-start : goal.slice_bounds-result-start
slice_bounds-result-start c = let le = slice_bounds-result-count c in omega arith

pub returns : goal.returns
returns c =
    let d = c.args.domain in
    let a = c.args.alias in
    let low = IsPartitionPoint-from_clause (below_alias d a) _ _ c.partition_point-first.ensures.partitioned
    (below_alias_turns d a c.args.rows.now c.requires) (λ a r q k. search rules) in
    let high = IsPartitionPoint-from_clause (up_to_alias d a) _ _ c.partition_point-last.ensures.partitioned
    (up_to_alias_turns d a c.args.rows.now c.requires) (λ a r q k. search rules) in
    together (below_alias d a) (up_to_alias d a) (is_in_alias d a) (in_alias_is d a) (alias_later d a) c.args.rows.now _
    _
    c.partition_point-first.ensures.bound c.partition_point-last.ensures.bound low high
