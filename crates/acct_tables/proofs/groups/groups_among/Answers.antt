-- The users rise, so what lies from the first row not below a user to the first above it is just its groups.
use Rattle.std.proofs.Common.{leb, ltb, arith, rules}
use Rattle.std.proofs.lemmas.List.Sorted.{IsPartitionPoint-from_clause, IsPartitionedBy-leb, IsPartitionedBy-ltb}
use Rattle.acct_tables.proofs.Together.{in_order, together}
use Rattle.acct_tables.proofs.Users.{user, users_rise}
use Rattle.acct_tables.proofs.groups.groups_among.Goals as goal

pub slice_bounds-result-count : goal.slice_bounds-result-count
slice_bounds-result-count c =
    let risen = users_rise c.args.rows.now c.requires in
    let below = IsPartitionPoint-from_clause (λ b. ltb (user b) c.args.user) _ _
    c.partition_point-first.ensures.partitioned (IsPartitionedBy-ltb user _ c.args.user risen)
    (λ a r q k. search rules) in
    let up_to = IsPartitionPoint-from_clause (λ b. leb (user b) c.args.user) _ _
    c.partition_point-last.ensures.partitioned (IsPartitionedBy-leb user _ c.args.user risen)
    (λ a r q k. search rules) in
    in_order user c.args.user c.args.rows.now _ _ c.partition_point-first.ensures.bound below up_to

pub slice_bounds-result-start : goal.slice_bounds-result-start
slice_bounds-result-start c = let le = slice_bounds-result-count c in omega arith

pub returns : goal.returns
returns c =
    let risen = users_rise c.args.rows.now c.requires in
    let below = IsPartitionPoint-from_clause (λ b. ltb (user b) c.args.user) _ _
    c.partition_point-first.ensures.partitioned (IsPartitionedBy-ltb user _ c.args.user risen)
    (λ a r q k. search rules) in
    let up_to = IsPartitionPoint-from_clause (λ b. leb (user b) c.args.user) _ _
    c.partition_point-last.ensures.partitioned (IsPartitionedBy-leb user _ c.args.user risen)
    (λ a r q k. search rules) in
    together user c.args.user c.args.rows.now _ _ c.partition_point-first.ensures.bound
    c.partition_point-last.ensures.bound below up_to
