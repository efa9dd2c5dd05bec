-- A group has no more members than there are member rows, so their number fits 32 bits.
use Rattle.std.proofs.Common.{◌≡◌, length, ap, arith}
use Rattle.std.specs.List.{filter}
use Rattle.acct_tables.specs.Selected.{is_in_group}
use Rattle.samr_objects.proofs.Listing.{filter-few}
use Rattle.samr_objects.proofs.queries.member_count.Goals as goal

pub overflow_cast-result : goal.overflow_cast-result
overflow_cast-result c =
    let rows = c.args.rows.now.lists.members in
    let part = is_in_group c.args.group in
    let count : length c.group_members.result.now ≡ length (filter part rows) = ap length c.group_members.ensures in
    omega (arith, count, filter-few part rows, c.has_few_rows.ensures.members)
