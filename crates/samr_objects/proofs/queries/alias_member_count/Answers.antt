-- An alias has no more members than there are alias rows, so their number fits 32 bits.
use Rattle.std.proofs.Common.{◌≡◌, length, ap, arith}
use Rattle.std.specs.List.{filter}
use Rattle.acct_tables.specs.Selected.{is_in_alias}
use Rattle.samr_objects.proofs.Listing.{filter-few}
use Rattle.samr_objects.proofs.queries.alias_member_count.Goals as goal

pub overflow_cast-result : goal.overflow_cast-result
overflow_cast-result c =
    let rows = c.args.rows.now.lists.aliases in
    let part = is_in_alias c.args.domain c.args.alias in
    let count : length c.alias_members.result.now ≡ length (filter part rows) = ap length c.alias_members.ensures in
    omega (arith, count, filter-few part rows, c.has_few_rows.ensures.aliases)
