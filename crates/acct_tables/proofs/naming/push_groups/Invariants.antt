-- What was pushed, and the keys of the rows to come, are those of all.
use Rattle.std.proofs.Common.{◌≡◌, ◌++◌, drop, map}
use Rattle.std.specs.List.{filter}
use Rattle.acct_tables.specs.Selected.{key_of_member}
use Rattle.acct_tables.specs.steps.Naming.{is_beside_group}
use Rattle.acct_tables.specs.steps.Users.{row_of}
use Rattle.acct_tables.proofs.naming.push_groups.Given as goal

abbrev pub invariant-loop-row : goal.invariant-loop-row
invariant-loop-row l =
    l.keys ++ map key_of_member (filter (is_beside_group l.fn.above l.fn.group) (map row_of (drop l.row-index l.rows)))
    ≡ l.fn.keys ++ map key_of_member (filter (is_beside_group l.fn.above l.fn.group) (map row_of l.rows))
