-- What was pushed, and the keys of the rows to come, are those of all.
use Rattle.std.proofs.Common.{◌≡◌, ◌++◌, drop, map}
use Rattle.std.specs.List.{filter}
use Rattle.acct_tables.specs.Selected.{key_of_alias}
use Rattle.acct_tables.specs.steps.Naming.{is_beside_alias, alias_row}
use Rattle.acct_tables.proofs.naming.push_memberships.Given as goal

abbrev pub invariant-loop-row : goal.invariant-loop-row
invariant-loop-row l =
    l.keys
    ++ map key_of_alias (filter (is_beside_alias l.fn.above l.fn.domain l.fn.alias)
    (map alias_row (drop l.row-index l.rows)))
    ≡ l.fn.keys ++ map key_of_alias (filter (is_beside_alias l.fn.above l.fn.domain l.fn.alias) (map alias_row l.rows))
