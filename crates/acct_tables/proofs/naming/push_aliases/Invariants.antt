-- What was pushed, and the keys of the rows to come, are those of all.
use Rattle.std.proofs.Common.{◌≡◌, ◌++◌, drop, map}
use Rattle.acct_tables.specs.Selected.{key_of_alias}
use Rattle.acct_tables.proofs.naming.push_aliases.Given as goal

abbrev pub invariant-loop-row : goal.invariant-loop-row
invariant-loop-row l =
    l.keys ++ map key_of_alias (drop l.row-index l.rows) ≡ l.fn.keys ++ map key_of_alias l.rows
