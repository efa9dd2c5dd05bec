-- The aliases so far, then those of the matching rows that come next, are all that have the SID in the domain.
use Rattle.std.proofs.Common.{◌≡◌, ◌++◌, drop, map}
use Rattle.std.specs.List.{filter}
use Rattle.acct_tables.specs.steps.Indexes.{is_for, alias_number_of}
use Rattle.acct_tables.proofs.Runs.{leading}
use Rattle.acct_tables.proofs.membership.push_aliases.Given as goal

abbrev pub invariant-loop-row : goal.invariant-loop-row
invariant-loop-row l =
    l.rids.items ++ map alias_number_of (leading (is_for l.domain l.sid) (drop l.row-index l.row-items))
    ≡ l.fn.rids.items ++ map alias_number_of (filter (is_for l.fn.domain l.fn.sid) l.fn.rows)
