-- The entries so far are those of the first so many rows.
use Rattle.std.proofs.Common.{◌≡◌, take, map}
use Rattle.acct_tables.proofs.entries.entries_of.Given as goal

abbrev pub invariant-loop-row : goal.invariant-loop-row
invariant-loop-row g l = l.entries.items ≡ map g.E.Entry.entry_of (take l.row-index l.rows)
