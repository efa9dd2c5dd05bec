-- The copies so far are the first so many rows.
use Rattle.std.proofs.Common.{◌≡◌, take}
use Rattle.acct_tables.proofs.copies.copies_of.Given as goal

abbrev pub invariant-loop-row : goal.invariant-loop-row
invariant-loop-row g l = l.copies.items ≡ take l.row-index l.rows
