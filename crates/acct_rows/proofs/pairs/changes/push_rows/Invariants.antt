-- The changes so far, then those of the rows left, are what was there and those of all; the rows left can be encoded.
use Rattle.std.proofs.Common.{◌≡◌, ◌++◌, length}
use Rattle.acct_rows.specs.Changes.{rows_written, LastFit}
use Rattle.acct_rows.proofs.pairs.changes.push_rows.Given as goal

abbrev pub invariant-loop-row : goal.invariant-loop-row
invariant-loop-row l = record {
  rest : l.changes.items ++ rows_written l.rows.lists l.left ≡ l.fn.changes.items ++ rows_written l.rows.lists l.puts;
  fit : LastFit l.left;
}

abbrev pub decreases-loop-row : goal.decreases-loop-row
decreases-loop-row l = length l.left
