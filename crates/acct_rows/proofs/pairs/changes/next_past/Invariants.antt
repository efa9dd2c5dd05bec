-- The number so far, and the rows left, give what the first number and all rows give; the rows left take their numbers.
use Rattle.std.proofs.Common.{◌≡◌, drop}
use Rattle.acct_rows.specs.Rows.{next_past, TakeNumbers}
use Rattle.acct_rows.proofs.pairs.changes.next_past.Given as goal

abbrev pub invariant-loop-row : goal.invariant-loop-row
invariant-loop-row l = record {
  rest : next_past l.next (drop l.row-index l.puts) ≡ next_past l.fn.next l.puts;
  numbers : TakeNumbers l.next (drop l.row-index l.puts);
}
