-- Putting the rows left gives what putting all gives, and each row that was put took one place of the room.
use Rattle.std.proofs.Common.{◌≡◌, ◌+◌, ◌≤◌, length}
use Rattle.std.specs.Vec.Iter.{into_iter_items}
use Rattle.acct_rows.specs.Rows.{with_puts, TakeNumbers}
use Rattle.acct_rows.proofs.rows.put_all.Given as goal

abbrev pub invariant-loop-row : goal.invariant-loop-row
invariant-loop-row l = record {
  rest : with_puts (into_iter_items l.row-iterator) l.rows.lists ≡ with_puts l.fn.puts.items l.fn.rows.lists;
  spare : l.rows.spare + length l.fn.puts.items ≡ l.fn.rows.spare + length (into_iter_items l.row-iterator);
  room : length l.fn.puts.items ≤ l.fn.rows.spare;
  numbers : TakeNumbers l.rows.lists.next_out (into_iter_items l.row-iterator);
}
