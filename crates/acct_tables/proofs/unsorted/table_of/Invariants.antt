-- Putting the rows left gives what putting all gives, and there is room for them.
use Rattle.std.proofs.Common.{◌≡◌, ◌≤◌, [], length}
use Rattle.std.specs.Vec.Iter.{into_iter_items}
use Rattle.acct_tables.specs.KeyedRows.{put_each}
use Rattle.acct_tables.proofs.unsorted.table_of.Given as goal

abbrev pub invariant-loop-row : goal.invariant-loop-row
invariant-loop-row g l = record {
  rest : put_each g.T.Keyed.key_of (into_iter_items l.row-iterator) l.table.0
      ≡ put_each g.T.Keyed.key_of l.fn.rows.items [];
  room : length (into_iter_items l.row-iterator) ≤ l.table.1;
}
