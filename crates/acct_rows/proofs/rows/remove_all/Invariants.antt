-- Removing the keys left gives what removing all of them gives, and the room is what it was.
use Rattle.std.proofs.Common.{◌≡◌, drop}
use Rattle.acct_rows.specs.Rows.{removed}
use Rattle.acct_rows.proofs.rows.remove_all.Given as goal

abbrev pub invariant-loop-key : goal.invariant-loop-key
invariant-loop-key l = record {
  rest : removed (drop l.key-index l.keys) l.rows.lists ≡ removed l.keys l.fn.rows.lists;
  spare : l.rows.spare ≡ l.fn.rows.spare;
  next : l.rows.lists.next_out ≡ l.fn.rows.lists.next_out;
}
