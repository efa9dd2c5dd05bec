-- The changes so far, then the removals of the keys left, are those that were there and the removals of all keys.
use Rattle.std.proofs.Common.{◌≡◌, ◌++◌, drop}
use Rattle.acct_rows.specs.Changes.{removals}
use Rattle.acct_rows.proofs.pairs.changes.push_removals.Given as goal

abbrev pub invariant-loop-key : goal.invariant-loop-key
invariant-loop-key l =
    l.changes.items ++ removals l.rows.lists l.puts (drop l.key-index l.keys)
    ≡ l.fn.changes.items ++ removals l.rows.lists l.puts l.keys
