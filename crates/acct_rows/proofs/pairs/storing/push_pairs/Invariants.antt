-- The pairs of the first so many rows were added, in order, after what was there.
use Rattle.std.proofs.Common.{◌≡◌, ◌++◌, map, take}
use Rattle.acct_rows.proofs.pairs.storing.push_pairs.Given as goal

abbrev pub invariant-loop-row : goal.invariant-loop-row
invariant-loop-row g l = l.pairs.items ≡ l.fn.pairs.items ++ map g.T.Paired.stored (take l.row-index l.rows)
