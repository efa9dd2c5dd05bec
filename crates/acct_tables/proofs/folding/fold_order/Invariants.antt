-- The code points passed fold to the same: what is left of the two decides their order.
use Rattle.std.proofs.Common.{◌≡◌, length}
use Rattle.acct_calls.specs.Names.{folded_points}
use Rattle.acct_tables.specs.KeyedRows.{compare}
use Rattle.acct_tables.proofs.folding.fold_order.Given as goal

abbrev pub invariant-loop-our_first : goal.invariant-loop-our_first
invariant-loop-our_first l =
    compare (folded_points l.ours) (folded_points l.theirs) ≡ compare (folded_points l.left) (folded_points l.right)

abbrev pub decreases-loop-our_first : goal.decreases-loop-our_first
decreases-loop-our_first l = length l.ours
