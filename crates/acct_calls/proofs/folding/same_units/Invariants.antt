-- The code points passed fold to the same: the two are the same exactly if what is left of them is the same.
use Rattle.std.proofs.Common.{◌≡◌, length}
use Rattle.acct_calls.specs.Names.{is_same}
use Rattle.acct_calls.proofs.folding.same_units.Given as goal

abbrev pub invariant-loop-our_first : goal.invariant-loop-our_first
invariant-loop-our_first l = is_same l.ours l.theirs ≡ is_same l.left l.right

abbrev pub decreases-loop-our_first : goal.decreases-loop-our_first
decreases-loop-our_first l = length l.ours
