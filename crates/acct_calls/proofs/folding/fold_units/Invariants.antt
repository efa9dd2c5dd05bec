-- The units made so far, followed by the folding of the units left, are the folding of all the units.
use Rattle.std.proofs.Common.{◌≡◌, ◌++◌, length}
use Rattle.acct_calls.specs.Names.{folded}
use Rattle.acct_calls.proofs.folding.fold_units.Given as goal

abbrev pub invariant-loop-point : goal.invariant-loop-point
invariant-loop-point l = l.made.items ++ folded l.left ≡ folded l.units

abbrev pub decreases-loop-point : goal.decreases-loop-point
decreases-loop-point l = length l.left
