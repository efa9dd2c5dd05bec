-- Each code point that was passed may stand in a name: the units left decide.
use Rattle.std.proofs.Common.{◌≡◌, length}
use Rattle.acct_calls.specs.Names.{all_may_stand}
use Rattle.acct_calls.proofs.validity.all_may_stand.Given as goal

abbrev pub invariant-loop-point : goal.invariant-loop-point
invariant-loop-point l = all_may_stand l.left ≡ all_may_stand l.units

abbrev pub decreases-loop-point : goal.decreases-loop-point
decreases-loop-point l = length l.left
