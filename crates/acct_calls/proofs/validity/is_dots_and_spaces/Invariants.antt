-- Each code point that was passed is a dot or a space: the units left decide.
use Rattle.std.proofs.Common.{◌≡◌, length}
use Rattle.acct_calls.specs.Names.{is_dots_and_spaces}
use Rattle.acct_calls.proofs.validity.is_dots_and_spaces.Given as goal

abbrev pub invariant-loop-point : goal.invariant-loop-point
invariant-loop-point l = is_dots_and_spaces l.left ≡ is_dots_and_spaces l.units

abbrev pub decreases-loop-point : goal.decreases-loop-point
decreases-loop-point l = length l.left
