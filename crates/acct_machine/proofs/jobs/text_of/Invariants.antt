-- The text so far, followed by that of the units left, is that of all the units.
use Rattle.std.proofs.Common.{◌≡◌, ◌++◌, length, string_bytes}
use Rattle.acct_machine.specs.Jobs.{utf8_of}
use Rattle.acct_machine.proofs.jobs.text_of.Given as goal

abbrev pub invariant-loop-point : goal.invariant-loop-point
invariant-loop-point l = string_bytes l.text ++ utf8_of l.left ≡ utf8_of l.units

abbrev pub decreases-loop-point : goal.decreases-loop-point
decreases-loop-point l = length l.left
