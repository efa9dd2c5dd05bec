-- The text so far, followed by that of the units left, is what was there and the text of all the units.
use Rattle.std.proofs.Common.{◌≡◌, ◌++◌, length, string_bytes}
use Rattle.client_commands.specs.Outcomes.{name_text}
use Rattle.client_commands.proofs.text.push_units.Given as goal

abbrev pub invariant-loop-point : goal.invariant-loop-point
invariant-loop-point l = string_bytes l.text ++ name_text l.left ≡ string_bytes l.fn.text ++ name_text l.units

abbrev pub decreases-loop-point : goal.decreases-loop-point
decreases-loop-point l = length l.left
