-- The lines so far, followed by those of the names and entries left, are those of all the names.
use Rattle.std.proofs.Common.{◌≡◌, ◌++◌, drop}
use Rattle.client_commands.specs.Outcomes.{name_lines}
use Rattle.client_commands.proofs.outcomes.name_lines.Given as goal

abbrev pub invariant-loop-place : goal.invariant-loop-place
invariant-loop-place l =
    l.lines ++ name_lines (drop l.place l.names) (drop l.place l.entries) ≡ name_lines l.names l.entries
