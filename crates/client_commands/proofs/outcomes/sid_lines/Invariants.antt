-- The lines so far, followed by those of the SIDs and entries left, are those of all the SIDs.
use Rattle.std.proofs.Common.{◌≡◌, ◌++◌, drop}
use Rattle.client_commands.specs.Outcomes.{sid_lines}
use Rattle.client_commands.proofs.outcomes.sid_lines.Given as goal

abbrev pub invariant-loop-place : goal.invariant-loop-place
invariant-loop-place l =
    l.lines ++ sid_lines (drop l.place l.sids) (drop l.place l.entries) ≡ sid_lines l.sids l.entries
