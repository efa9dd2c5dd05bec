-- The lines so far are those of the first so many users.
use Rattle.std.proofs.Common.{◌≡◌, take, flat_map}
use Rattle.client_commands.specs.Outcomes.{user_line}
use Rattle.client_commands.proofs.outcomes.user_lines.Given as goal

abbrev pub invariant-loop-entry : goal.invariant-loop-entry
invariant-loop-entry l = l.lines ≡ flat_map user_line (take l.entry-index l.entries)
