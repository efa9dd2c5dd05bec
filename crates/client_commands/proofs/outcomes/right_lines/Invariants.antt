-- The lines so far are those of the first so many rights.
use Rattle.std.proofs.Common.{◌≡◌, take, flat_map}
use Rattle.client_commands.specs.Outcomes.{right_line}
use Rattle.client_commands.proofs.outcomes.right_lines.Given as goal

abbrev pub invariant-loop-right : goal.invariant-loop-right
invariant-loop-right l = l.lines ≡ flat_map right_line (take l.right-index l.rights)
