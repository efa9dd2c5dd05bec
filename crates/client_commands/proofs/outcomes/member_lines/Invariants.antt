-- The lines so far are those of the first so many members.
use Rattle.std.proofs.Common.{◌≡◌, take, flat_map}
use Rattle.client_commands.specs.Outcomes.{member_line}
use Rattle.client_commands.proofs.outcomes.member_lines.Given as goal

abbrev pub invariant-loop-member : goal.invariant-loop-member
invariant-loop-member l = l.lines ≡ flat_map member_line (take l.member-index l.members)
