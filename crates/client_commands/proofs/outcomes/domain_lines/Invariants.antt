-- The lines so far are those of the first so many domains.
use Rattle.std.proofs.Common.{◌≡◌, take, flat_map}
use Rattle.client_commands.specs.Outcomes.{domain_line}
use Rattle.client_commands.proofs.outcomes.domain_lines.Given as goal

abbrev pub invariant-loop-entry : goal.invariant-loop-entry
invariant-loop-entry l = l.lines ≡ flat_map domain_line (take l.entry-index l.entries)
