-- The lines so far are those of the first so many traces.
use Rattle.std.proofs.Common.{◌≡◌, take}
use Rattle.acct_commands.specs.AuditLines.{trace_lines}
use Rattle.acct_commands.proofs.audit_lines.trace_lines.Given as goal

abbrev pub invariant-loop-trace : goal.invariant-loop-trace
invariant-loop-trace l = l.lines.items ≡ trace_lines (take l.trace-index l.traces)
