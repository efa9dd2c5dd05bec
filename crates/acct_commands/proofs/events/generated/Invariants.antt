-- The lines so far are the beginning and those of the calls so far, and the next call id follows on theirs.
use Rattle.std.proofs.Common.{◌≡◌, ◌+◌, ◌*◌, ◌≤◌, ◌++◌, length}
use Rattle.acct_commands.specs.Generated.{beginning, call_lines}
use Rattle.acct_commands.specs.steps.Taken.{AreTaken}
use Rattle.acct_commands.proofs.Lines.{so_far}
use Rattle.acct_commands.proofs.events.generated.Given as goal

abbrev pub invariant-loop-before : goal.invariant-loop-before
invariant-loop-before l =
    (l.lines.items ≡ beginning ++ call_lines 2 (so_far l.before)) × (l.id ≡ 2 + length (so_far l.before))
    × (l.id ≤ 5 + 4 * l.before) × AreTaken l.lines.items
