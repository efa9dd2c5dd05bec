-- The lines of the first so many calls were added, and the next call id is that many above the first.
use Rattle.std.proofs.Common.{◌≡◌, ◌+◌, ◌++◌, take}
use Rattle.acct_commands.specs.Generated.{call_lines}
use Rattle.acct_commands.specs.steps.Taken.{AreTaken}
use Rattle.acct_commands.proofs.events.push_calls.Given as goal

abbrev pub invariant-loop-call : goal.invariant-loop-call
invariant-loop-call l =
    (l.lines.items ≡ l.initial.lines.items ++ call_lines l.id (take l.call-index l.calls))
    × (l.next ≡ l.id + l.call-index) × (AreTaken l.initial.lines.items → AreTaken l.lines.items)
