-- The source has the events that were made, whose lines are accepted.
use Rattle.std.proofs.Common.{List, ℕ, subst}
use Rattle.acct_commands.specs.Generating.{AreAccepted}
use Rattle.acct_commands.proofs.generating.events.Goals as goal

pub returns-clause-accepted : goal.returns-clause-accepted
returns-clause-accepted c =
    subst (λ (lines : List ℕ). AreAccepted lines) c.in_ok-generated.ensures.lines c.in_ok-generated.ensures.accepted
