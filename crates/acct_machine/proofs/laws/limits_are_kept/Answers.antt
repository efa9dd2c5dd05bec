-- A legal history has no more connections, calls and bytes of stubs than its configuration says.
use Rattle.acct_machine.proofs.Counting.{limits-are-kept}
use Rattle.acct_machine.proofs.laws.limits_are_kept.Goals as goal

pub returns : goal.returns
returns c = limits-are-kept
