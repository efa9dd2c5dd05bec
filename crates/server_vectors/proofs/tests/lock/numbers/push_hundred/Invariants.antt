-- The pass is of the lock and keeps its number.
use Rattle.std.proofs.Common.{◌≡◌}
use Rattle.hist_lock.specs.Passes.{view, IsPassOf}
use Rattle.server_vectors.proofs.tests.lock.numbers.push_hundred.Given as goal

abbrev pub invariant-loop-number : goal.invariant-loop-number
invariant-loop-number g l = IsPassOf l.lock l.pass × ((view l.pass).number ≡ (view l.initial.pass).number)
