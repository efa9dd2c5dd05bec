-- The pass, still of the lock, opened the connection, and its calls on it so far have numbers below the next.
use Rattle.std.proofs.Common.{◌≡◌, ℕ, ◌<◌}
use Rattle.hist_lock.specs.Histories.{In, Opened}
use Rattle.hist_lock.specs.Passes.{view, IsPassOf}
use Rattle.server_vectors.specs.declared.tests.lock.connections.Entry.TheVariants.{Called}
use Rattle.server_vectors.specs.contracts.tests.lock.connections.LogKept.TheImpl.{lane-value}
use Rattle.server_vectors.proofs.tests.lock.connections.work.Given as goal

abbrev pub invariant-loop-call : goal.invariant-loop-call
invariant-loop-call g l = record {
  pass : IsPassOf l.lock l.pass;
  number : (view l.pass).number ≡ (view l.initial.pass).number;
  opened : Opened lane-value.it (view l.pass).own l.conn;
  numbers : (p n : ℕ) → In (view l.pass).own p (Called l.conn n) → n < l.call;
}
