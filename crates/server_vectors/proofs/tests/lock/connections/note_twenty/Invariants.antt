-- The pass is of the lock, and keeps its number and how many passes it made and joined.
use Rattle.hist_lock.specs.Views.{IsSamePass}
use Rattle.hist_lock.specs.Passes.{view, IsPassOf}
use Rattle.server_vectors.proofs.tests.lock.connections.note_twenty.Given as goal

abbrev pub invariant-loop-note : goal.invariant-loop-note
invariant-loop-note g l = record {
  pass : IsPassOf l.lock l.first;
  same : IsSamePass (view l.initial.first) (view l.first);
}
