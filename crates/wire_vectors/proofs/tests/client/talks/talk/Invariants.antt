-- No answer is awaited between two requests, and no more bytes were taken than were counted.
use Rattle.std.proofs.Common.{◌≡◌, ◌≤◌, false}
use Rattle.acct_client.specs.Askers.{bytes_taken}
use Rattle.wire_vectors.proofs.tests.client.talks.talk.Given as goal

abbrev pub invariant-loop-place : goal.invariant-loop-place
invariant-loop-place g l = record {
  idle : l.asker.is_awaiting ≡ false;
  few : bytes_taken l.asker ≤ l.taken;
}
