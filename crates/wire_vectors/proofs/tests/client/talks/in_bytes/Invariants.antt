-- The answer is still awaited, and no more bytes were taken than were passed.
use Rattle.std.proofs.Common.{◌≡◌, ◌+◌, ◌≤◌, true}
use Rattle.acct_client.specs.Askers.{bytes_taken}
use Rattle.wire_vectors.proofs.tests.client.talks.in_bytes.Given as goal

abbrev pub invariant-loop-place : goal.invariant-loop-place
invariant-loop-place l = record {
  awaited : l.asker.is_awaiting ≡ true;
  few : bytes_taken l.asker ≤ bytes_taken l.fn.asker + l.place;
}
