-- Hearing the bytes left, with the reply gathered so far, gives what hearing all the bytes gives.
use Rattle.std.proofs.Common.{◌≡◌, ◌+◌, ◌-◌, ◌≤◌, length, drop}
use Rattle.acct_client.specs.Hearings.{hear}
use Rattle.acct_client.proofs.hearing.hear.Given as goal

abbrev pub invariant-loop-bytes : goal.invariant-loop-bytes
invariant-loop-bytes l = record {
  within : l.at ≤ length l.bytes;
  same : l.bytes ≡ l.fn.bytes;
  hearing : hear l.awaited (l.place + l.at) l.reply (drop l.at l.bytes) ≡ hear l.awaited l.place l.fn.reply l.fn.bytes;
}

abbrev pub decreases-loop-bytes : goal.decreases-loop-bytes
decreases-loop-bytes l = length l.bytes - l.at
