-- The acts added so far, with what is heard in the bytes left, are all that is heard in the bytes.
use Rattle.std.proofs.Common.{◌≡◌, ◌+◌, ◌-◌, ◌≤◌, length, drop}
use Rattle.rpc_pdu.specs.declared.pdus.Side.TheVariants.{Server}
use Rattle.rpc_pdu.specs.Bodies.{Rest, front}
use Rattle.rpc_session.specs.Sessions.{hear}
use Rattle.rpc_session.proofs.Steps.{IsHearing}
use Rattle.rpc_session.proofs.hearing.hear.Given as goal

abbrev pub invariant-loop-bytes : goal.invariant-loop-bytes
invariant-loop-bytes l = record {
  within : l.at ≤ length l.bytes;
  same : l.bytes ≡ l.fn.bytes;
  hearing : IsHearing l.fn.acts.items l.acts.items l.conn (l.place + l.at) l.session (drop l.at l.bytes)
      (hear l.conn l.place l.fn.session l.fn.bytes);
  still : front Server l.fn.bytes ≡ Rest → l.at ≡ 0;
}

abbrev pub decreases-loop-bytes : goal.decreases-loop-bytes
decreases-loop-bytes l = length l.bytes - l.at
