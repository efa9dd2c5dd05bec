-- The acts so far, and how the connection stands, are those of the bytes that were passed.
use Rattle.std.proofs.Common.{take}
use Rattle.rpc_session.specs.Acts.{IsSoFar}
use Rattle.wire_vectors.proofs.tests.rpc.streams.heard_by_bytes.Given as goal

abbrev pub invariant-loop-byte : goal.invariant-loop-byte
invariant-loop-byte l = IsSoFar 1 (take l.byte-index l.stream) l.connection l.acts.items
