-- The bytes of the first so many outcomes were added, and the UUID of each of these has its 16 bytes.
use Rattle.rpc_pdu.specs.Written.{outcome_bytes}
use Rattle.rpc_pdu.specs.Written.{IsWholeOutcome}
use Rattle.rpc_pdu.proofs.Pushes.{Pushed}
use Rattle.rpc_pdu.proofs.writing.push_outcomes.Given as goal

abbrev pub invariant-loop-outcome : goal.invariant-loop-outcome
invariant-loop-outcome l = Pushed outcome_bytes IsWholeOutcome l.fn.out.items l.out.items l.outcomes l.outcome-index
