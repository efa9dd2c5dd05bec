-- The elements read so far, with those that the bytes left give, are what reading all of them gives.
use Rattle.rpc_pdu.specs.Headers.{element_at}
use Rattle.acct_base.proofs.Many.{SoFar}
use Rattle.rpc_pdu.proofs.lists.read_elements.Given as goal

abbrev pub invariant-loop : goal.invariant-loop
invariant-loop l = SoFar element_at l.elements l.count l.counter l.fn.fields l.fields
