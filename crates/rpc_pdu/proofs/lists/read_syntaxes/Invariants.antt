-- The syntaxes read so far, with those that the bytes left give, are what reading all of them gives.
use Rattle.rpc_pdu.specs.Headers.{syntax_at}
use Rattle.acct_base.proofs.Many.{SoFar}
use Rattle.rpc_pdu.proofs.lists.read_syntaxes.Given as goal

abbrev pub invariant-loop : goal.invariant-loop
invariant-loop l = SoFar syntax_at l.syntaxes l.count l.counter l.fn.fields l.fields
