-- A connection has as many replies as calls in each history.
use Rattle.acct_machine.specs.State.{first}
use Rattle.acct_machine.proofs.History.{length-replies}
use Rattle.acct_machine.proofs.laws.each_call_has_a_reply.Goals as goal

pub returns : goal.returns
returns c = λ start k history. length-replies (first start) k history
