-- The acts of a stream are exactly those of the PDUs that it's divided into and of the end after them.
use Rattle.rpc_session.proofs.Pdus.{are_of_pdus, are_acts}
use Rattle.rpc_session.proofs.laws.acts_are_of_pdus.Goals as goal

pub returns-clause-any : goal.returns-clause-any
returns-clause-any c = are_of_pdus c.front_is_stable.ensures c.whole_is_exactly_a_pdu.ensures

pub returns-clause-each : goal.returns-clause-each
returns-clause-each c = are_acts c.front_is_stable.ensures c.whole_is_exactly_a_pdu.ensures c.bytes_divide_once.ensures
