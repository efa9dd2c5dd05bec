-- A prefix that is told to be a whole PDU is exactly a PDU of the grammar.
use Rattle.rpc_pdu.proofs.Exact.{exact}
use Rattle.rpc_pdu.proofs.laws.whole_is_exactly_a_pdu.Goals as goal

pub returns : goal.returns
returns c = exact
