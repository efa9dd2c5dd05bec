-- A prefix that is a whole PDU or is refused stays so, however the stream goes on.
use Rattle.rpc_pdu.proofs.Whole.{stable}
use Rattle.rpc_pdu.proofs.laws.front_is_stable.Goals as goal

pub returns : goal.returns
returns c = stable
