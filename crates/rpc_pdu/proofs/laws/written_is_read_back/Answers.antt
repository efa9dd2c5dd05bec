-- A PDU that claims no object is read back as it was written, by the side that reads its type, whatever follows.
use Rattle.rpc_pdu.proofs.WrittenPdu.{read_back}
use Rattle.rpc_pdu.proofs.laws.written_is_read_back.Goals as goal

pub returns : goal.returns
returns c = read_back
