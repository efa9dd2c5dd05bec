-- Bytes are divided in one way into whole PDUs and an end that is the beginning of one or is refused.
use Rattle.rpc_pdu.proofs.Divided.{all_divide_once}
use Rattle.rpc_pdu.proofs.laws.bytes_divide_once.Goals as goal

pub returns : goal.returns
returns c = all_divide_once
