-- `fault_bytes` meets its contract: its bytes are those of a fault that is written.
use Rattle.std.proofs.Common.{rules}
use Rattle.rpc_pdu.specs.Written.{written, body_bytes}
use Rattle.rpc_session.specs.Answers.{fault_bytes}
use Rattle.rpc_session.proofs.replies.fault_bytes.Goals as goal

pub returns : goal.returns
unfolding fault_bytes written body_bytes
returns c = search rules
