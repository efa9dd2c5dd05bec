-- The responses of a reply bring its stub in parts, of which each but the last has as many bytes as fit.
use Rattle.rpc_session.proofs.Brings.{replies_bring_stubs}
use Rattle.rpc_session.proofs.laws.replies_bring_stubs.Goals as goal

pub returns : goal.returns
returns c = replies_bring_stubs
