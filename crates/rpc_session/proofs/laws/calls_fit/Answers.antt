-- A call's reply is cut by a size from 1,432 to 4,280, and its stub has at most 1,048,576 bytes.
use Rattle.rpc_session.proofs.Fit.{all_fit}
use Rattle.rpc_session.proofs.laws.calls_fit.Goals as goal

pub returns : goal.returns
returns c = all_fit
