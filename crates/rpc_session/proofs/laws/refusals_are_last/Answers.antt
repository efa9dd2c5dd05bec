-- A refusal is the last act of a stream, and nothing after it is heard.
use Rattle.rpc_session.proofs.Fit.{refusals_last}
use Rattle.rpc_session.proofs.laws.refusals_are_last.Goals as goal

pub returns : goal.returns
returns c = refusals_last
