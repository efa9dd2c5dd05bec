-- A stream brings the same acts wherever it is cut into pieces.
use Rattle.rpc_session.proofs.Cutting.{cut_anywhere_is}
use Rattle.rpc_session.proofs.laws.streams_are_cut_anywhere.Goals as goal

pub returns : goal.returns
returns c = cut_anywhere_is c.front_is_stable.ensures
