-- A hearing to which nothing has come is that of the empty stream, which has no acts.
use Rattle.rpc_session.proofs.Steps.{heard_nothing}
use Rattle.rpc_session.proofs.hearing.Bytes2Acts.new.Goals as goal

pub returns : goal.returns
returns c = (rw c.new.ensures (heard_nothing c.args.conn))
