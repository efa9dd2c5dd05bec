-- The bytes that `make_call` answers are those of the reply that the machine gave in its turn.
use Rattle.link_sessions.proofs.Requesting.{call-answered}
use Rattle.link_sessions.proofs.requests.make_call.Goals as goal

pub returns-in_ok-bytes-in-Reply-clause-answers : goal.returns-in_ok-bytes-in-Reply-clause-answers
returns-in_ok-bytes-in-Reply-clause-answers g c =
    let a = c.args in
    call-answered (g.G.Gate.start a.gate.now) a.conn (g.G.Gate.finds a.gate.now) (g.G.Gate.known c.act.new.self)
    a.asked.now a.stub_size a.call c.in-Reply.reply c.in_ok-bytes-in-Reply.bytes.items c.in-Reply.ensures.turn
    c.in_ok-bytes-in-Reply.ensures
