-- The connection's end is the last entry, and the calls and replies that it had are as they were.
use Rattle.link_sessions.proofs.Ending.{is-ended}
use Rattle.link_sessions.proofs.sessions.end_conn.Goals as goal

pub returns-clause-ended : goal.returns-clause-ended
returns-clause-ended g c =
    let a = c.args in
    let m = g.G.Gate in
    is-ended (m.start a.gate.now) a.conn (m.finds a.gate.now) (m.known a.gate.now) (m.known c.gone.new.self)
    (λ found finds. g.met.G.Gate.passes a.gate.now a.conn found c.requires.serves finds)
    (λ found finds. g.met.G.Gate.fronts a.gate.now found finds) c.gone.ensures.turn
