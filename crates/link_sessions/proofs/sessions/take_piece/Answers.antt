-- Where memory runs out as a piece is heard, none of its acts was entered and nothing was sent.
use Rattle.rpc_session.specs.Sessions.{on}
use Rattle.link_sessions.proofs.Faults.{faults-none}
use Rattle.link_sessions.proofs.Talks.{stops-wanting, wanting-none}
use Rattle.link_sessions.proofs.sessions.take_piece.Goals as goal

pub returns-in-Err-clause-err : goal.returns-in-Err-clause-err
returns-in-Err-clause-err g c =
    let a = c.args in
    let m = g.G.Gate in
    let h = m.known a.gate.now in
    let as' = (on a.stream.now a.piece.now).acts in
    stops-wanting (m.start a.gate.now) a.conn as' h h (g.L.Link.told a.link.now)
    (wanting-none (m.start a.gate.now) a.conn as' h)

pub returns-in-Err-clause-faults : goal.returns-in-Err-clause-faults
returns-in-Err-clause-faults g c = faults-none (g.L.Link.told c.args.link.now)
