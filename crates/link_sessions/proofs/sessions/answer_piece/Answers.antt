-- Where answering the acts of a piece stops, the session ends for that reason.
use Rattle.std.proofs.Common.{sym, subst}
use Rattle.link_sessions.specs.Sessions.{Faults}
use Rattle.link_sessions.specs.steps.SoFar.{PieceEnds}
use Rattle.link_sessions.specs.declared.ends.SessionEnd.{SessionEnd}
use Rattle.link_sessions.proofs.SoFar.{stops-piece}
use Rattle.link_sessions.proofs.sessions.answer_piece.Goals as goal

pub returns-in-Err-clause-err : goal.returns-in-Err-clause-err
returns-in-Err-clause-err g c =
    let a = c.args in
    let m = g.G.Gate in
    let t = g.L.Link in
    subst (λ (e : SessionEnd). PieceEnds (m.start a.gate.now) a.conn a.acts.now (m.known a.gate.now)
    (m.known c.answer_on.new.gate) (t.told a.link.now) (t.told c.answer_on.new.link) e) (sym c.end_of.ensures)
    (stops-piece (m.start a.gate.now) a.conn a.acts.now (m.known a.gate.now) (m.known c.answer_on.new.gate)
    (t.told a.link.now) (t.told c.answer_on.new.link) c.in-Err.stop c.in-Err.ensures.err)

pub returns-in-Err-clause-faults : goal.returns-in-Err-clause-faults
returns-in-Err-clause-faults g c =
    let t = g.L.Link in
    subst (λ (e : SessionEnd). Faults e (t.told c.args.link.now) (t.told c.answer_on.new.link)) (sym c.end_of.ensures)
    c.in-Err.ensures.faults
