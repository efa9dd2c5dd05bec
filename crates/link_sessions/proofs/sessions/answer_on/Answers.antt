-- What is taken of a link's answers is what is sent on it.
use Rattle.link_sessions.proofs.Results.{on-ok, if-err, of-both}
use Rattle.link_sessions.proofs.Taken.{acts-talk, acts-stop, acts-quiet, acts-fault}
use Rattle.link_sessions.proofs.sessions.answer_on.Goals as goal

pub returns-clause-ok : goal.returns-clause-ok
returns-clause-ok g c =
    let a = c.args in
    let m = g.G.Gate in
    on-ok c.answer_all.result
    (acts-talk g.L.Link.told m.start m.known m.finds m.serves a.conn g.met.G.Gate.fronts g.met.G.Gate.passes a.acts.now
    a.link.now a.gate.now c.answer_all.new.taker c.answer_all.new.gate) c.answer_all.ensures.ok

pub returns-clause-err : goal.returns-clause-err
returns-clause-err g c =
    let a = c.args in
    let m = g.G.Gate in
    if-err c.answer_all.result
    (λ why halts. acts-stop g.L.Link.told m.start m.known m.finds m.serves a.conn g.met.G.Gate.fronts
    g.met.G.Gate.passes a.acts.now a.link.now a.gate.now c.answer_all.new.taker c.answer_all.new.gate why halts)
    c.answer_all.ensures.err

pub returns-clause-faults : goal.returns-clause-faults
returns-clause-faults g c =
    let a = c.args in
    let m = g.G.Gate in
    of-both c.answer_all.result
    (acts-quiet g.L.Link.told m.start m.known m.finds m.serves a.conn g.met.G.Gate.fronts g.met.G.Gate.passes a.acts.now
    a.link.now a.gate.now c.answer_all.new.taker c.answer_all.new.gate)
    (λ why halts. acts-fault g.L.Link.told m.start m.known m.finds m.serves a.conn g.met.G.Gate.fronts
    g.met.G.Gate.passes a.acts.now a.link.now a.gate.now c.answer_all.new.taker c.answer_all.new.gate why halts)
    c.answer_all.ensures.ok c.answer_all.ensures.err
