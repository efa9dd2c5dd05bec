-- A request is answered, or it stops at an answer that isn't taken, at a full history or where memory runs out.
use Rattle.std.proofs.Common.{ℕ, List, refl, sym, subst}
use Rattle.rpc_session.specs.declared.sessions.Act.TheVariants as act
use Rattle.link_sessions.specs.Transcript.{call_on}
use Rattle.link_sessions.specs.Taking.{HaltsAct}
use Rattle.link_sessions.specs.declared.ends.Stop.{Stop}
use Rattle.link_sessions.proofs.Results.{on-ok, if-err}
use Rattle.link_sessions.proofs.Taken.{full-request}
use Rattle.link_sessions.proofs.answers.answer_request.Goals as goal

pub returns-in-Ok-Bytes-clause-ok : goal.returns-in-Ok-Bytes-clause-ok
returns-in-Ok-Bytes-clause-ok g c =
    let t = g.T.Taker in
    on-ok c.give.result
    (λ taken. record {
      served = c.requires.serves;
      same = c.request.ensures.start;
      bytes = c.in-Ok-Bytes.bytes.items;
      answers = rw c.in-Ok-Bytes.field-0-is at c.in-Ok-Bytes.ensures.answers;
      taken = subst (λ (bs : List ℕ). t.takes c.args.taker.now bs c.give.new.taker) c.deref.ensures.value taken;
    }) c.give.ensures.ok

pub returns-in-Ok-Bytes-clause-err : goal.returns-in-Ok-Bytes-clause-err
returns-in-Ok-Bytes-clause-err g c =
    let a = c.args in
    let m = g.G.Gate in
    let t = g.T.Taker in
    if-err c.give.result
    (λ why failed. subst (λ (w : Stop). HaltsAct t.takes t.fails m.start m.known m.finds a.conn (act.Call a.asked.now)
    a.taker.now a.gate.now c.give.new.taker c.request.new.gate w) (sym failed.0)
    (record {
      bytes = c.in-Ok-Bytes.bytes.items;
      answers = rw c.in-Ok-Bytes.field-0-is at c.in-Ok-Bytes.ensures.answers;
      failed = subst (λ (bs : List ℕ). t.fails a.taker.now bs c.give.new.taker) c.deref.ensures.value failed.1;
    })) c.give.ensures.err

pub returns-in-Ok-Full-clause-err : goal.returns-in-Ok-Full-clause-err
returns-in-Ok-Full-clause-err g c =
    let a = c.args in
    let m = g.G.Gate in
    let t = g.T.Taker in
    subst (λ (w : Stop). HaltsAct t.takes t.fails m.start m.known m.finds a.conn (act.Call a.asked.now)
    a.taker.now a.gate.now c.turn_away.new.taker c.request.new.gate w) (sym c.turn_away.ensures.full)
    (full-request t.takes t.fails (m.start a.gate.now) (m.finds a.gate.now) (m.known c.request.new.gate)
    c.in-Ok-Full.count a.asked.now a.taker.now c.turn_away.new.taker
    (call_on a.asked.now.face a.asked.now.opnum a.asked.now.stub) refl
    (rw c.in-Ok-Full.field-0-is at c.in-Ok-Full.ensures.answers) c.turn_away.ensures.taken)

pub returns-in-Err-clause-err : goal.returns-in-Err-clause-err
returns-in-Err-clause-err g c = (c.in-Err.ensures.begins, refl)
