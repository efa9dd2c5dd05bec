-- The acts so far are answered, and where one stops, it is the first that isn't.
use Rattle.std.proofs.Common.{List, take, refl, sym, ◌∙◌, subst, arith}
use Rattle.std.proofs.lemmas.List.{take_all}
use Rattle.rpc_session.specs.declared.sessions.Act.{Act}
use Rattle.link_sessions.specs.Taking.{TakesActs}
use Rattle.link_sessions.proofs.Acts.{act-here, parted, one-more}
use Rattle.link_sessions.proofs.Taken.{takes-more}
use Rattle.link_sessions.proofs.answers.answer_all.Goals as goal

pub loop-i-init : goal.loop-i-init
loop-i-init g c =
    record {
      serves = c.requires.serves;
      moves = g.met.G.Gate.stays c.args.gate.now c.args.conn;
      start = refl;
      done = (refl, refl);
    }

pub loop-i-preserved : goal.loop-i-preserved
loop-i-preserved g c =
    let a = c.args in
    let m = g.G.Gate in
    let t = g.T.Taker in
    let x = c.index-acts-i.result in
    let inv = c.loop-i.invariant in
    let here = act-here c.loop-i.i a.acts.now x x c.loop-i-test.true c.index-acts-i.is in
    record {
      serves = c.answer.ensures.serves;
      moves = g.met.G.Gate.goes_on a.gate.now c.loop-i.gate c.answer.new.gate a.conn inv.moves c.answer.ensures.moves;
      start = c.answer.ensures.start ∙ inv.start;
      done =
          subst (λ (xs : List Act). TakesActs t.takes m.start m.known m.finds m.serves a.conn xs a.taker.now a.gate.now
          c.answer.new.taker c.answer.new.gate) (sym (one-more c.loop-i.i a.acts.now x here))
          (takes-more t.takes m.start m.known m.finds m.serves a.conn (take c.loop-i.i a.acts.now) x a.taker.now
          a.gate.now c.loop-i.taker c.loop-i.gate c.answer.new.taker c.answer.new.gate inv.done c.in-Ok.ensures.ok);
    }

pub returns-in-Err-clause-err : goal.returns-in-Err-clause-err
returns-in-Err-clause-err g c =
    let a = c.args in
    let x = c.index-acts-i.result in
    let inv = c.loop-i.invariant in
    let parts = parted c.loop-i.i a.acts.now x
    (act-here c.loop-i.i a.acts.now x x c.loop-i-test.true c.index-acts-i.is) in
    record {
      done = take c.loop-i.i a.acts.now;
      begun = x;
      others = parts.rest;
      splits = parts.whole;
      mid = c.loop-i.taker;
      there = c.loop-i.gate;
      answered = inv.done;
      served = inv.serves;
      halts = c.in-Err.ensures.err;
    }

pub returns-clause-ok : goal.returns-clause-ok
returns-clause-ok g c =
    let a = c.args in
    let m = g.G.Gate in
    let t = g.T.Taker in
    let ends = c.loop-i-test.false in
    subst (λ (xs : List Act). TakesActs t.takes m.start m.known m.finds m.serves a.conn xs a.taker.now a.gate.now
    c.loop-i.taker c.loop-i.gate) (take_all c.loop-i.i a.acts.now (omega (arith, ends))) c.loop-i.invariant.done
