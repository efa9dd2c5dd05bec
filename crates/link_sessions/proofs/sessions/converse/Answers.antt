-- What came so far is heard and answered, until a step ends it or `max_read` bytes have come.
use Rattle.std.proofs.Common.{◌≤◌, ◌+◌, [], ◌++◌, length, drop, length-append, length-drop, refl, sym, ◌∙◌, subst}
use Rattle.std.proofs.Common.{arith, take, false}
use Rattle.std.proofs.lemmas.List.{length-take}
use Rattle.acct_machine.specs.State.{Start}
use Rattle.link_sessions.specs.Turns.{HasNoCall}
use Rattle.link_sessions.specs.steps.SoFar.{SoFar}
use Rattle.link_sessions.specs.Sessions.{IsConversation}
use Rattle.link_sessions.proofs.Faults.{faults-none, faults-then, ends-then}
use Rattle.link_sessions.proofs.SoFar.{so-far-start}
use Rattle.link_sessions.proofs.Ending.{limit-ends}
use Rattle.link_sessions.proofs.sessions.converse.Goals as goal

pub loop-room-init : goal.loop-room-init
loop-room-init g c =
    let a = c.args in
    let m = g.G.Gate in
    record {
      serves = c.requires.serves;
      moves = g.met.G.Gate.stays a.gate.now a.conn;
      start = refl;
      so_far = (
        [],
        so-far-start (m.start a.gate.now) a.conn (m.known a.gate.now) (g.L.Link.told a.link.now) c.new-stream.result
            c.requires.going c.new-stream.ensures,
        omega arith,
      );
      faults = faults-none (g.L.Link.told a.link.now);
      buffer = refl;
    }

pub loop-room-preserved : goal.loop-room-preserved
loop-room-preserved g c =
    let a = c.args in
    let m = g.G.Gate in
    let t = g.L.Link in
    let inv = c.loop-room.invariant in
    let s = inv.so_far in
    let r = c.in-Ok.ensures.ok (m.known a.gate.now) (t.told a.link.now) s.0
    (subst (λ (k : Start). SoFar k a.conn (m.known a.gate.now) (m.known c.loop-room.gate) (t.told a.link.now)
    (t.told c.loop-room.link) c.loop-room.stream s.0) (sym inv.start) s.1) in
    let most = c.min-most.result in
    let taken = length-take most c.loop-room.buffer in
    let within = c.in-Ok.ensures.within.1 in
    let least = c.min-most.ensures in
    let long = inv.buffer in
    let count = s.2 in
    let came = r.1 in
    record {
      serves = c.step.ensures.serves;
      moves =
          g.met.G.Gate.goes_on a.gate.now c.loop-room.gate c.step.new.gate a.conn inv.moves c.step.ensures.moves;
      start = c.step.ensures.start ∙ inv.start;
      so_far = (
        s.0 ++ r.0,
        subst (λ (k : Start). SoFar k a.conn (m.known a.gate.now) (m.known c.step.new.gate) (t.told a.link.now)
            (t.told c.step.new.link) c.step.new.stream (s.0 ++ r.0)) inv.start r.2,
        omega (arith, length-append s.0 r.0),
      );
      faults = faults-then false false (t.told a.link.now) (t.told c.loop-room.link) (t.told c.step.new.link) inv.faults
          c.in-Ok.ensures.faults;
      buffer = omega (
        arith,
        length-append c.step.new.front (drop most c.loop-room.buffer),
        length-drop most c.loop-room.buffer,
        c.step.auto.front,
      );
    }

pub returns-in-Err-clause-conversation : goal.returns-in-Err-clause-conversation
returns-in-Err-clause-conversation g c =
    let a = c.args in
    let m = g.G.Gate in
    let t = g.L.Link in
    let inv = c.loop-room.invariant in
    let s = inv.so_far in
    let count = s.2 in
    let most = c.min-most.result in
    let least = c.min-most.ensures in
    let short : length s.0 + length (take most c.loop-room.buffer) ≤ a.max_read =
    omega (arith, length-take most c.loop-room.buffer) in
    subst (λ (k : Start). IsConversation k a.conn a.max_read c.in-Err.end (t.told a.link.now) (t.told c.step.new.link)
    (m.known a.gate.now) (m.known c.step.new.gate)) inv.start
    (c.in-Err.ensures.err (m.known a.gate.now) (t.told a.link.now) s.0 a.max_read
    (subst (λ (k : Start). SoFar k a.conn (m.known a.gate.now) (m.known c.loop-room.gate) (t.told a.link.now)
    (t.told c.loop-room.link) c.loop-room.stream s.0) (sym inv.start) s.1)
    (subst (λ (k : Start). HasNoCall k (m.known a.gate.now) a.conn) (sym inv.start) c.requires.new) short)

pub returns-clause-conversation : goal.returns-clause-conversation
returns-clause-conversation g c =
    let a = c.args in
    let m = g.G.Gate in
    let t = g.L.Link in
    let inv = c.loop-room.invariant in
    let s = inv.so_far in
    let count = s.2 in
    let done = c.loop-room-test.false in
    limit-ends (m.start a.gate.now) a.conn (m.known a.gate.now) (m.known c.loop-room.gate) (t.told a.link.now)
    (t.told c.loop-room.link) c.loop-room.stream s.0 a.max_read c.requires.new s.1 (omega arith)

pub returns-in-Err-clause-faults : goal.returns-in-Err-clause-faults
returns-in-Err-clause-faults g c =
    let t = g.L.Link in
    ends-then c.in-Err.end (t.told c.args.link.now) (t.told c.loop-room.link) (t.told c.step.new.link)
    c.loop-room.invariant.faults c.in-Err.ensures.faults
