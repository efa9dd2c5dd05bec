-- A look appends nothing, and finds that no number left besides those that the pass knows of.
use Rattle.std.proofs.Common.{List, refl, sym, subst}
use Rattle.acct_machine.specs.declared.entry.Entry.{Entry}
use Rattle.acct_machine.specs.Legal.{Legal}
use Rattle.door_workers.proofs.Homes.{jobs-on, hooks-same, knows-after, takes-same, room-same, looked-at}
use Rattle.door_workers.proofs.hook_gate.HookLockGateLockedHookGate.first.Goals as goal

pub turn-requires-clause-pass : goal.turn-requires-clause-pass
turn-requires-clause-pass g c = c.requires.pass_of

pub turn-requires-clause-job : goal.turn-requires-clause-job
turn-requires-clause-job g c = λ h finds. c.requires.knows.ready.hook

pub returns-clause-first : goal.returns-clause-first
returns-clause-first g c =
    let start = c.args.self.now.lock.now.table.shared.key.machine.value.past.start in
    let t = c.turn.ensures.turn in
    looked-at start c.turn.result t.before t.after c.turn.new.pass.seat.me.0.known t.known t.related

pub returns-clause-jobs : goal.returns-clause-jobs
returns-clause-jobs g c =
    let start = c.args.self.now.lock.now.table.shared.key.machine.value.past.start in
    jobs-on c.outs_are_left.ensures.grow start c.args.self.now.pass.seat.me.0.known c.turn.new.pass.seat.me.0.known
    c.turn.ensures.turn.grows

pub returns-clause-gone : goal.returns-clause-gone
returns-clause-gone g c =
    let start = c.args.self.now.lock.now.table.shared.key.machine.value.past.start in
    let t = c.turn.ensures.turn in
    hooks-same c.outs_are_left.ensures.grow start c.args.self.now.pass.seat.me.0 c.turn.new.pass.seat.me.0 t
    c.requires.knows t.related.same

pub returns-clause-ready : goal.returns-clause-ready
returns-clause-ready g c =
    let start = c.args.self.now.lock.now.table.shared.key.machine.value.past.start in
    let t = c.turn.ensures.turn in
    let found = t.related.good in record {
      pass_of = c.turn.ensures.pass;
      knows = knows-after c.jobs_are_left.ensures start c.args.self.now.pass.seat.me.0 c.turn.new.pass.seat.me.0 t
          c.requires.knows found
          (subst (λ (h : List Entry). Legal start h) (sym t.related.same) found.legal);
    }

pub returns-clause-room : goal.returns-clause-room
returns-clause-room g c =
    let start = c.args.self.now.lock.now.table.shared.key.machine.value.past.start in
    let v = c.args.self.now.pass.seat.me.0 in
    let w = c.turn.new.pass.seat.me.0 in
    let t = c.turn.ensures.turn in
    room-same v.known w.known (hooks-same c.outs_are_left.ensures.grow start v w t c.requires.knows t.related.same)

pub returns-clause-moves : goal.returns-clause-moves
returns-clause-moves g c =
    let t = c.turn.ensures.turn in
    (refl, takes-same c.args.self.now.pass.seat.me.0 c.turn.new.pass.seat.me.0 t t.related.same)
