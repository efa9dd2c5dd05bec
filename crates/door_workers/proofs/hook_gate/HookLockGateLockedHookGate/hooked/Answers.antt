-- The law of the machine at the history that the turn finds, of which no number more has left than the pass knows of.
use Rattle.std.proofs.Common.{◌<◌, ◌^◌, List, length, refl, sym, subst}
use Rattle.acct_machine.specs.declared.entry.Entry.{Entry}
use Rattle.link_sessions.specs.Turns.{shown}
use Rattle.door_workers.proofs.Homes.{hook-known, knows-after, takes-by}
use Rattle.door_workers.proofs.hook_gate.HookLockGateLockedHookGate.hooked.Goals as goal

pub turn-requires-clause-pass : goal.turn-requires-clause-pass
turn-requires-clause-pass g c = c.requires.pass_of

pub turn-requires-clause-lane : goal.turn-requires-clause-lane
turn-requires-clause-lane g c = c.requires.knows.first

pub turn-requires-clause-job : goal.turn-requires-clause-job
turn-requires-clause-job g c = λ h finds. c.requires.knows.ready.hook

pub returns-clause-gone : goal.returns-clause-gone
returns-clause-gone g c =
    let start = c.args.self.now.lock.now.table.shared.key.machine.value.past.start in
    let t = c.turn.ensures.turn in
    (hook-known c.outs_are_left.ensures.grow start c.turn.result c.args.number c.args.self.now.pass.seat.me.0
    c.turn.new.pass.seat.me.0 t c.requires.knows t.related.few
    (c.hooks_are_told.ensures (shown start t.before) c.turn.result c.args.number (shown start t.after) t.related.good
    t.related.hooks)).gone

pub returns-clause-past : goal.returns-clause-past
returns-clause-past g c =
    let start = c.args.self.now.lock.now.table.shared.key.machine.value.past.start in
    let t = c.turn.ensures.turn in
    (hook-known c.outs_are_left.ensures.grow start c.turn.result c.args.number c.args.self.now.pass.seat.me.0
    c.turn.new.pass.seat.me.0 t c.requires.knows t.related.few
    (c.hooks_are_told.ensures (shown start t.before) c.turn.result c.args.number (shown start t.after) t.related.good
    t.related.hooks)).past

pub returns-clause-fault : goal.returns-clause-fault
returns-clause-fault g c = c.turn.ensures.turn.related.fault

pub returns-clause-jobs : goal.returns-clause-jobs
returns-clause-jobs g c =
    let start = c.args.self.now.lock.now.table.shared.key.machine.value.past.start in
    let t = c.turn.ensures.turn in
    (hook-known c.outs_are_left.ensures.grow start c.turn.result c.args.number c.args.self.now.pass.seat.me.0
    c.turn.new.pass.seat.me.0 t c.requires.knows t.related.few
    (c.hooks_are_told.ensures (shown start t.before) c.turn.result c.args.number (shown start t.after) t.related.good
    t.related.hooks)).jobs

pub returns-clause-ready : goal.returns-clause-ready
returns-clause-ready g c =
    let start = c.args.self.now.lock.now.table.shared.key.machine.value.past.start in
    let t = c.turn.ensures.turn in record {
      pass_of = c.turn.ensures.pass;
      knows = knows-after c.jobs_are_left.ensures start c.args.self.now.pass.seat.me.0 c.turn.new.pass.seat.me.0 t
          c.requires.knows t.related.good t.related.legal;
    }

pub returns-clause-room : goal.returns-clause-room
returns-clause-room g c =
    let start = c.args.self.now.lock.now.table.shared.key.machine.value.past.start in
    let t = c.turn.ensures.turn in
    (hook-known c.outs_are_left.ensures.grow start c.turn.result c.args.number c.args.self.now.pass.seat.me.0
    c.turn.new.pass.seat.me.0 t c.requires.knows t.related.few
    (c.hooks_are_told.ensures (shown start t.before) c.turn.result c.args.number (shown start t.after) t.related.good
    t.related.hooks)).room

pub returns-clause-nearer : goal.returns-clause-nearer
returns-clause-nearer g c =
    let start = c.args.self.now.lock.now.table.shared.key.machine.value.past.start in
    let t = c.turn.ensures.turn in
    (hook-known c.outs_are_left.ensures.grow start c.turn.result c.args.number c.args.self.now.pass.seat.me.0
    c.turn.new.pass.seat.me.0 t c.requires.knows t.related.few
    (c.hooks_are_told.ensures (shown start t.before) c.turn.result c.args.number (shown start t.after) t.related.good
    t.related.hooks)).nearer (subst (λ (l : List Entry). length l < 2 ^ 64) (sym t.known) t.related.few)

pub returns-clause-moves : goal.returns-clause-moves
returns-clause-moves g c =
    let start = c.args.self.now.lock.now.table.shared.key.machine.value.past.start in
    let t = c.turn.ensures.turn in (
      refl,
      takes-by start c.args.self.now.pass.seat.me.0 c.turn.new.pass.seat.me.0 t c.turn.result c.args.number
          t.related.hooks,
    )
