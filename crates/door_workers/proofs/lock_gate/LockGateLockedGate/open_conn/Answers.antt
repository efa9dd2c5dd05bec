-- A connection that a turn opens is served by the pass and has no call yet, and the pass may open more.
use Rattle.std.proofs.Common.{refl}
use Rattle.hist_lock.specs.Passes.{IsPassOf}
use Rattle.link_sessions.specs.Turns.{MachineOpens}
use Rattle.door_workers.proofs.Passing.{turn-on, legal-known}
use Rattle.door_workers.proofs.Opened.{opens-on, served-by, silent-by}
use Rattle.door_workers.proofs.lock_gate.LockGateLockedGate.open_conn.Goals as goal

pub returns-clause-turn : goal.returns-clause-turn
returns-clause-turn g c =
    let a = c.args in
    let start = a.self.now.lock.now.table.shared.key.machine.value.past.start in
    let t = c.turn.ensures.turn in
    turn-on c.others_change_nothing.ensures start a.self.now.pass.seat.me.0 c.turn.new.pass.seat.me.0
    (MachineOpens start a.listener c.turn.result) t c.requires.ready.1 t.related

pub returns-clause-served : goal.returns-clause-served
returns-clause-served g c =
    let a = c.args in
    let t = c.turn.ensures.turn in
    let start = a.self.now.lock.now.table.shared.key.machine.value.past.start in
    let v = a.self.now.pass.seat.me.0 in
    let w = c.turn.new.pass.seat.me.0 in
    let both = opens-on c.others_change_nothing.ensures start v w _ t c.requires.ready.1 a.listener c.turn.result
    t.related in
    served-by start v w c.turn.result (IsPassOf a.self.now.lock.now c.turn.new.pass) both.0 c.turn.ensures.pass both.1

pub returns-clause-silent : goal.returns-clause-silent
returns-clause-silent g c =
    let a = c.args in
    let t = c.turn.ensures.turn in
    let start = a.self.now.lock.now.table.shared.key.machine.value.past.start in
    let v = a.self.now.pass.seat.me.0 in
    let w = c.turn.new.pass.seat.me.0 in
    let both = opens-on c.others_change_nothing.ensures start v w _ t c.requires.ready.1 a.listener c.turn.result
    t.related in
    silent-by start v w c.turn.result both.0

pub returns-clause-ready : goal.returns-clause-ready
returns-clause-ready g c =
    let a = c.args in
    let t = c.turn.ensures.turn in
    let start = a.self.now.lock.now.table.shared.key.machine.value.past.start in
    let both = opens-on c.others_change_nothing.ensures start a.self.now.pass.seat.me.0 c.turn.new.pass.seat.me.0 _ t
    c.requires.ready.1 a.listener c.turn.result t.related in
    (c.turn.ensures.pass, both.1)

pub returns-clause-opens : goal.returns-clause-opens
returns-clause-opens g c =
    let a = c.args in
    let t = c.turn.ensures.turn in
    let start = a.self.now.lock.now.table.shared.key.machine.value.past.start in
    let both = opens-on c.others_change_nothing.ensures start a.self.now.pass.seat.me.0 c.turn.new.pass.seat.me.0 _ t
    c.requires.ready.1 a.listener c.turn.result t.related in (
      refl,
      t.same.number,
      both.0,
      legal-known start c.turn.new.pass.seat.me.0.known t.after t.known t.related.legal,
    )
