-- The turn of an end finds its connection live as the pass knows it, and changes no other one of the pass.
use Rattle.std.proofs.Common.{refl}
use Rattle.link_sessions.specs.Turns.{MachineEnds}
use Rattle.door_workers.proofs.Passing.{finds-live, turn-on, ends-appended, owns-on, moves-on}
use Rattle.door_workers.proofs.lock_gate.LockGateLockedGate.gone.Goals as goal

pub turn-requires-clause-lane : goal.turn-requires-clause-lane
turn-requires-clause-lane g c = c.requires.serves.2.mine

pub turn-requires-clause-job : goal.turn-requires-clause-job
turn-requires-clause-job g c = λ h finds.
    let a = c.args in
    let start = a.self.now.lock.now.table.shared.key.machine.value.past.start in
    finds-live c.others_change_nothing.ensures start a.self.now.pass.seat.me.0 a.conn h c.requires.serves.1
    c.requires.serves.2 finds

pub returns-clause-turn : goal.returns-clause-turn
returns-clause-turn g c =
    let a = c.args in
    let start = a.self.now.lock.now.table.shared.key.machine.value.past.start in
    let t = c.turn.ensures.turn in
    turn-on c.others_change_nothing.ensures start a.self.now.pass.seat.me.0 c.turn.new.pass.seat.me.0
    (MachineEnds start a.conn) t c.requires.serves.1 t.related

pub returns-clause-moves : goal.returns-clause-moves
returns-clause-moves g c =
    let a = c.args in
    let start = a.self.now.lock.now.table.shared.key.machine.value.past.start in
    let v = a.self.now.pass.seat.me.0 in
    let w = c.turn.new.pass.seat.me.0 in
    let t = c.turn.ensures.turn in
    let app = ends-appended start a.conn t.before t.after t.related in (
      refl,
      λ p. c.turn.ensures.pass,
      λ o. owns-on v w a.conn t app c.requires.serves.2.mine c.requires.serves.1,
      moves-on c.others_change_nothing.ensures start v w a.conn t app c.requires.serves.1,
    )
