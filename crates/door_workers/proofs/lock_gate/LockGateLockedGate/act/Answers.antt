-- The turn of a call finds its connection live as the pass knows it, changes no other, and leaves it served.
use Rattle.std.proofs.Common.{refl}
use Rattle.link_sessions.specs.Turns.{MachineActs}
use Rattle.door_workers.proofs.Passing.{finds-live, turn-on, acts-appended, owns-on, moves-on, still-serves}
use Rattle.door_workers.proofs.lock_gate.LockGateLockedGate.act.Goals as goal

pub turn-acted-requires-clause-lane : goal.turn-acted-requires-clause-lane
turn-acted-requires-clause-lane g c = c.requires.serves.2.mine

pub turn-acted-requires-clause-job : goal.turn-acted-requires-clause-job
turn-acted-requires-clause-job g c = λ h finds.
    let a = c.args in
    let start = a.self.now.lock.now.table.shared.key.machine.value.past.start in (
      finds-live c.others_change_nothing.ensures start a.self.now.pass.seat.me.0 a.conn h c.requires.serves.1
          c.requires.serves.2 finds,
      c.requires.spelled,
    )

pub returns-clause-turn : goal.returns-clause-turn
returns-clause-turn g c =
    let a = c.args in
    let start = a.self.now.lock.now.table.shared.key.machine.value.past.start in
    let t = c.turn-acted.ensures.turn in
    turn-on c.others_change_nothing.ensures start a.self.now.pass.seat.me.0 c.turn-acted.new.pass.seat.me.0
    (MachineActs start a.conn a.call a.bytes c.turn-acted.result.acted) t c.requires.serves.1 t.related.0

pub returns-clause-serves : goal.returns-clause-serves
returns-clause-serves g c =
    let a = c.args in
    let start = a.self.now.lock.now.table.shared.key.machine.value.past.start in
    let v = a.self.now.pass.seat.me.0 in
    let w = c.turn-acted.new.pass.seat.me.0 in
    let t = c.turn-acted.ensures.turn in
    let app = acts-appended start a.conn a.call a.bytes c.turn-acted.result.acted t.before t.after t.related.0 in
    let moves = moves-on c.others_change_nothing.ensures start v w a.conn t app c.requires.serves.1 in (
      c.turn-acted.ensures.pass,
      owns-on v w a.conn t app c.requires.serves.2.mine c.requires.serves.1,
      still-serves c.others_change_nothing.ensures start v w a.conn a.call a.bytes c.turn-acted.result.acted t
          c.requires.serves.1 c.requires.serves.2 t.related.0 moves,
    )

pub returns-clause-moves : goal.returns-clause-moves
returns-clause-moves g c =
    let a = c.args in
    let start = a.self.now.lock.now.table.shared.key.machine.value.past.start in
    let v = a.self.now.pass.seat.me.0 in
    let w = c.turn-acted.new.pass.seat.me.0 in
    let t = c.turn-acted.ensures.turn in
    let app = acts-appended start a.conn a.call a.bytes c.turn-acted.result.acted t.before t.after t.related.0 in (
      refl,
      λ p. c.turn-acted.ensures.pass,
      λ o. owns-on v w a.conn t app c.requires.serves.2.mine c.requires.serves.1,
      moves-on c.others_change_nothing.ensures start v w a.conn t app c.requires.serves.1,
    )
