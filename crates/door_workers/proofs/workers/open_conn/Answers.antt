-- A pass opens a connection of its own at a listener, or finds the history full and stays as it was.
use Rattle.door_workers.specs.steps.Passing.{start_under, IsPassing}
use Rattle.door_workers.proofs.Opens.{opens-at}
use Rattle.door_workers.proofs.workers.open_conn.Goals as goal

pub returns-clause-opens : goal.returns-clause-opens
returns-clause-opens g c =
    let a = c.args in
    let start = start_under a.gate.now.lock.now in
    let v = a.gate.now.pass.seat.me.0 in
    let w = c.open_conn.new.self.pass.seat.me.0 in
    opens-at start a.listener c.open_conn.result v w (IsPassing start v) c.open_conn.ensures.turn
    c.open_conn.ensures.opens.2 c.open_conn.ensures.opens.3
