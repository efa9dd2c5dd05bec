-- The next link of a door is taken as it is given, or it is told why none is, and the pass stays as it was.
use Rattle.door_workers.specs.steps.Passing.{start_under}
use Rattle.door_workers.proofs.Runs.{link-served, door-closed, door-failed, is-closed}
use Rattle.door_workers.proofs.workers.Worker+R+Locked+K+D.next_link.Goals as goal

pub returns-in-Link-clause-serves : goal.returns-in-Link-clause-serves
returns-in-Link-clause-serves g c = λ before serving.
    let s = c.args.self.now in
    let n = c.serve_link.new.self in
    link-served g.D.Door g.D.L.Link.told (start_under s.gate.lock.now) s.max_read s.place before s.door c.next.new.self
    n.door s.gate.pass.seat.me.0 n.gate.pass.seat.me.0 s.ends.items n.ends.items c.next.ensures.finished
    c.next.ensures.listener c.next.ensures.later serving c.serve_link.result c.in-Link.link c.in-Link.ensures.coming
    c.in-Link.ensures.count c.serve_link.ensures.handles

pub returns-in-Closed-clause-serves : goal.returns-in-Closed-clause-serves
returns-in-Closed-clause-serves g c = λ before serving.
    let s = c.args.self.now in
    let door = g.D.Door in
    door-closed door g.D.L.Link.told (start_under s.gate.lock.now) s.max_read s.place before s.door c.next.new.self
    c.next.new.self s.gate.pass.seat.me.0 s.gate.pass.seat.me.0 s.ends.items s.ends.items c.next.ensures.finished
    c.next.ensures.listener c.next.ensures.later serving c.in-Closed.ensures.coming c.in-Closed.ensures.count
    (is-closed (door.closed s.door) (door.closed c.next.new.self) c.in-Closed.ensures.closed)

pub returns-in-Failed-clause-serves : goal.returns-in-Failed-clause-serves
returns-in-Failed-clause-serves g c = λ before serving.
    let s = c.args.self.now in
    door-failed g.D.Door g.D.L.Link.told (start_under s.gate.lock.now) s.max_read s.place before s.door
    c.next.new.self c.next.new.self s.gate.pass.seat.me.0 s.gate.pass.seat.me.0 s.ends.items s.ends.items
    c.next.ensures.finished c.next.ensures.listener c.next.ensures.later serving c.in-Failed.ensures.coming
    c.in-Failed.ensures.count
