-- A link is served on a connection that the pass opens, or given back unread where the history takes none.
use Rattle.std.proofs.Common.{refl, subst}
use Rattle.door_workers.specs.steps.Passing.{start_under}
use Rattle.door_workers.specs.steps.Opening.{OpensWith}
use Rattle.door_workers.specs.steps.Serving.{ServesLink}
use Rattle.door_workers.proofs.Handled.{link-served, link-unopened}
use Rattle.door_workers.proofs.workers.Worker+R+Locked+K+D.serve_link.Goals as goal

pub returns-in-Conn-clause-handles : goal.returns-in-Conn-clause-handles
returns-in-Conn-clause-handles g c =
    let a = c.args in
    let s = a.self.now in
    let n = c.serve_conn.new.self in
    let door = g.D.Door in
    let told = g.D.L.Link.told in
    let start = start_under s.gate.lock.now in
    let v = s.gate.pass.seat.me.0 in
    let u = c.open_conn.new.gate.pass.seat.me.0 in
    let w = n.gate.pass.seat.me.0 in
    let conn = c.in-Conn.conn in
    link-served door told start s.max_read s.place a.link s.door n.door s.ends.items n.ends.items conn v u w
    c.serve_conn.result (subst (λ l. OpensWith start l conn v u) c.listener.ensures c.in-Conn.ensures.opens)
    c.requires.new c.serve_conn.ensures.ready.1
    (subst (λ lock. ServesLink door told (start_under lock) s.max_read s.place conn a.link u w s.door n.door
    s.ends.items n.ends.items c.serve_conn.result) c.open_conn.ensures.lock c.serve_conn.ensures.serves)

pub returns-in-Full-clause-handles : goal.returns-in-Full-clause-handles
returns-in-Full-clause-handles g c =
    let a = c.args in
    let s = a.self.now in
    link-unopened g.D.Door g.D.L.Link.told (start_under s.gate.lock.now) s.max_read s.place a.link s.door
    c.finish.new.self s.ends.items s.ends.items c.in-Full.count s.gate.pass.seat.me.0
    c.open_conn.new.gate.pass.seat.me.0 c.in-Full.ensures.opens c.open_conn.ensures.ready.1 (record {
      finished = c.finish.ensures.finished;
      coming = c.finish.ensures.coming;
      listener = c.finish.ensures.listener;
      faults = c.finish.ensures.faults;
    }) refl
