-- The links served so far and the one that follows are those of the door in order, until none is taken.
use Rattle.std.proofs.Common.{◌<◌, None, length, refl, sym, ap, ◌∙◌, subst, rules}
use Rattle.hist_lock.specs.Passes.{IsPassOf}
use Rattle.door_workers.specs.steps.Passing.{start_under}
use Rattle.door_workers.proofs.Runs.{idle-serves, serving-as}
use Rattle.door_workers.proofs.Worked.{idle-works}
use Rattle.door_workers.proofs.workers.Worker+R+Locked+K+D.work.Goals as goal

pub loop-init : goal.loop-init
loop-init g c =
    let s = c.args.self.now in
    let start = start_under s.gate.lock.now in
    let v = s.gate.pass.seat.me.0 in
    let idle = idle-works g.D.L.Link.told start s.max_read v c.requires.new.0 c.requires.new.1 in
    record {
      can = search rules;
      finite = search rules;
      lock = refl;
      pass = c.requires.pass;
      owns = idle.owns;
      number = refl;
      place = refl;
      most = refl;
      listener = refl;
      serving = idle-serves g.D.Door g.D.L.Link.told start s.max_read s.place s.door v s.ends.items c.requires.none
          idle;
    }

pub next_link-requires-clause-ready : goal.next_link-requires-clause-ready
next_link-requires-clause-ready g c =
    let inv = c.loop.invariant in
    (subst (λ lock. IsPassOf lock c.loop.self.gate.pass) (sym inv.lock) inv.pass, inv.owns)

pub next_link-requires-clause-configured : goal.next_link-requires-clause-configured
next_link-requires-clause-configured g c =
    let inv = c.loop.invariant in
    subst (λ n. n < length (start_under c.loop.self.gate.lock.now).config.listeners) (sym inv.listener)
    (subst (λ lock. g.D.Door.listener c.args.self.now.door < length (start_under lock).config.listeners)
    (sym inv.lock) c.requires.configured)

pub loop-preserved : goal.loop-preserved
loop-preserved g c =
    let inv = c.loop.invariant in
    let i = c.args.self.now in
    let s = c.loop.self in
    let n = c.next_link.new.self in
    let e = c.next_link.ensures in
    let door = g.D.Door in
    let told = g.D.L.Link.told in
    let same = ap (λ lock. start_under lock) inv.lock in
    record {
      can = search rules;
      finite = search rules;
      lock = e.lock ∙ inv.lock;
      pass = subst (λ lock. IsPassOf lock n.gate.pass) inv.lock e.ready.0;
      owns = e.ready.1;
      number = e.number ∙ inv.number;
      place = e.fixed.0 ∙ inv.place;
      most = e.fixed.1 ∙ inv.most;
      listener = e.listener ∙ inv.listener;
      serving = serving-as door told (start_under s.gate.lock.now) (start_under i.gate.lock.now) s.max_read i.max_read
          s.place i.place None i.door n.door n.gate.pass.seat.me.0 n.ends.items same inv.most inv.place
          (c.in-None-next_link.ensures.serves i.door (serving-as door told (start_under i.gate.lock.now)
          (start_under s.gate.lock.now) i.max_read s.max_read i.place s.place None i.door s.door
          s.gate.pass.seat.me.0 s.ends.items (sym same) (sym inv.most) (sym inv.place) inv.serving));
    }
