-- One drain more, each after one that left no change, until one stops or no worker is left.
use Rattle.std.proofs.Common.{None, refl, sym, ap, ◌∙◌, subst, rules}
use Rattle.door_workers.specs.Hooking.{IsAtOutbox, HasDrained}
use Rattle.door_workers.specs.steps.Passing.{start_under}
use Rattle.door_workers.specs.TakingOut.{takes-none, takes-then}
use Rattle.door_workers.proofs.Emptying.{drained-as}
use Rattle.door_workers.proofs.hooking.HookWorker+R+Locked+K+P.drain_beside.Goals as goal

pub loop-init : goal.loop-init
loop-init g c = record {
  can = search rules;
  finite = search rules;
  lock = refl;
  ready = c.requires.ready;
  takes = takes-none c.args.self.now.gate.pass.seat.me.0;
  none = c.requires.none;
  drains = λ before so_far. so_far;
}

pub drain_more-requires-clause-ready : goal.drain_more-requires-clause-ready
drain_more-requires-clause-ready g c =
    let inv = c.loop.invariant in
    subst (λ lock. IsAtOutbox lock c.loop.self.gate.pass) (sym inv.lock) inv.ready

pub loop-preserved : goal.loop-preserved
loop-preserved g c =
    let inv = c.loop.invariant in
    let i = c.args.self.now in
    let s = c.loop.self in
    let n = c.drain_more.new.self in
    let e = c.drain_more.ensures in
    let same = ap (λ lock. start_under lock) inv.lock in
    record {
      can = search rules;
      finite = search rules;
      lock = e.lock ∙ inv.lock;
      ready = subst (λ lock. IsAtOutbox lock n.gate.pass) inv.lock e.ready;
      takes = takes-then i.gate.pass.seat.me.0 s.gate.pass.seat.me.0 n.gate.pass.seat.me.0 inv.takes e.takes;
      none = c.in-None-ended.is;
      drains = λ before so_far.
          subst (λ ended. HasDrained g.P.Spawner c.args.hook.now (start_under i.gate.lock.now) before n.spawner
          n.gate.pass.seat.me.0.known ended) c.in-None-ended.is
          (drained-as g.P.Spawner c.args.hook.now (start_under s.gate.lock.now) (start_under i.gate.lock.now) same
          before n.spawner n.gate.pass.seat.me.0.known n.ended
          (e.drains before (drained-as g.P.Spawner c.args.hook.now (start_under i.gate.lock.now)
          (start_under s.gate.lock.now) (sym same) before s.spawner s.gate.pass.seat.me.0.known None
          (inv.drains before so_far))));
    }

-- no worker is left
pub returns-then-not-wait-clause-drains : goal.returns-then-not-wait-clause-drains
returns-then-not-wait-clause-drains g c = λ before so_far.
    let inv = c.loop.invariant in
    subst (λ ended. HasDrained g.P.Spawner c.args.hook.now (start_under c.args.self.now.gate.lock.now) before
    c.loop.self.spawner c.loop.self.gate.pass.seat.me.0.known ended) (sym inv.none) (inv.drains before so_far)

-- a drain stopped
pub returns-in-Some-ended-clause-ready : goal.returns-in-Some-ended-clause-ready
returns-in-Some-ended-clause-ready g c =
    let inv = c.loop.invariant in
    subst (λ lock. IsAtOutbox lock c.drain_more.new.self.gate.pass) inv.lock c.drain_more.ensures.ready

pub returns-in-Some-ended-clause-takes : goal.returns-in-Some-ended-clause-takes
returns-in-Some-ended-clause-takes g c =
    takes-then c.args.self.now.gate.pass.seat.me.0 c.loop.self.gate.pass.seat.me.0
    c.drain_more.new.self.gate.pass.seat.me.0 c.loop.invariant.takes c.drain_more.ensures.takes

pub returns-in-Some-ended-clause-drains : goal.returns-in-Some-ended-clause-drains
returns-in-Some-ended-clause-drains g c = λ before so_far.
    let inv = c.loop.invariant in
    let i = c.args.self.now in
    let s = c.loop.self in
    let n = c.drain_more.new.self in
    let same = ap (λ lock. start_under lock) inv.lock in
    drained-as g.P.Spawner c.args.hook.now (start_under s.gate.lock.now) (start_under i.gate.lock.now) same before
    n.spawner n.gate.pass.seat.me.0.known n.ended
    (c.drain_more.ensures.drains before (drained-as g.P.Spawner c.args.hook.now (start_under i.gate.lock.now)
    (start_under s.gate.lock.now) (sym same) before s.spawner s.gate.pass.seat.me.0.known None
    (inv.drains before so_far)))
