-- The drains so far are the last ones, or one follows.
use Rattle.std.proofs.Common.{subst}
use Rattle.door_workers.specs.Hooking.{HasDrained}
use Rattle.door_workers.specs.steps.Passing.{start_under}
use Rattle.door_workers.specs.TakingOut.{takes-none}
use Rattle.door_workers.proofs.beside.drain_rest.Goals as goal

pub returns-in-Some-clause-takes : goal.returns-in-Some-clause-takes
returns-in-Some-clause-takes g c = takes-none c.args.first.seat.me.0

pub returns-in-Some-clause-drains : goal.returns-in-Some-clause-drains
returns-in-Some-clause-drains g c = λ before so_far.
    let a = c.args in
    subst (λ ended. HasDrained g.P.Spawner a.hook.now (start_under a.lock.now) before a.spawner
    a.first.seat.me.0.known ended) c.in-Some.is so_far

pub returns-in-None-clause-drains : goal.returns-in-None-clause-drains
returns-in-None-clause-drains g c = λ before so_far.
    let a = c.args in
    c.drain_last.ensures.drains before
    (subst (λ ended. HasDrained g.P.Spawner a.hook.now (start_under a.lock.now) before a.spawner
    a.first.seat.me.0.known ended) c.in-None.is so_far)
