-- Where the drain stopped before its end, no other follows.
use Rattle.std.proofs.Common.{sym, ◌∙◌, subst}
use Rattle.door_workers.specs.Hooking.{HasDrained}
use Rattle.door_workers.specs.steps.Passing.{start_under}
use Rattle.door_workers.proofs.Emptying.{drained-more, not-empty}
use Rattle.door_workers.proofs.hooking.HookWorker+R+Locked+K+P.drain_more.Goals as goal

pub returns-clause-stopped : goal.returns-clause-stopped
returns-clause-stopped g c = λ is. not-empty c.drain_once-answer.result (sym c.stopped-self.ensures ∙ is)

pub returns-clause-drains : goal.returns-clause-drains
returns-clause-drains g c = λ before so_far.
    let s = c.args.self.now in
    let start = start_under s.gate.lock.now in
    let drained = c.drain_once-answer in
    let n = drained.new.self in
    let known = n.gate.pass.seat.me.0.known in
    subst (λ ended. HasDrained g.P.Spawner c.args.hook.now start before n.spawner known ended)
    (sym c.stopped-self.ensures)
    (drained-more g.P.Spawner c.args.hook.now start before n.spawner known drained.result
    (drained.ensures.drains before so_far))
