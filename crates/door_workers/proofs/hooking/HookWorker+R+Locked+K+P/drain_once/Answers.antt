-- One drain more, after those so far.
use Rattle.std.proofs.Common.{ap, subst}
use Rattle.door_workers.specs.Hooking.{IsAtOutbox}
use Rattle.door_workers.specs.steps.Passing.{start_under}
use Rattle.door_workers.proofs.Emptying.{drained-on}
use Rattle.door_workers.proofs.hooking.HookWorker+R+Locked+K+P.drain_once.Goals as goal

pub returns-clause-ready : goal.returns-clause-ready
returns-clause-ready g c =
    subst (λ lock. IsAtOutbox lock c.drain.new.gate.pass) c.drain.ensures.moves.0 c.drain.ensures.ready

pub returns-clause-drains : goal.returns-clause-drains
returns-clause-drains g c = λ before so_far.
    let s = c.args.self.now in
    let e = c.drain.ensures in
    drained-on g.P.Spawner c.args.hook.now (start_under s.gate.lock.now) before c.as_str.result.now
    (start_under c.drain.new.gate.lock.now) c.as_str.ensures (ap (λ lock. start_under lock) e.moves.0) s.spawner
    c.drain.new.spawner s.gate.pass.seat.me.0.known c.drain.new.gate.pass.seat.me.0.known c.drain.result so_far
    e.goes_on e.held e.fault e.later
