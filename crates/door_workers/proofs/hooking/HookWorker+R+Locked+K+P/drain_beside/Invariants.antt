-- Each drain so far left no change in the outbox.
use Rattle.std.proofs.Common.{◌≡◌, None}
use Rattle.hist_lock.specs.Passes.{view}
use Rattle.door_workers.specs.Hooking.{IsAtOutbox, TakesOut, HasDrained}
use Rattle.door_workers.specs.steps.Passing.{start_under}
use Rattle.door_workers.proofs.hooking.HookWorker+R+Locked+K+P.drain_beside.Given as goal

abbrev pub invariant-loop : goal.invariant-loop
invariant-loop g l = record {
  can : (goal.iterator-loop g).can_next l.iterator';
  finite : (goal.iterator-loop g).is_finite l.iterator';
  lock : l.self.gate.lock.now ≡ l.initial.self.gate.lock.now;
  ready : IsAtOutbox l.initial.self.gate.lock.now l.self.gate.pass;
  takes : TakesOut (view l.initial.self.gate.pass) (view l.self.gate.pass);
  none : l.self.ended ≡ None;
  drains : (before : _)
      → HasDrained g.P.Spawner l.hook (start_under l.initial.self.gate.lock.now) before l.initial.self.spawner
      (view l.initial.self.gate.pass).known None
      → HasDrained g.P.Spawner l.hook (start_under l.initial.self.gate.lock.now) before l.self.spawner
      (view l.self.gate.pass).known None;
}
