-- The links that the door gave were served on the worker's pass, their ends noted, and none found the history full.
use Rattle.std.proofs.Common.{◌≡◌, None}
use Rattle.hist_lock.specs.Passes.{view, IsPassOf}
use Rattle.door_workers.specs.steps.Passing.{start_under, OwnsLanes}
use Rattle.door_workers.specs.steps.Serving.{IsServing}
use Rattle.door_workers.proofs.workers.Worker+R+Locked+K+D.work.Given as goal

abbrev pub invariant-loop : goal.invariant-loop
invariant-loop g l = record {
  can : (goal.iterator-loop g).can_next l.iterator';
  finite : (goal.iterator-loop g).is_finite l.iterator';
  lock : l.self.gate.lock.now ≡ l.initial.self.gate.lock.now;
  pass : IsPassOf l.initial.self.gate.lock.now l.self.gate.pass;
  owns : OwnsLanes (view l.self.gate.pass);
  number : (view l.self.gate.pass).number ≡ (view l.initial.self.gate.pass).number;
  place : l.self.place ≡ l.initial.self.place;
  most : l.self.max_read ≡ l.initial.self.max_read;
  listener : g.D.Door.listener l.self.door ≡ g.D.Door.listener l.initial.self.door;
  serving : IsServing g.D.Door g.D.L.Link.told (start_under l.initial.self.gate.lock.now) l.initial.self.max_read
      l.initial.self.place None l.initial.self.door l.self.door (view l.self.gate.pass) l.self.ends.items;
}
