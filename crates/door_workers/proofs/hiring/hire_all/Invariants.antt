-- The doors taken so far, the last one first, each have a worker that hasn't begun; the others are as they were.
use Rattle.std.proofs.Common.{◌≡◌, ◌+◌, ◌<◌, ◌≤◌, ℕ, vec_len}
use Rattle.std.specs.Prelude.{slice_index_or, vec_capacity}
use Rattle.hist_lock.specs.Passes.{view}
use Rattle.door_workers.specs.steps.Hiring.{IsIdle, IsHired}
use Rattle.door_workers.proofs.hiring.hire_all.Given as goal

abbrev pub invariant-loop-door : goal.invariant-loop-door
invariant-loop-door g l = record {
  first : IsIdle l.lock l.first;
  made : (view l.first).made ≡ vec_len l.workers;
  joined : (view l.first).joined ≡ 0;
  total : vec_len l.doors + vec_len l.workers ≡ vec_len l.initial.doors;
  room : vec_len l.initial.doors ≤ vec_capacity l.workers;
  capacity : vec_capacity l.doors ≡ vec_capacity l.initial.doors;
  rest : (i : ℕ) (d e : _) → i < vec_len l.doors
      → slice_index_or l.doors.items i d ≡ slice_index_or l.initial.doors.items i e;
  hired : (i : ℕ) (d : _) → i < vec_len l.workers → let w = (slice_index_or l.workers.items i d).worker in
      IsHired l.lock l.max_read w.gate.lock.now w.gate.pass (g.D.Door.listener w.door) w.max_read w.ends.items;
  doors : (i : ℕ) (d : _) (e : _) → i < vec_len l.workers → let w = (slice_index_or l.workers.items i d).worker in
      (w.place + i + 1 ≡ vec_len l.initial.doors) × (w.door ≡ slice_index_or l.initial.doors.items w.place e);
}

abbrev pub decreases-loop-door : goal.decreases-loop-door
decreases-loop-door g l = vec_len l.doors
