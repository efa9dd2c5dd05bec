-- The workers of the first so many doors were joined, and their doors put back; those left have served theirs.
use Rattle.std.proofs.Common.{◌≡◌, ◌+◌, ◌<◌, ◌≤◌, ℕ, vec_len}
use Rattle.std.specs.Prelude.{slice_index_or, vec_capacity}
use Rattle.hist_lock.specs.Passes.{view, IsPassOf}
use Rattle.door_workers.specs.steps.Passing.{start_under}
use Rattle.door_workers.specs.steps.Hiring.{HasWorked, AreJoined}
use Rattle.door_workers.specs.Hooking.{TakesInOthers}
use Rattle.door_workers.proofs.joining.join_all.Given as goal

abbrev pub invariant-loop-hired : goal.invariant-loop-hired
invariant-loop-hired g l = record {
  pass : IsPassOf l.lock l.first;
  first : (view l.first).number ≡ 0;
  made : (view l.first).made ≡ (view l.initial.first).made;
  joined : (view l.first).joined ≡ (view l.initial.first).joined + vec_len l.doors;
  others : TakesInOthers (view l.initial.first) (view l.first);
  total : vec_len l.doors + vec_len l.workers ≡ vec_len l.initial.workers;
  room : vec_len l.initial.workers ≤ vec_capacity l.doors;
  places : (i : ℕ) (d : _) → i < vec_len l.workers
      → (slice_index_or l.workers.items i d).worker.place + i + 1 ≡ vec_len l.initial.workers;
  worked : (i : ℕ) (d : _) → i < vec_len l.workers → let h = slice_index_or l.workers.items i d in
      HasWorked g.D.Door g.D.L.Link.told l.lock l.max_read h.worker.place h.worker.gate.pass h.end
      (slice_index_or l.given.value.items h.worker.place h.worker.door) h.worker.door h.worker.ends.items;
  all : AreJoined g.D.Door g.D.L.Link.told (start_under l.lock) l.max_read (view l.first) l.given.value.items
      l.doors.items l.sum.outcome l.sum.ends.items;
}

abbrev pub decreases-loop-hired : goal.decreases-loop-hired
decreases-loop-hired g l = vec_len l.workers
