-- The events before the place are traced and followed, and those from it on may be.
use Rattle.std.proofs.Common.{drop, take}
use Rattle.std.specs.Prelude.{nat_eq}
use Rattle.std.specs.HashMap.{get}
use Rattle.grant_audit.specs.Following.{MayWalk, Walks}
use Rattle.grant_audit.proofs.tracing.trace_all.Given as goal

abbrev pub invariant-loop-i : goal.invariant-loop-i
invariant-loop-i l = record {
  walks : Walks l.initial.machine.past (get nat_eq l.initial.openings) 1 (take l.i l.history) l.initial.traces.items
      l.machine.past (get nat_eq l.openings) l.traces.items;
  may : MayWalk l.machine.past (drop l.i l.history);
}
