-- The listeners before this one were asked for, none of these askings failed, and their doors are there.
use Rattle.std.proofs.Common.{◌≡◌, ◌*◌, ◌<◌, ◌≤◌, All, length, vec_len}
use Rattle.door_workers.specs.Doors.{OpensDoors}
use Rattle.door_workers.proofs.opening.open_doors.Given as goal

abbrev pub invariant-loop-listener : goal.invariant-loop-listener
invariant-loop-listener g l = record {
  number : l.number ≡ l.listener-index;
  opens : OpensDoors g.E.D.Door l.config l.listener-index (g.E.Entrance.asked l.initial.entrance)
      (g.E.Entrance.asked l.entrance) l.doors.items;
  few : vec_len l.doors ≤ 64 * l.listener-index;
  within : All (λ d. g.E.D.Door.listener d < length l.config.listeners) l.doors.items;
  faults : g.E.Entrance.faults l.entrance ≡ g.E.Entrance.faults l.initial.entrance;
}
