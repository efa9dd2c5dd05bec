-- There is a door for each turn so far, each of this listener and with all its links still to give.
use Rattle.std.proofs.Common.{◌≡◌, All, length}
use Rattle.host_doors.specs.Doors.{IsDoor}
use Rattle.host_doors.proofs.entrances.share.Given as goal

abbrev pub invariant-loop-i : goal.invariant-loop-i
invariant-loop-i g l = record {
  count : length l.doors.items ≡ l._i;
  doors : All (λ door. IsDoor l.listener l.links door) l.doors.items;
}
