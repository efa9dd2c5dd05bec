-- The doors so far, then those dealt from the plans left, are those dealt from all; the links of those left are new.
use Rattle.std.proofs.Common.{◌≡◌, ◌-◌, ◌++◌, All}
use Rattle.acct_links.specs.Links.{IsNew}
use Rattle.acct_links.specs.MemoryDoors.{dealt, door_of, plain}
use Rattle.acct_links.proofs.memory_entrances.make_doors.Given as goal

abbrev pub invariant-loop-i : goal.invariant-loop-i
invariant-loop-i g l = record {
  doors : l.doors.items ++ dealt (door_of l.listener) plain (l.workers - l._i) l.plans.items
      ≡ dealt (door_of l.listener) plain l.workers l.initial.plans.items;
  new : All (λ plan. All (λ link. IsNew (g.L.Link.told link)) plan.links) l.plans.items;
}
