-- The doors so far, then those dealt from the links left, are those dealt from all; the links left are new.
use Rattle.std.proofs.Common.{◌≡◌, ◌-◌, ◌++◌, [], All}
use Rattle.acct_links.specs.Links.{IsNew}
use Rattle.acct_links.specs.MemoryDoors.{dealt, opened}
use Rattle.acct_links.proofs.memory_entrances.steady_doors.Given as goal

abbrev pub invariant-loop-i : goal.invariant-loop-i
invariant-loop-i g l = record {
  doors : l.doors.items ++ dealt (opened l.listener) [] (l.workers - l._i) l.plans.items
      ≡ dealt (opened l.listener) [] l.workers l.initial.plans.items;
  new : All (λ links. All (λ link. IsNew (g.L.Link.told link)) links) l.plans.items;
}
