-- Owning and the entries passed grant just these rights; of those still undecided neither speaks.
use Rattle.std.proofs.Common.{ℕ, ◌^◌, ◌<◌, take}
use Rattle.dtyp_access.specs.Granted.{shares}
use Rattle.dtyp_access.proofs.Walk.{IsWalked}
use Rattle.dtyp_access.proofs.check.listed_rights.Given as goal

abbrev pub invariant-loop-ace : goal.invariant-loop-ace
invariant-loop-ace l = (bit : ℕ) → bit < 32 →
    IsWalked l.token l.owner (2 ^ bit) (take l.ace-index l.aces) (shares l.walk.granted (2 ^ bit))
    (shares l.walk.undecided (2 ^ bit))
