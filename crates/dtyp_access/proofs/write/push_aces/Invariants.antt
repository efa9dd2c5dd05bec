-- The bytes of the first so many entries were added after what was there.
use Rattle.std.proofs.Common.{◌≡◌, ◌++◌, take}
use Rattle.dtyp_access.specs.Parts.{aces_bytes}
use Rattle.dtyp_access.proofs.write.push_aces.Given as goal

abbrev pub invariant-loop-ace : goal.invariant-loop-ace
invariant-loop-ace l = l.out.items ≡ l.fn.out.items ++ aces_bytes (take l.ace-index l.aces)
