-- The size so far is that of the list's head and of the entries passed, each of at most 76 bytes.
use Rattle.std.proofs.Common.{◌≡◌, ◌≤◌, ◌+◌, ◌*◌, length, take}
use Rattle.dtyp_access.specs.Parts.{aces_bytes}
use Rattle.dtyp_access.proofs.write.acl_size.Given as goal

abbrev pub invariant-loop-ace : goal.invariant-loop-ace
invariant-loop-ace l =
    (l.size ≡ 8 + length (aces_bytes (take l.ace-index l.aces))) × (l.size ≤ 8 + 76 * l.ace-index)
