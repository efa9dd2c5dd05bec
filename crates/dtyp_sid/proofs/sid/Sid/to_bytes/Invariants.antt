-- The header and the first so many sub-authorities are written, and the bytes after them are as they were.
use Rattle.std.proofs.Common.{◌≡◌, ◌+◌, ◌*◌, ◌++◌, take, drop}
use Rattle.dtyp_sid.specs.Sids.{header_of, sub_bytes}
use Rattle.dtyp_sid.proofs.sid.Sid.to_bytes.Given as goal

abbrev pub invariant-loop-sub : goal.invariant-loop-sub
invariant-loop-sub l =
    (l.place ≡ 8 + 4 * l.sub-index)
    × (l.out ≡ header_of l.self ++ sub_bytes (take l.sub-index l.subs) ++ drop l.place l.fn.out)
