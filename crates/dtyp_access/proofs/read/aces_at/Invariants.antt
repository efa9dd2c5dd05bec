-- Reading the entries left from the place on, after those so far, gives what reading all of them gives.
use Rattle.std.proofs.Common.{◌≡◌, ◌≤◌, ◌-◌, ◌++◌, length, Ok}
use Rattle.dtyp_access.specs.Reading.{aces_at, then_read}
use Rattle.dtyp_access.proofs.read.aces_at.Given as goal

abbrev pub invariant-loop-done : goal.invariant-loop-done
invariant-loop-done l = (l.place ≤ length l.bytes)
    × (aces_at l.count l.first l.end l.bytes
    ≡ then_read (aces_at (l.count - l._done) l.place l.end l.bytes) (λ aces. Ok (l.aces.items ++ aces)))
