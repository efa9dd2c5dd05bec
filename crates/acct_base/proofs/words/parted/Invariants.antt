-- What the loop of `parted` keeps: the first separator isn't among the bytes that it passed.
use Rattle.std.proofs.Common.{◌≡◌, ◌+◌, ◌==◌, drop}
use Rattle.std.specs.List.{position_or_len}
use Rattle.acct_base.proofs.words.parted.Given as goal

abbrev pub invariant-loop-i : goal.invariant-loop-i
invariant-loop-i l =
    l.i + position_or_len (λ b. b == l.separator) (drop l.i l.bytes)
    ≡ position_or_len (λ b. b == l.separator) l.bytes
