-- The keys that were passed strictly rise: those from the last of them on decide.
use Rattle.std.proofs.Common.{◌≡◌, ◌-◌, drop}
use Rattle.acct_keeper.specs.Pairs.{is_ascending}
use Rattle.acct_keeper.proofs.places.is_ascending.Given as goal

abbrev pub invariant-loop-i : goal.invariant-loop-i
invariant-loop-i l = is_ascending l.pairs ≡ is_ascending (drop (l.i - 1) l.pairs)
