-- The copies so far are the first so many pairs.
use Rattle.std.proofs.Common.{◌≡◌, take}
use Rattle.acct_keeper.proofs.pairs.copy_pairs.Given as goal

abbrev pub invariant-loop-pair : goal.invariant-loop-pair
invariant-loop-pair l = l.copies.items ≡ take l.pair-index l.pairs
