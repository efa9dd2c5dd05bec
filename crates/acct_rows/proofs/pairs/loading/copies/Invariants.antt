-- The copies so far are the first so many pairs.
use Rattle.std.proofs.Common.{◌≡◌, take}
use Rattle.acct_rows.proofs.pairs.loading.copies.Given as goal

abbrev pub invariant-loop-pair : goal.invariant-loop-pair
invariant-loop-pair l = l.copies.items ≡ take l.pair-index l.pairs
