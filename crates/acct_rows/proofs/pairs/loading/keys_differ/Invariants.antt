-- No key that was passed stands again after it: the keys of the pairs left decide.
use Rattle.std.proofs.Common.{◌≡◌, length}
use Rattle.acct_rows.specs.PairsOf.{keys_differ}
use Rattle.acct_rows.proofs.pairs.loading.keys_differ.Given as goal

abbrev pub invariant-loop-pair : goal.invariant-loop-pair
invariant-loop-pair l = keys_differ l.left ≡ keys_differ l.pairs

abbrev pub decreases-loop-pair : goal.decreases-loop-pair
decreases-loop-pair l = length l.left
