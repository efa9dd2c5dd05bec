-- No pair that was passed has the key: the pairs left decide which is the first that does.
use Rattle.std.proofs.Common.{◌≡◌, drop}
use Rattle.acct_rows.specs.PairRules.{pair_at}
use Rattle.acct_rows.proofs.pairs.loading.first_at.Given as goal

abbrev pub invariant-loop-pair : goal.invariant-loop-pair
invariant-loop-pair l = pair_at l.key (drop l.pair-index l.pairs) ≡ pair_at l.key l.pairs
