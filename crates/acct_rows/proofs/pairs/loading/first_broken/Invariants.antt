-- No pair that was passed breaks a rule: the pairs left decide which is the first that does.
use Rattle.std.proofs.Common.{◌≡◌, drop}
use Rattle.std.specs.List.{find}
use Rattle.acct_rows.specs.PairRules.{is_broken_pair}
use Rattle.acct_rows.proofs.pairs.loading.first_broken.Given as goal

abbrev pub invariant-loop-pair : goal.invariant-loop-pair
invariant-loop-pair l =
    find (is_broken_pair l.store) (drop l.pair-index l.pairs) ≡ find (is_broken_pair l.store) l.pairs
