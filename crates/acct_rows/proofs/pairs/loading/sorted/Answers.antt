-- `sorted` meets its contract: sorted pairs of which no key stands twice ascend.
use Rattle.std.proofs.Common.{◌≡◌, true, subst, sym, rules}
use Rattle.std.specs.Cmp.Lexicographic.{nat_list_cmp_total}
use Rattle.std.proofs.lemmas.List.Sorted.{ranks_by, answers_always}
use Rattle.acct_rows.specs.PairsOf.{keys_differ}
use Rattle.acct_rows.specs.PairRules.{pair_key}
use Rattle.acct_rows.proofs.Shuffled.{shuffled_ascend}
use Rattle.acct_rows.proofs.pairs.loading.sorted.Goals as goal

pub returns-clause-ascending : goal.returns-clause-ascending
returns-clause-ascending c =
    let sorted = c.in_ok-sort_by.ensures in
    shuffled_ascend c.in_ok-copies.copies.items _
    (subst (λ ps. keys_differ ps ≡ true) (sym c.in_ok-copies.ensures) c.requires) sorted.permutation
    (sorted.sorted _ (ranks_by nat_list_cmp_total pair_key) (answers_always _ _ _ (λ f a r f' k. search rules)))
