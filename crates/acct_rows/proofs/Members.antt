-- Pairs that are sorted.
use Rattle.std.proofs.Common.{◌≡◌, ℕ, ◌+◌, ◌≤◌, Bool, true, ◌&&◌, List, [], ◌∷◌, ◌++◌, refl, sym, ap, ◌∙◌, arith}
use Rattle.std.specs.List.Sorted.{IsPermutation, IsSortedBy}
use Rattle.std.specs.Ordering.{is_lt}
use Rattle.acct_keeper.specs.declared.pairs.Pair.{Pair}
use Rattle.acct_keeper.specs.Pairs as kept
use Rattle.acct_tables.proofs.Standing.{count_by, count_by-permutation, sorted_rises}
use Rattle.acct_tables.specs.KeyedRows.{compare, below_all, is_ascending}
use Rattle.acct_rows.specs.PairRules.{pair_key}

-- how many pairs have a key
abbrev pub count : List ℕ → List Pair → ℕ
count k ps = count_by pair_key k ps

pub count-append : (k : List ℕ) (ps qs : List Pair) → count k (ps ++ qs) ≡ count k ps + count k qs
count-append k [] qs = omega arith
count-append k (p ∷ ps) qs = let rest = count-append k ps qs in omega arith

pub count-permutation : (k : List ℕ) (ps qs : List Pair) → IsPermutation ps qs → count k qs ≡ count k ps
count-permutation = count_by-permutation pair_key

abbrev pub precedes : Pair → Pair → Bool
precedes p q = is_lt (compare p.key q.key)

below-kept : (k : List ℕ) (ps : List Pair) → below_all pair_key k ps ≡ kept.below_all k ps
below-kept k [] = refl
below-kept k (p ∷ ps) = ap (λ b. is_lt (compare k p.key) && b) (below-kept k ps)

pub ascending-kept : (ps : List Pair) → is_ascending pair_key ps ≡ kept.is_ascending ps
ascending-kept [] = refl
ascending-kept (p ∷ ps) = rw (below-kept p.key ps, ascending-kept ps) refl

-- sorted pairs of which no two have one key ascend
pub sorted_ascends : (ps : List Pair) → IsSortedBy precedes ps → ((k : List ℕ) → count k ps ≤ 1)
    → kept.is_ascending ps ≡ true
sorted_ascends ps up few = sym (ascending-kept ps) ∙ sorted_rises pair_key ps up few
