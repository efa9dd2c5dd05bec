-- What a binary search finds in pairs that ascend.
use Rattle.std.proofs.Common.{◌≡◌, ℕ, suc, zero, ◌<◌, ◌≤◌, true, List, [], ◌∷◌, Result, Ok, Err, length, get_or, refl}
use Rattle.std.proofs.Common.{sym, ap, subst, ◌∙◌, arith}
use Rattle.std.specs.declared.cmp.Ordering.{Ordering}
use Rattle.std.specs.declared.cmp.Ordering.TheVariants.{Less, Equal, Greater}
use Rattle.std.specs.Ordering.{ordering_index, ordering_reverse}
use Rattle.std.specs.List.Sorted.{IsBinarySearchResult, IsSearchInRange, IsNonDecreasingBy}
use Rattle.std.specs.Cmp.{first_so, second_so}
use Rattle.std.specs.Cmp.Lexicographic.{nat_list_cmp_total}
use Rattle.acct_keeper.specs.declared.pairs.Pair.{Pair}
use Rattle.acct_keeper.specs.Pairs.{compare, by_order, below_all, is_ascending}
use Rattle.acct_keeper.specs.steps.Places.{place, further}
use Rattle.acct_keeper.proofs.Ordered.{tied-is, less}

turned : (j k : List ℕ) (r : Ordering) → compare j k ≡ r → compare k j ≡ ordering_reverse r
turned j k r e = nat_list_cmp_total.antisymm k j ∙ ap ordering_reverse e

index_rises : (a b q : List ℕ) → compare a b ≡ Less → ordering_index (compare a q) ≤ ordering_index (compare b q)
index_rises a b q lt =
    elim (compare a q) as (λ r. compare a q ≡ r → ordering_index r ≤ ordering_index (compare b q)) [
      | Less ↦ λ e. omega arith
      | Equal ↦ λ e. subst (λ (r : Ordering). 1 ≤ ordering_index r)
          (sym (turned q b Less (ap (λ k. compare k b) (sym (tied-is a q e)) ∙ lt))) (omega arith)
      | Greater ↦ λ e. subst (λ (r : Ordering). 2 ≤ ordering_index r)
          (sym (turned q b Less (nat_list_cmp_total.trans q a b (turned a q Greater e) lt))) (omega arith)
    ] refl

below_at : (k : List ℕ) (xs : List Pair) (i : ℕ) (d : Pair) → below_all k xs ≡ true → i < length xs
    → compare k (get_or xs i d).key ≡ Less
below_at k [] i d h lt = absurd (omega arith)
below_at k (x ∷ xs) zero d h lt = less _ (first_so _ _ h)
below_at k (x ∷ xs) (suc i) d h lt = below_at k xs i d (second_so _ _ h) (omega arith)

-- a number that doesn't fall where the key rises doesn't fall in pairs that ascend
module _ (f : Pair → ℕ) (le : (x y : Pair) → compare x.key y.key ≡ Less → f x ≤ f y) where
  rises : (xs : List Pair) → is_ascending xs ≡ true → IsNonDecreasingBy f xs
  rises [] h i j d le lt = absurd (omega arith)
  rises (x ∷ xs) h zero zero d le lt = omega arith
  rises (x ∷ xs) h zero (suc j) d under lt =
      le x (get_or xs j d) (below_at x.key xs j d (first_so _ _ h) (omega arith))
  rises (x ∷ xs) h (suc i) zero d le lt = absurd (omega arith)
  rises (x ∷ xs) h (suc i) (suc j) d le lt = rises xs (second_so _ _ h) i j d (omega arith) (omega arith)

module _ (q : List ℕ) where
  found : (xs : List Pair) (i : ℕ) → is_ascending xs ≡ true → i < length xs
      → ((d : Pair) → compare (get_or xs i d).key q ≡ Equal) → place q xs ≡ Ok i
  found [] i h lt e = absurd (omega arith)
  found (x ∷ xs) zero h lt e =
      ap (λ r. by_order r (Err 0) (Ok 0) (further (place q xs))) (turned x.key q Equal (e x))
  found (x ∷ xs) (suc i) h lt e =
      let same : (get_or xs i x).key ≡ q = tied-is _ _ (e x) in
      let above : compare q x.key ≡ Greater =
      turned x.key q Less
      (ap (compare x.key) (sym same) ∙ below_at x.key xs i x (first_so _ _ h) (omega arith)) in
      ap (λ r. by_order r (Err 0) (Ok 0) (further (place q xs))) above
      ∙ ap further (found xs i (second_so _ _ h) (omega arith) e)

  gap : (xs : List Pair) (i : ℕ) → i ≤ length xs
      → ((k : ℕ) (d : Pair) → 0 ≤ k → k < i → compare (get_or xs k d).key q ≡ Less)
      → ((k : ℕ) (d : Pair) → i ≤ k → k < length xs → compare (get_or xs k d).key q ≡ Greater) → place q xs ≡ Err i
  gap [] i le low high = ap Err (omega arith)
  gap (x ∷ xs) zero le low high =
      ap (λ r. by_order r (Err 0) (Ok 0) (further (place q xs)))
      (turned x.key q Greater (high 0 x (omega arith) (omega arith)))
  gap (x ∷ xs) (suc i) le low high =
      ap (λ r. by_order r (Err 0) (Ok 0) (further (place q xs)))
      (turned x.key q Less (low 0 x (omega arith) (omega arith)))
      ∙ ap further (gap xs i (omega arith) (λ k d z lt. low (suc k) d (omega arith) (omega arith))
      (λ k d ge lt. high (suc k) d (omega arith) (omega arith)))

  pub searched : (xs : List Pair) → is_ascending xs ≡ true → (r : Result ℕ ℕ) → IsSearchInRange r (length xs)
      → IsBinarySearchResult (λ y. compare y.key q) xs r → r ≡ place q xs
  searched xs h (Ok i) in_range equal = sym (found xs i h in_range equal)
  searched xs h (Err i) in_range parted =
      let risen = rises (λ y. ordering_index (compare y.key q)) (λ x y. index_rises x.key y.key q) xs h in
      let p = parted risen in
      sym (gap xs i in_range p.0 p.1)
