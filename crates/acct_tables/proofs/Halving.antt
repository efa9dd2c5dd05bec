-- What a binary search finds in a list that ascends.
use Rattle.std.proofs.Common.{◌≡◌, ℕ, suc, zero, ◌<◌, ◌≤◌, true, List, [], ◌∷◌, Result, Ok, Err, length, get_or, refl}
use Rattle.std.proofs.Common.{sym, ap, subst, ◌∙◌, arith}
use Rattle.std.specs.declared.cmp.Ordering.{Ordering}
use Rattle.std.specs.declared.cmp.Ordering.TheVariants.{Less, Equal, Greater}
use Rattle.std.specs.Ordering.{ordering_index}
use Rattle.std.specs.List.Sorted.{IsBinarySearchResult, IsSearchInRange, IsNonDecreasingBy}
use Rattle.std.specs.Cmp.{first_so, second_so}
use Rattle.acct_tables.specs.Keyed.{Key, compare, by_order, place, further, is_ascending}
use Rattle.acct_tables.proofs.Orders.{total, tied-is, turned}
use Rattle.acct_tables.proofs.Ascending.{below_at}

index_rises : (a b q : Key) → compare a b ≡ Less → ordering_index (compare a q) ≤ ordering_index (compare b q)
index_rises a b q lt =
    elim (compare a q) as (λ r. compare a q ≡ r → ordering_index r ≤ ordering_index (compare b q)) [
      | Less ↦ λ e. omega arith
      | Equal ↦ λ e. subst (λ (r : Ordering). 1 ≤ ordering_index r)
          (sym (turned q b Less (ap (λ k. compare k b) (sym (tied-is a q e)) ∙ lt))) (omega arith)
      | Greater ↦ λ e. subst (λ (r : Ordering). 2 ≤ ordering_index r)
          (sym (turned q b Less (total.trans q a b (turned a q Greater e) lt))) (omega arith)
    ] refl

-- a number that doesn't fall where the key rises doesn't fall in a list that ascends
module _ {A : Type 0} (key : A → Key) (f : A → ℕ) (le : (x y : A) → compare (key x) (key y) ≡ Less → f x ≤ f y) where
  pub rises : (xs : List A) → is_ascending key xs ≡ true → IsNonDecreasingBy f xs
  rises [] h i j d le lt = absurd (omega arith)
  rises (x ∷ xs) h zero zero d le lt = omega arith
  rises (x ∷ xs) h zero (suc j) d under lt =
      le x (get_or xs j d) (below_at key (key x) xs j d (first_so _ _ h) (omega arith))
  rises (x ∷ xs) h (suc i) zero d le lt = absurd (omega arith)
  rises (x ∷ xs) h (suc i) (suc j) d le lt = rises xs (second_so _ _ h) i j d (omega arith) (omega arith)

module _ {A : Type 0} (key : A → Key) (q : Key) where
  found : (xs : List A) (i : ℕ) → is_ascending key xs ≡ true → i < length xs
      → ((d : A) → compare (key (get_or xs i d)) q ≡ Equal) → place key q xs ≡ Ok i
  found [] i h lt e = absurd (omega arith)
  found (x ∷ xs) zero h lt e =
      ap (λ r. by_order r (Err 0) (Ok 0) (further (place key q xs))) (turned (key x) q Equal (e x))
  found (x ∷ xs) (suc i) h lt e =
      let same : key (get_or xs i x) ≡ q = tied-is _ _ (e x) in
      let above : compare q (key x) ≡ Greater =
      turned (key x) q Less
      (ap (compare (key x)) (sym same) ∙ below_at key (key x) xs i x (first_so _ _ h) (omega arith)) in
      ap (λ r. by_order r (Err 0) (Ok 0) (further (place key q xs))) above
      ∙ ap further (found xs i (second_so _ _ h) (omega arith) e)

  gap : (xs : List A) (i : ℕ) → i ≤ length xs
      → ((k : ℕ) (d : A) → 0 ≤ k → k < i → compare (key (get_or xs k d)) q ≡ Less)
      → ((k : ℕ) (d : A) → i ≤ k → k < length xs → compare (key (get_or xs k d)) q ≡ Greater) → place key q xs ≡ Err i
  gap [] i le low high = ap Err (omega arith)
  gap (x ∷ xs) zero le low high =
      ap (λ r. by_order r (Err 0) (Ok 0) (further (place key q xs)))
      (turned (key x) q Greater (high 0 x (omega arith) (omega arith)))
  gap (x ∷ xs) (suc i) le low high =
      ap (λ r. by_order r (Err 0) (Ok 0) (further (place key q xs)))
      (turned (key x) q Less (low 0 x (omega arith) (omega arith)))
      ∙ ap further (gap xs i (omega arith) (λ k d z lt. low (suc k) d (omega arith) (omega arith))
      (λ k d ge lt. high (suc k) d (omega arith) (omega arith)))

  pub searched : (xs : List A) → is_ascending key xs ≡ true → (r : Result ℕ ℕ) → IsSearchInRange r (length xs)
      → IsBinarySearchResult (λ y. compare (key y) q) xs r → r ≡ place key q xs
  searched xs h (Ok i) in_range equal = sym (found xs i h in_range equal)
  searched xs h (Err i) in_range parted =
      let risen = rises key (λ y. ordering_index (compare (key y) q)) (λ x y. index_rises (key x) (key y) q) xs h in
      let p = parted risen in
      sym (gap xs i in_range p.0 p.1)
