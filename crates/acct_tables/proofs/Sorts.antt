-- Entries of rows, sorted by a key of their own, are the index of the rows
use Rattle.std.proofs.Common.{◌≡◌, ℕ, ◌+◌, ◌≤◌, true, List, [], ◌∷◌, map, refl, sym, ap, ◌∙◌, inl, inr}
use Rattle.std.proofs.Common.{subst, arith}
use Rattle.std.specs.List.Sorted.{IsPermutation, IsSortedByKey}
use Rattle.std.specs.Ordering.{is_lt}
use Rattle.std.specs.Prelude.{◌&&◌}
use Rattle.std.specs.declared.cmp.Ordering.TheVariants.{Less, Equal}
use Rattle.std.specs.Cmp.{first_so, second_so, tied_itself}
use Rattle.std.specs.Cmp.Lexicographic.{nat_list_cmp_total}
use Rattle.std.proofs.lemmas.List.Sorted.{IsPermutation-sym}
use Rattle.acct_tables.specs.Keyed.{index}
use Rattle.acct_tables.specs.Keyed.{compare, same_key, below_all, is_ascending}
use Rattle.acct_tables.proofs.Indexed.{same_members, index_ascends, in_index, index_in}
use Rattle.acct_tables.proofs.Ascending.{In, below_in}
use Rattle.acct_tables.proofs.Standing.{in_map, map_in, in_permutation, one_if, count_by, count_by-permutation}
use Rattle.acct_tables.proofs.Standing.{sorted_rises}
use Rattle.acct_tables.proofs.Orders.{tested, same_key-is}

-- an index of rows by ascending key, whose own key tells that of a row
module _ {A B : Type 0} (entry : A → B) (key : A → List ℕ) (by : B → List ℕ)
    (tells : (x y : A) → by (entry x) ≡ by (entry y) → key x ≡ key y) where
  none_has : (k : List ℕ) (x : A) (xs : List A) → below_all key (key x) xs ≡ true → k ≡ by (entry x)
      → count_by by k (map entry xs) ≡ 0
  none_has k x [] h is = refl
  none_has k x (y ∷ ys) h is =
      let rest = none_has k x ys (second_so _ _ h) is in
      elim (tested (same_key k (by (entry y)))) [
        | inl t ↦ absurd (
            let same : key x ≡ key y = tells x y (sym is ∙ same_key-is _ _ t) in
            let lt : compare (key x) (key y) ≡ Less = below_in key (key x) y (y ∷ ys) h (inl refl) in
            let tied : compare (key x) (key y) ≡ Equal =
            ap (compare (key x)) (sym same) ∙ tied_itself nat_list_cmp_total (key x) in
            cc (lt, tied))
        | inr t ↦ let here : one_if (same_key k (by (entry y))) ≡ 0 = ap one_if t in omega arith
      ]

  entries_differ : (xs : List A) → is_ascending key xs ≡ true → (k : List ℕ) → count_by by k (map entry xs) ≤ 1
  entries_differ [] h k = omega arith
  entries_differ (x ∷ xs) h k =
      elim (tested (same_key k (by (entry x)))) [
        | inl t ↦
            let none = none_has k x xs (first_so _ _ h) (same_key-is _ _ t) in
            let here : one_if (same_key k (by (entry x))) ≡ 1 = ap one_if t in
            omega arith
        | inr t ↦
            let rest = entries_differ xs (second_so _ _ h) k in
            let here : one_if (same_key k (by (entry x))) ≡ 0 = ap one_if t in
            omega arith
      ]

  pub moved_differ : (xs : List A) (ys : List B) → is_ascending key xs ≡ true → IsPermutation (map entry xs) ys
      → (k : List ℕ) → count_by by k ys ≤ 1
  moved_differ xs ys h moved k =
      let same = count_by-permutation by k (map entry xs) ys moved in
      let few = entries_differ xs h k in
      omega arith

  -- entries that ascend, in whatever order they came
  pub moved_is : (xs : List A) (ys : List B) → is_ascending key xs ≡ true → IsPermutation (map entry xs) ys
      → is_ascending by ys ≡ true → ys ≡ index entry by xs
  moved_is xs ys h moved up =
      same_members by ys (index entry by xs) up (index_ascends entry key by tells xs) there back
    where
      there : (b : B) → In b ys → In b (index entry by xs)
      there b e =
          let w = map_in entry b xs (in_permutation b ys (map entry xs) (IsPermutation-sym _ _ moved) e) in
          subst (λ c. In c (index entry by xs)) (sym w.2) (index_in entry key by tells w.0 xs h w.1)

      back : (b : B) → In b (index entry by xs) → In b ys
      back b e =
          let w = in_index entry key by tells b xs e in
          in_permutation b (map entry xs) ys moved
          (subst (λ c. In c (map entry xs)) (sym w.2) (in_map entry w.0 xs w.1))

  pub sorted_is : (xs : List A) (ys : List B) → is_ascending key xs ≡ true → IsPermutation (map entry xs) ys
      → IsSortedByKey by compare ys → ys ≡ index entry by xs
  sorted_is xs ys h moved sorted =
      moved_is xs ys h moved (sorted_rises by ys sorted (moved_differ xs ys h moved))

-- values that show rows ascend as these do
module _ {A B : Type 0} (shown : B → A) (key : A → List ℕ) where
  pub count-shown : (k : List ℕ) (ys : List B) → count_by (λ y. key (shown y)) k ys ≡ count_by key k (map shown ys)
  count-shown k [] = refl
  count-shown k (y ∷ ys) = ap (λ n. one_if (same_key k (key (shown y))) + n) (count-shown k ys)

  below-shown : (k : List ℕ) (ys : List B) → below_all key k (map shown ys) ≡ below_all (λ y. key (shown y)) k ys
  below-shown k [] = refl
  below-shown k (y ∷ ys) = ap (λ b. is_lt (compare k (key (shown y))) && b) (below-shown k ys)

  pub ascending-shown : (ys : List B) → is_ascending key (map shown ys) ≡ is_ascending (λ y. key (shown y)) ys
  ascending-shown [] = refl
  ascending-shown (y ∷ ys) = rw (below-shown (key (shown y)) ys, ascending-shown ys) refl

pub map_same : {A : Type 0} (xs : List A) → map (λ (x : A). x) xs ≡ xs
map_same [] = refl
map_same (x ∷ xs) = ap (λ ys. x ∷ ys) (map_same xs)
