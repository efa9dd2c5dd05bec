-- Which values stand in a list, by key, and how many have a key.
use Rattle.std.proofs.Common.{◌≡◌, ℕ, zero, suc, ◌+◌, ◌<◌, ◌≤◌, Bool, true, false, ◌||◌, cond, List}
use Rattle.std.proofs.Common.{[], ◌∷◌, length, get_or, map, Some, refl, sym, ap, subst, ◌∙◌, arith, inl, inr}
use Rattle.std.specs.Prelude.{slice_index_or}
use Rattle.std.specs.List.{Contains, list_any}
use Rattle.std.specs.List.Sorted.{IsPermutation, IsSortedByKey}
use Rattle.std.specs.Cmp.{tied_itself, first_so}
use Rattle.std.specs.Cmp.{second_so}
use Rattle.std.specs.Cmp.Lexicographic.{nat_list_cmp_total}
use Rattle.std.specs.declared.cmp.Ordering.{Ordering}
use Rattle.std.specs.declared.cmp.Ordering.TheVariants.{Less, Equal, Greater}
use Rattle.std.specs.Ordering.{is_eq, is_lt, ordering_reverse}
use Rattle.std.proofs.lemmas.List.Sorted.{Contains-permutation, sum_by-IsPermutation, ranks_by, sorted_far}
use Rattle.std.proofs.lemmas.List.Recursion.{is_sum_by}
use Rattle.acct_tables.specs.Keyed.{compare, same_key, at, below_all, is_ascending}
use Rattle.acct_tables.proofs.Orders.{tested, same_key-is, same_key-itself}
use Rattle.acct_tables.proofs.Ascending.{In, below_in}
use Rattle.acct_tables.proofs.Lookups.{same_Some}

pub in_map : {A B : Type 0} (f : A → B) (a : A) (xs : List A) → In a xs → In (f a) (map f xs)
in_map f a [] e = e
in_map f a (x ∷ xs) (inl e) = inl (ap f e)
in_map f a (x ∷ xs) (inr e) = inr (in_map f a xs e)

pub map_in : {A B : Type 0} (f : A → B) (b : B) (xs : List A) → In b (map f xs) → (a : A) × In a xs × (b ≡ f a)
map_in f b [] e = absurd e
map_in f b (x ∷ xs) (inl e) = (x, inl refl, e)
map_in f b (x ∷ xs) (inr e) = let rest = map_in f b xs e in (rest.0, inr rest.1, rest.2)

pub contains_in : {A : Type 0} (a : A) (xs : List A) → Contains xs a → In a xs
contains_in {A = A} a xs c = found xs c.0 c.1 c.2
  where
    found : (xs : List A) (k : ℕ) → k < length xs → slice_index_or xs k a ≡ a → In a xs
    found [] k lt e = absurd (omega arith)
    found (x ∷ xs) zero lt e = inl (sym e)
    found (x ∷ xs) (suc k) lt e = inr (found xs k (omega arith) e)

pub in_contains : {A : Type 0} (a : A) (xs : List A) → In a xs → Contains xs a
in_contains a [] e = absurd e
in_contains a (x ∷ xs) (inl e) = (0, omega arith, sym e)
in_contains a (x ∷ xs) (inr e) =
    let rest = in_contains a xs e in
    (suc rest.0, (let lt = rest.1 in omega arith), rest.2)

pub in_permutation : {A : Type 0} (a : A) (xs ys : List A) → IsPermutation xs ys → In a xs → In a ys
in_permutation a xs ys p e = contains_in a ys (Contains-permutation xs ys a p (in_contains a xs e))

-- a test that some value passes
pub any_in : {A : Type 0} (p : A → Bool) (xs : List A) → list_any p xs ≡ true → (x : A) × In x xs × (p x ≡ true)
any_in p [] t = absurd cc
any_in p (x ∷ xs) t =
    elim (tested (p x)) [
      | inl u ↦ (x, inl refl, u)
      | inr f ↦ let rest = any_in p xs (sym (ap (λ b. b || list_any p xs) f) ∙ t) in (rest.0, inr rest.1, rest.2)
    ]

pub in_any : {A : Type 0} (p : A → Bool) (a : A) (xs : List A) → In a xs → p a ≡ true → list_any p xs ≡ true
in_any p a [] e t = absurd e
in_any p a (x ∷ xs) (inl e) t = ap (λ b. b || list_any p xs) (ap p (sym e) ∙ t)
in_any p a (x ∷ xs) (inr e) t =
    elim (p x) as (λ b. (b || list_any p xs) ≡ true) [ true ↦ refl | false ↦ in_any p a xs e t ]

module _ {A : Type 0} (key : A → List ℕ) where
  -- what is found at a key stands in the list, and what stands in one that ascends is found at its key
  pub at_in : (k : List ℕ) (a : A) (xs : List A) → at key k xs ≡ Some a → In a xs
  at_in k a [] e = absurd cc
  at_in k a (x ∷ xs) e =
      elim (tested (same_key k (key x))) [
        | inl t ↦ inl (sym (same_Some (ap (λ b. cond b (Some x) (at key k xs)) (sym t) ∙ e)))
        | inr t ↦ inr (at_in k a xs (ap (λ b. cond b (Some x) (at key k xs)) (sym t) ∙ e))
      ]

  pub in_at : (a : A) (xs : List A) → is_ascending key xs ≡ true → In a xs → at key (key a) xs ≡ Some a
  in_at a [] up e = absurd e
  in_at a (x ∷ xs) up (inl e) =
      ap (λ b. cond b (Some x) (at key (key a) xs)) (ap (λ y. same_key (key a) (key y)) (sym e)
      ∙ same_key-itself (key a))
      ∙ ap (λ y. Some y) (sym e)
  in_at a (x ∷ xs) up (inr e) =
      elim (tested (same_key (key a) (key x))) [
        | inl t ↦ absurd (
            let lt : compare (key x) (key a) ≡ Less = below_in key (key x) a xs (first_so _ _ up) e in
            let same : compare (key x) (key a) ≡ Equal =
            ap (λ k. compare (key x) k) (same_key-is _ _ t) ∙ tied_itself nat_list_cmp_total (key x) in
            cc (lt, same))
        | inr t ↦ ap (λ b. cond b (Some x) (at key (key a) xs)) t ∙ in_at a xs (second_so _ _ up) e
      ]

abbrev pub one_if : Bool → ℕ
one_if test = cond test 1 0

one_more : (k : ℕ) → suc k + 1 ≡ suc (k + 1)
one_more k = omega arith

module _ {A : Type 0} (key : A → List ℕ) where
  -- how many have a key
  abbrev pub count_by : List ℕ → List A → ℕ
  count_by k [] = 0
  count_by k (x ∷ xs) = one_if (same_key k (key x)) + count_by k xs

  pub count_by-permutation : (k : List ℕ) (xs ys : List A) → IsPermutation xs ys → count_by k ys ≡ count_by k xs
  count_by-permutation k xs ys p =
      let f : A → ℕ = λ x. one_if (same_key k (key x)) in
      is_sum_by (count_by k) f refl (λ _ _. refl) ys ∙ sum_by-IsPermutation f xs ys p
      ∙ sym (is_sum_by (count_by k) f refl (λ _ _. refl) xs)

  -- what is sorted, and of which no two have one key, ascends
  below : (k : List ℕ) (xs : List A) → count_by k xs ≡ 0
      → ((j : ℕ) (d : A) → j < length xs → is_lt (compare (key (get_or xs j d)) k) ≡ false) → below_all key k xs ≡ true
  below k [] none up = refl
  below k (x ∷ xs) none up =
      elim (tested (same_key k (key x))) [
        | inl t ↦ absurd (let one : one_if (same_key k (key x)) ≡ 1 = ap one_if t in omega arith)
        | inr t ↦
            let rest = below k xs (omega arith) (λ j d lt. up (suc j) d (omega arith)) in
            let first : is_lt (compare k (key x)) ≡ true = over (compare k (key x)) refl t (up 0 x (omega arith)) in
            rw (first, rest) refl
      ]
    where
      over : (r : Ordering) → compare k (key x) ≡ r → is_eq r ≡ false → is_lt (compare (key x) k) ≡ false
          → is_lt r ≡ true
      over Less e t u = refl
      over Equal e t u = absurd cc
      over Greater e t u = absurd (
          let turned : compare (key x) k ≡ Less = nat_list_cmp_total.antisymm (key x) k ∙ ap ordering_reverse e in
          let is : is_lt (compare (key x) k) ≡ true = ap is_lt turned in
          cc (is, u))

  pub sorted_rises : (xs : List A) → IsSortedByKey key compare xs → ((k : List ℕ) → count_by k xs ≤ 1)
      → is_ascending key xs ≡ true
  sorted_rises [] up few = refl
  sorted_rises (x ∷ xs) up few =
      let itself : one_if (same_key (key x) (key x)) ≡ 1 = ap one_if (same_key-itself (key x)) in
      let none : count_by (key x) xs ≡ 0 = (let all = few (key x) in omega arith) in
      let lt : A → A → Bool = λ a b. is_lt (compare (key a) (key b)) in
      let first = below (key x) xs none (λ j d bound.
      sorted_far lt (ranks_by nat_list_cmp_total key) (x ∷ xs) up 0 (suc j) d (omega arith) (omega arith)) in
      let rest = sorted_rises xs (λ k d le bound. subst (λ j. lt (get_or (x ∷ xs) j d) (get_or xs k d) ≡ false)
      (one_more k) (up (suc k) d (omega arith) (omega arith)))
      (λ k. let all = few k in omega arith) in
      rw (first, rest) refl
