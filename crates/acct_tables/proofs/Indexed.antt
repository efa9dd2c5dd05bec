-- Indexes: the same rows by another key, as their list changes
use Rattle.std.proofs.Common.{◌≡◌, ◌≢◌, ℕ, Bool, true, false, not, cond, List, [], ◌∷◌, Option, Some, None, refl}
use Rattle.std.proofs.Common.{sym, ap, subst, ◌∙◌, inl, inr, ◌⊎◌}
use Rattle.std.specs.declared.cmp.Ordering.TheVariants.{Less, Equal, Greater}
use Rattle.std.specs.Ordering.{is_eq, ordering_reverse}
use Rattle.std.specs.Cmp.{first_so, second_so, tied_itself}
use Rattle.std.specs.Cmp.Lexicographic.{nat_list_cmp_total}
use Rattle.acct_tables.specs.Keyed.{index}
use Rattle.acct_tables.specs.Keyed.{compare, same_key, by_order, at, put, without, below_all, is_ascending}
use Rattle.acct_tables.proofs.Ascending.{In, below_in, is_ascending-put, is_ascending-filter, below_less}
use Rattle.acct_tables.proofs.Lookups.{same_Some, key_found, there_or_not, swapped, at-put, at-without, below_apart}
use Rattle.acct_tables.proofs.Standing.{at_in, in_at}
use Rattle.acct_tables.proofs.Orders.{tested, same_key-is, same_key-itself, tied-is, apart}

module _ {A : Type 0} (key : A → List ℕ) where
  pub first_at : (x : A) (xs : List A) → at key (key x) (x ∷ xs) ≡ Some x
  first_at x xs = ap (λ b. cond b (Some x) (at key (key x) xs)) (same_key-itself (key x))

  none_below : (q : List ℕ) (y : A) (ys : List A) → compare q (key y) ≡ Less → is_ascending key (y ∷ ys) ≡ true
      → at key q (y ∷ ys) ≡ None
  none_below q y ys p h = ap (λ r. cond (is_eq r) (Some y) (at key q ys)) p
      ∙ below_apart key q ys (below_less key q (key y) ys p (first_so _ _ h))

  -- what is found after rows with one key
  behind : (q : List ℕ) (x y : A) (xs ys : List A) → is_ascending key (x ∷ xs) ≡ true → is_ascending key (y ∷ ys) ≡ true
      → key x ≡ key y → at key q (x ∷ xs) ≡ at key q (y ∷ ys) → at key q xs ≡ at key q ys
  behind q x y xs ys h k same e =
      elim (tested (same_key q (key x))) [
        | inl t ↦
            let is : key x ≡ q = sym (same_key-is _ _ t) in
            below_apart key q xs (subst (λ j. below_all key j xs ≡ true) is (first_so _ _ h))
            ∙ sym (below_apart key q ys (subst (λ j. below_all key j ys ≡ true) (sym same ∙ is) (first_so _ _ k)))
        | inr t ↦
            sym (ap (λ b. cond b (Some x) (at key q xs)) t) ∙ e
            ∙ ap (λ b. cond b (Some y) (at key q ys)) (ap (same_key q) (sym same) ∙ t)
      ]

  -- lists by ascending key in which the same is found at each key are one
  pub one_list : (xs ys : List A) → is_ascending key xs ≡ true → is_ascending key ys ≡ true
      → ((q : List ℕ) → at key q xs ≡ at key q ys) → xs ≡ ys
  one_list [] [] h k e = refl
  one_list [] (y ∷ ys) h k e = absurd (let n : None ≡ Some y = e (key y) ∙ first_at y ys in cc)
  one_list (x ∷ xs) [] h k e = absurd (let n : Some x ≡ None = sym (first_at x xs) ∙ e (key x) in cc)
  one_list (x ∷ xs) (y ∷ ys) h k e =
      let rest = one_list xs ys (second_so _ _ h) (second_so _ _ k) in
      elim (compare (key x) (key y)) as (λ r. compare (key x) (key y) ≡ r → (x ∷ xs) ≡ (y ∷ ys)) [
        | Less ↦ λ p. absurd (
            let n : Some x ≡ None = sym (first_at x xs) ∙ e (key x) ∙ none_below (key x) y ys p k in
            cc)
        | Equal ↦ λ p.
            let same : key x ≡ key y = tied-is _ _ p in
            let one : x ≡ y =
            same_Some (sym (first_at x xs) ∙ e (key x) ∙ ap (λ q. at key q (y ∷ ys)) same ∙ first_at y ys) in
            let others : xs ≡ ys = rest (λ q. behind q x y xs ys h k same (e q)) in
            ap (λ z. z ∷ xs) one ∙ ap (λ zs. y ∷ zs) others
        | Greater ↦ λ p. absurd (
            let turned : compare (key y) (key x) ≡ Less =
            nat_list_cmp_total.antisymm (key y) (key x) ∙ ap ordering_reverse p in
            let n : Some y ≡ None = sym (first_at y ys) ∙ sym (e (key y)) ∙ none_below (key y) x xs turned h in
            cc)
      ] refl

  -- puts of rows with two keys, in either order
  pub put_put : (a b : A) (xs : List A) → is_ascending key xs ≡ true → key a ≢ key b
      → put key a (put key b xs) ≡ put key b (put key a xs)
  put_put a b xs h differ =
      one_list _ _ (is_ascending-put key a _ (is_ascending-put key b xs h))
      (is_ascending-put key b _ (is_ascending-put key a xs h))
      (λ q. at-put key q a (put key b xs) ∙ ap (cond (same_key q (key a)) (Some a)) (at-put key q b xs)
      ∙ swapped (same_key q (key a)) (same_key q (key b)) (Some a) (Some b) (at key q xs)
      (λ u v. differ (sym (same_key-is _ _ u) ∙ same_key-is _ _ v))
      ∙ sym (at-put key q b (put key a xs) ∙ ap (cond (same_key q (key b)) (Some b)) (at-put key q a xs)))

  -- a put over what was there is a put where it is gone
  pub put_over : (a : A) (xs : List A) → is_ascending key xs ≡ true → put key a xs ≡ put key a (without key (key a) xs)
  put_over a xs h =
      one_list _ _ (is_ascending-put key a xs h) (is_ascending-put key a _ (is_ascending-filter key _ xs h))
      (λ q. at-put key q a xs ∙ elim (tested (same_key q (key a))) [
        | inl t ↦ ap (λ b. cond b (Some a) (at key q xs)) t
            ∙ sym (ap (λ b. cond b (Some a) (at key q (without key (key a) xs))) t)
        | inr t ↦ ap (cond (same_key q (key a)) (Some a)) (sym (elsewhere q (key a) xs t))
      ] ∙ sym (at-put key q a (without key (key a) xs)))
    where
      elsewhere : (q k : List ℕ) (xs : List A) → same_key q k ≡ false → at key q (without key k xs) ≡ at key q xs
      elsewhere q k xs t =
          at-without key q k xs ∙ elim (tested (same_key k q)) [
            | inl s ↦ absurd (
                let is : k ≡ q = same_key-is _ _ s in
                let yes : same_key q k ≡ true = ap (same_key q) is ∙ same_key-itself q in
                cc)
            | inr s ↦ ap (λ b. cond (not b) (at key q xs) None) s
          ]

  pub none_without : (k : List ℕ) (xs : List A) → at key k (without key k xs) ≡ None
  none_without k xs = at-without key k k xs ∙ ap (λ b. cond (not b) (at key k xs) None) (same_key-itself k)

  -- without a key that isn't there
  pub without_none : (k : List ℕ) (xs : List A) → is_ascending key xs ≡ true → at key k xs ≡ None
      → without key k xs ≡ xs
  without_none k xs h none =
      one_list _ _ (is_ascending-filter key _ xs h) h (λ q. at-without key q k xs ∙ elim (tested (same_key k q)) [
        | inl t ↦ ap (λ b. cond (not b) (at key q xs) None) t
            ∙ sym (subst (λ j. at key j xs ≡ None) (same_key-is _ _ t) none)
        | inr t ↦ ap (λ b. cond (not b) (at key q xs) None) t
      ])

  pub without_put : (a : A) (xs : List A) → is_ascending key xs ≡ true → at key (key a) xs ≡ None
      → without key (key a) (put key a xs) ≡ xs
  without_put a xs h none =
      one_list _ _ (is_ascending-filter key _ _ (is_ascending-put key a xs h)) h
      (λ q. at-without key q (key a) (put key a xs) ∙ elim (tested (same_key (key a) q)) [
        | inl t ↦ ap (λ b. cond (not b) (at key q (put key a xs)) None) t
            ∙ sym (subst (λ j. at key j xs ≡ None) (same_key-is _ _ t) none)
        | inr t ↦ ap (λ b. cond (not b) (at key q (put key a xs)) None) t ∙ at-put key q a xs
            ∙ elim (tested (same_key q (key a))) [
              | inl s ↦ absurd (
                  let is : q ≡ key a = same_key-is _ _ s in
                  let yes : same_key (key a) q ≡ true = ap (same_key (key a)) is ∙ same_key-itself (key a) in
                  cc)
              | inr s ↦ ap (λ b. cond b (Some a) (at key q xs)) s
            ]
      ])

  pub without_put_other : (k : List ℕ) (a : A) (xs : List A) → is_ascending key xs ≡ true → k ≢ key a
      → put key a (without key k xs) ≡ without key k (put key a xs)
  without_put_other k a xs h differ =
      one_list _ _ (is_ascending-put key a _ (is_ascending-filter key _ xs h))
      (is_ascending-filter key _ _ (is_ascending-put key a xs h))
      (λ q. at-put key q a (without key k xs) ∙ ap (cond (same_key q (key a)) (Some a)) (at-without key q k xs)
      ∙ moved (same_key q (key a)) (same_key k q) (Some a) (at key q xs)
      (λ u v. differ (same_key-is _ _ v ∙ same_key-is _ _ u))
      ∙ sym (at-without key q k (put key a xs) ∙ ap (λ o. cond (not (same_key k q)) o None) (at-put key q a xs)))
    where
      moved : (s t : Bool) (x y : Option A) → (s ≡ true → t ≢ true)
          → cond s x (cond (not t) y None) ≡ cond (not t) (cond s x y) None
      moved true true x y differ = absurd (differ refl refl)
      moved true false x y differ = refl
      moved false t x y differ = refl

  pub in_put : (b c : A) (xs : List A) → In b (put key c xs) → (b ≡ c) ⊎ In b xs
  in_put b c [] (inl e) = inl e
  in_put b c [] (inr e) = inr e
  in_put b c (x ∷ xs) e =
      let rest = in_put b c xs in
      elim (compare (key c) (key x)) as
      (λ r. In b (by_order r (c ∷ x ∷ xs) (c ∷ xs) (x ∷ put key c xs)) → (b ≡ c) ⊎ ((b ≡ x) ⊎ In b xs)) [
        | Less ↦ λ i. i
        | Equal ↦ λ i. elim i [ inl l ↦ inl l | inr r ↦ inr (inr r) ]
        | Greater ↦ λ i. elim i [
          | inl l ↦ inr (inl l)
          | inr r ↦ elim (rest r) [ inl l ↦ inl l | inr m ↦ inr (inr m) ]
        ]
      ] e

-- lists by ascending key with the same members are one
module _ {A : Type 0} (key : A → List ℕ) where
  found_too : (q : List ℕ) (xs ys : List A) → is_ascending key ys ≡ true → ((a : A) → In a xs → In a ys) → (a : A)
      → at key q xs ≡ Some a → at key q ys ≡ Some a
  found_too q xs ys k to a e =
      subst (λ j. at key j ys ≡ Some a) (key_found key q xs a e) (in_at key a ys k (to a (at_in key q a xs e)))

  pub same_members : (xs ys : List A) → is_ascending key xs ≡ true → is_ascending key ys ≡ true
      → ((a : A) → In a xs → In a ys) → ((a : A) → In a ys → In a xs) → xs ≡ ys
  same_members xs ys h k to back =
      one_list key xs ys h k (λ q. elim (there_or_not (at key q xs)) [
        | inl w ↦ w.1 ∙ sym (found_too q xs ys k to w.0 w.1)
        | inr none ↦ elim (there_or_not (at key q ys)) [
          | inl v ↦ absurd (let there : at key q xs ≡ Some v.0 = found_too q ys xs h back v.0 v.1 in cc)
          | inr neither ↦ none ∙ sym neither
        ]
      ])

-- an index of rows by ascending key, whose own key tells that of a row
module _ {A B : Type 0} (entry : A → B) (key : A → List ℕ) (by : B → List ℕ)
    (tells : (x y : A) → by (entry x) ≡ by (entry y) → key x ≡ key y) where
  pub index_ascends : (xs : List A) → is_ascending by (index entry by xs) ≡ true
  index_ascends [] = refl
  index_ascends (x ∷ xs) = is_ascending-put by (entry x) _ (index_ascends xs)

  -- what isn't among the rows isn't in the index
  pub absent : (x : A) (xs : List A) → at key (key x) xs ≡ None → at by (by (entry x)) (index entry by xs) ≡ None
  absent x [] none = refl
  absent x (y ∷ ys) none =
      at-put by (by (entry x)) (entry y) (index entry by ys) ∙ elim (tested (same_key (by (entry x)) (by (entry y)))) [
        | inl t ↦ absurd (
            let same : key x ≡ key y = tells x y (same_key-is _ _ t) in
            let there : at key (key x) (y ∷ ys) ≡ Some y = ap (λ q. at key q (y ∷ ys)) same ∙ first_at key y ys in
            cc)
        | inr t ↦ ap (λ b. cond b (Some (entry y)) (at by (by (entry x)) (index entry by ys))) t
            ∙ absent x ys (behind_none (same_key (key x) (key y)) y (at key (key x) ys) none)
      ]
    where
      behind_none : (b : Bool) (y : A) (o : Option A) → cond b (Some y) o ≡ None → o ≡ None
      behind_none true y o e = cc
      behind_none false y o e = e

  pub index_put : (a : A) (xs : List A) → at key (key a) xs ≡ None
      → index entry by (put key a xs) ≡ put by (entry a) (index entry by xs)
  index_put a [] none = refl
  index_put a (x ∷ xs) none =
      let rest = index_put a xs in
      elim (compare (key a) (key x)) as
      (λ r. compare (key a) (key x) ≡ r → cond (is_eq r) (Some x) (at key (key a) xs) ≡ None
      → index entry by (by_order r (a ∷ x ∷ xs) (a ∷ xs) (x ∷ put key a xs))
      ≡ put by (entry a) (put by (entry x) (index entry by xs))) [
        | Less ↦ λ p n. refl
        | Equal ↦ λ p n. absurd cc
        | Greater ↦ λ p n. ap (put by (entry x)) (rest n)
            ∙ put_put by (entry x) (entry a) (index entry by xs) (index_ascends xs)
            (λ e. apart (key a) (key x) (sym (tells x a e)) p)
      ] refl none

  pub index_without : (k : List ℕ) (xs : List A) (old : A) → is_ascending key xs ≡ true → at key k xs ≡ Some old
      → index entry by (without key k xs) ≡ without by (by (entry old)) (index entry by xs)
  index_without k [] old h there = absurd cc
  index_without k (x ∷ xs) old h there =
      elim (tested (same_key k (key x))) [
        | inl t ↦
            let is : x ≡ old = same_Some (sym (ap (λ b. cond b (Some x) (at key k xs)) t) ∙ there) in
            let here : key x ≡ k = sym (same_key-is _ _ t) in
            let none : at key (key x) xs ≡ None = below_apart key (key x) xs (first_so _ _ h) in
            ap (λ b. index entry by (cond (not b) (x ∷ without key k xs) (without key k xs))) t
            ∙ ap (index entry by)
            (without_none key k xs (second_so _ _ h) (subst (λ j. at key j xs ≡ None) here none))
            ∙ sym (without_put by (entry x) (index entry by xs) (index_ascends xs) (absent x xs none))
            ∙ ap (λ y. without by (by (entry y)) (put by (entry x) (index entry by xs))) is
        | inr t ↦
            let behind : at key k xs ≡ Some old = sym (ap (λ b. cond b (Some x) (at key k xs)) t) ∙ there in
            let found : key old ≡ k = key_found key k xs old behind in
            ap (λ b. index entry by (cond (not b) (x ∷ without key k xs) (without key k xs))) t
            ∙ ap (put by (entry x)) (index_without k xs old (second_so _ _ h) behind)
            ∙ without_put_other by (by (entry old)) (entry x) (index entry by xs) (index_ascends xs)
            (λ e. let same : k ≡ key x = sym found ∙ tells old x e in
            let yes : same_key k (key x) ≡ true = ap (same_key k) (sym same) ∙ same_key-itself k in
            cc)
      ]

  -- the index of rows among which there may be one with the key
  pub index_put_over : (a : A) (xs : List A) → is_ascending key xs ≡ true
      → index entry by (put key a xs) ≡ put by (entry a) (index entry by (without key (key a) xs))
  index_put_over a xs h =
      ap (index entry by) (put_over key a xs h) ∙ index_put a (without key (key a) xs) (none_without key (key a) xs)

  pub in_index : (b : B) (xs : List A) → In b (index entry by xs) → (a : A) × In a xs × (b ≡ entry a)
  in_index b [] e = absurd e
  in_index b (x ∷ xs) e =
      elim (in_put by b (entry x) (index entry by xs) e) [
        | inl l ↦ (x, inl refl, l)
        | inr r ↦ let rest = in_index b xs r in (rest.0, inr rest.1, rest.2)
      ]

  pub index_at : (a : A) (xs : List A) → is_ascending key xs ≡ true → In a xs
      → at by (by (entry a)) (index entry by xs) ≡ Some (entry a)
  index_at a [] h e = absurd e
  index_at a (x ∷ xs) h (inl e) =
      at-put by (by (entry a)) (entry x) (index entry by xs)
      ∙ ap (λ b. cond b (Some (entry x)) (at by (by (entry a)) (index entry by xs)))
      (ap (λ y. same_key (by (entry a)) (by (entry y))) (sym e) ∙ same_key-itself (by (entry a)))
      ∙ ap (λ y. Some (entry y)) (sym e)
  index_at a (x ∷ xs) h (inr e) =
      at-put by (by (entry a)) (entry x) (index entry by xs)
      ∙ elim (tested (same_key (by (entry a)) (by (entry x)))) [
        | inl t ↦ absurd (
            let same : key a ≡ key x = tells a x (same_key-is _ _ t) in
            let lt : compare (key x) (key a) ≡ Less = below_in key (key x) a xs (first_so _ _ h) e in
            let tied : compare (key x) (key a) ≡ Equal =
            ap (compare (key x)) same ∙ tied_itself nat_list_cmp_total (key x) in
            cc)
        | inr t ↦ ap (λ b. cond b (Some (entry x)) (at by (by (entry a)) (index entry by xs))) t
            ∙ index_at a xs (second_so _ _ h) e
      ]

  pub index_in : (a : A) (xs : List A) → is_ascending key xs ≡ true → In a xs → In (entry a) (index entry by xs)
  index_in a xs h e = at_in by (by (entry a)) (entry a) (index entry by xs) (index_at a xs h e)
