-- Which lists ascend, and which values stand in them.
use Rattle.std.proofs.Common.{◌≡◌, ℕ, suc, zero, ◌<◌, Bool, true, false, ◌&&◌, cond, List, [], ◌∷◌, ◌++◌}
use Rattle.std.proofs.Common.{length, get_or, refl, sym, ap, subst, ◌∙◌, inl, inr, ◌⊎◌, arith}
use Rattle.std.specs.List.{filter}
use Rattle.std.specs.declared.cmp.Ordering.TheVariants.{Less, Equal, Greater}
use Rattle.std.specs.Ordering.{is_lt}
use Rattle.std.specs.Cmp.{first_so, second_so}
use Rattle.acct_tables.specs.Keyed.{Key, compare, by_order, put, without, without_all, below_all, is_ascending, sorted}
use Rattle.acct_tables.proofs.Orders.{total, both, less, tied-is, turned}

-- a value stands in a list
abbrev pub In : {A : Type 0} → A → List A → Type 0
In a [] = ⊥
In a (x ∷ xs) = (a ≡ x) ⊎ In a xs

module _ {A : Type 0} (key : A → Key) where
  pub below_less : (j k : Key) (xs : List A) → compare j k ≡ Less → below_all key k xs ≡ true
      → below_all key j xs ≡ true
  below_less j k [] p h = refl
  below_less j k (x ∷ xs) p h =
      both (ap is_lt (total.trans j k (key x) p (less _ (first_so _ _ h)))) (below_less j k xs p (second_so _ _ h))

  pub below_in : (k : Key) (a : A) (xs : List A) → below_all key k xs ≡ true → In a xs → compare k (key a) ≡ Less
  below_in k a [] below e = absurd e
  below_in k a (x ∷ xs) below (inl e) = less _ (ap (λ y. is_lt (compare k (key y))) e ∙ first_so _ _ below)
  below_in k a (x ∷ xs) below (inr e) = below_in k a xs (second_so _ _ below) e

  pub below_at : (k : Key) (xs : List A) (i : ℕ) (d : A) → below_all key k xs ≡ true → i < length xs
      → compare k (key (get_or xs i d)) ≡ Less
  below_at k [] i d h lt = absurd (omega arith)
  below_at k (x ∷ xs) zero d h lt = less _ (first_so _ _ h)
  below_at k (x ∷ xs) (suc i) d h lt = below_at k xs i d (second_so _ _ h) (omega arith)

  -- ---- puts

  below_all-put : (k : Key) (a : A) (xs : List A) → is_lt (compare k (key a)) ≡ true → below_all key k xs ≡ true
      → below_all key k (put key a xs) ≡ true
  below_all-put k a [] p h = both p refl
  below_all-put k a (x ∷ xs) p h =
      let rest = below_all-put k a xs p (second_so _ _ h) in
      elim (compare (key a) (key x)) as
      (λ r. below_all key k (by_order r (a ∷ x ∷ xs) (a ∷ xs) (x ∷ put key a xs)) ≡ true) [
        | Less ↦ both p h
        | Equal ↦ both p (second_so _ _ h)
        | Greater ↦ both (first_so _ _ h) rest
      ]

  pub is_ascending-put : (a : A) (xs : List A) → is_ascending key xs ≡ true → is_ascending key (put key a xs) ≡ true
  is_ascending-put a [] h = refl
  is_ascending-put a (x ∷ xs) h =
      elim (compare (key a) (key x)) as
      (λ r. compare (key a) (key x) ≡ r
      → is_ascending key (by_order r (a ∷ x ∷ xs) (a ∷ xs) (x ∷ put key a xs)) ≡ true) [
        | Less ↦ λ p. both (both (ap is_lt p) (below_less (key a) (key x) xs p (first_so _ _ h))) h
        | Equal ↦ λ p. subst (λ (k : Key). (below_all key k xs && is_ascending key xs) ≡ true)
            (sym (tied-is _ _ p)) h
        | Greater ↦ λ p. both
            (below_all-put (key x) a xs (ap is_lt (turned (key a) (key x) Greater p)) (first_so _ _ h))
            (is_ascending-put a xs (second_so _ _ h))
      ] refl

  pub sorted_ascends : (xs : List A) → is_ascending key (sorted key xs) ≡ true
  sorted_ascends [] = refl
  sorted_ascends (x ∷ xs) = is_ascending-put x (sorted key xs) (sorted_ascends xs)

  -- ---- filters

  below_all-filter : (p : A → Bool) (k : Key) (xs : List A) → below_all key k xs ≡ true
      → below_all key k (filter p xs) ≡ true
  below_all-filter p k [] h = refl
  below_all-filter p k (x ∷ xs) h =
      let rest = below_all-filter p k xs (second_so _ _ h) in
      elim (p x) as (λ b. below_all key k (cond b (x ∷ filter p xs) (filter p xs))
      ≡ true) [ true ↦ both (first_so _ _ h) rest | false ↦ rest ]

  pub is_ascending-filter : (p : A → Bool) (xs : List A) → is_ascending key xs ≡ true
      → is_ascending key (filter p xs) ≡ true
  is_ascending-filter p [] h = refl
  is_ascending-filter p (x ∷ xs) h =
      let rest = is_ascending-filter p xs (second_so _ _ h) in
      elim (p x) as (λ b. is_ascending key (cond b (x ∷ filter p xs) (filter p xs))
      ≡ true) [ true ↦ both (below_all-filter p (key x) xs (first_so _ _ h)) rest | false ↦ rest ]

  pub is_ascending-without_all : (gone xs : List A) → is_ascending key xs ≡ true
      → is_ascending key (without_all key gone xs) ≡ true
  is_ascending-without_all [] xs h = h
  is_ascending-without_all (a ∷ gone) xs h =
      is_ascending-without_all gone (without key (key a) xs) (is_ascending-filter _ xs h)

  -- ---- a value after all others

  below_all-push : (k : Key) (xs : List A) (a : A) → below_all key k xs ≡ true → compare k (key a) ≡ Less
      → below_all key k (xs ++ a ∷ []) ≡ true
  below_all-push k [] a h lt = both (ap is_lt lt) refl
  below_all-push k (x ∷ xs) a h lt = both (first_so _ _ h) (below_all-push k xs a (second_so _ _ h) lt)

  pub is_ascending-push : (xs : List A) (a : A) → is_ascending key xs ≡ true
      → ((x : A) → In x xs → compare (key x) (key a) ≡ Less) → is_ascending key (xs ++ a ∷ []) ≡ true
  is_ascending-push [] a h under = refl
  is_ascending-push (x ∷ xs) a h under =
      both (below_all-push (key x) xs a (first_so _ _ h) (under x (inl refl)))
      (is_ascending-push xs a (second_so _ _ h) (λ y e. under y (inr e)))
