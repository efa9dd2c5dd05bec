-- Rows put in their places one after the other: what stands at a key is the last that has it, so that it doesn't matter
-- in which order those of other keys come.
use Rattle.std.proofs.Common.{◌≡◌, ℕ, Bool, true, false, ◌&&◌, not, cond, List, [], ◌∷◌, ◌++◌, Option, Some, None}
use Rattle.std.proofs.Common.{refl, sym, ap, subst, ◌∙◌, inl, inr, ◌⊎◌}
use Rattle.std.specs.List.{filter}
use Rattle.std.specs.List.Sorted.{IsStableByKey, ties}
use Rattle.std.specs.declared.cmp.Ordering.{Ordering}
use Rattle.std.specs.declared.cmp.Ordering.TheVariants.{Less, Equal, Greater}
use Rattle.std.specs.Ordering.{is_lt, is_eq, ordering_reverse}
use Rattle.std.proofs.lemmas.List.Elements.{filter_agree}
use Rattle.acct_tables.specs.KeyedRows.{compare, same_key, at, put, put_each, is_ascending}
use Rattle.acct_tables.proofs.Ascending.{In, is_ascending-put}
use Rattle.acct_tables.proofs.Lookups.{at-put, same_Some}
use Rattle.acct_tables.proofs.Standing.{at_in, in_at}
use Rattle.acct_tables.proofs.Orders.{total, same_key-is, same_key-itself}
use Rattle.acct_tables.proofs.Sorted.{in_filter, filter_in, same_values, one_of_key}

-- the last of some, or else another
abbrev last_or : {A : Type 0} → Option A → List A → Option A
last_or o [] = o
last_or o (x ∷ xs) = last_or (Some x) xs

last_in : {A : Type 0} (o : Option A) (xs : List A) (a : A) → last_or o xs ≡ Some a → (o ≡ Some a) ⊎ In a xs
last_in o [] a e = inl e
last_in o (x ∷ xs) a e =
    elim (last_in (Some x) xs a e) [ inl is ↦ inr (inl (sym (same_Some is))) | inr i ↦ inr (inr i) ]

-- where there is one, it is one of them
last_found : {A : Type 0} (x : A) (xs : List A) → (b : A) × (last_or (Some x) xs ≡ Some b) × In b (x ∷ xs)
last_found x [] = (x, refl, inl refl)
last_found x (y ∷ ys) = let rest = last_found y ys in (rest.0, rest.1, inr rest.2)

last_of_some : {A : Type 0} (a : A) (xs : List A) → In a xs → (b : A) × (last_or None xs ≡ Some b) × In b xs
last_of_some a [] i = absurd i
last_of_some a (x ∷ xs) i = last_found x xs

-- two orders of keys that are each other's reverse tie where the keys are one
tie : (r s : Ordering) → s ≡ ordering_reverse r → (not (is_lt r) && not (is_lt s)) ≡ is_eq r
tie Less s e = refl
tie Equal s e = ap (λ o. not (is_lt o)) e
tie Greater s e = ap (λ o. not (is_lt o)) e

module _ {A : Type 0} (key : A → List ℕ) where
  pub each-push : (rs : List A) (a : A) (xs : List A)
      → put_each key (rs ++ a ∷ []) xs ≡ put key a (put_each key rs xs)
  each-push [] a xs = refl
  each-push (r ∷ rs) a xs = each-push rs a (put key r xs)

  pub each-ascends : (rs xs : List A) → is_ascending key xs ≡ true → is_ascending key (put_each key rs xs) ≡ true
  each-ascends [] xs h = h
  each-ascends (r ∷ rs) xs h = each-ascends rs (put key r xs) (is_ascending-put key r xs h)

  abbrev has : List ℕ → A → Bool
  has q a = same_key q (key a)

  at-each : (q : List ℕ) (rs xs : List A)
      → at key q (put_each key rs xs) ≡ last_or (at key q xs) (filter (has q) rs)
  at-each q [] xs = refl
  at-each q (r ∷ rs) xs =
      at-each q rs (put key r xs) ∙ ap (λ o. last_or o (filter (has q) rs)) (at-put key q r xs)
      ∙ elim (has q r) as (λ b. last_or (cond b (Some r) (at key q xs)) (filter (has q) rs)
      ≡ last_or (at key q xs) (cond b (r ∷ filter (has q) rs) (filter (has q) rs))) [ true ↦ refl | false ↦ refl ]

  abbrev below : A → A → Bool
  below x y = is_lt (compare (key x) (key y))

  ties_are : (x y : A) → ties below x y ≡ has (key x) y
  ties_are x y = tie (compare (key x) (key y)) (compare (key y) (key x)) (total.antisymm (key y) (key x))

  -- rows of which those with one key stand in the same order have the same one at each key
  carried : (rs ss : List A) → ((x : A) → filter (has (key x)) rs ≡ filter (has (key x)) ss) → (a : A)
      → In a (put_each key rs []) → In a (put_each key ss [])
  carried rs ss same a i =
      let here : at key (key a) (put_each key rs []) ≡ Some a =
      in_at key a (put_each key rs []) (each-ascends rs [] refl) i in
      let there : at key (key a) (put_each key ss []) ≡ Some a =
      at-each (key a) ss [] ∙ ap (last_or None) (sym (same a)) ∙ sym (at-each (key a) rs []) ∙ here in
      at_in key (key a) a (put_each key ss []) there

  pub each-stable : (rs ss : List A) → IsStableByKey key compare rs ss → put_each key ss [] ≡ put_each key rs []
  each-stable rs ss stable =
      let same : (x : A) → filter (has (key x)) ss ≡ filter (has (key x)) rs =
      λ x. sym (filter_agree (ties below x) (has (key x)) (ties_are x) ss) ∙ stable x
      ∙ filter_agree (ties below x) (has (key x)) (ties_are x) rs in
      same_values key (put_each key ss []) (put_each key rs []) (each-ascends ss [] refl) (each-ascends rs [] refl)
      (carried ss rs same) (carried rs ss (λ x. sym (same x)))

  -- rows that ascend are in their places
  pub each-already : (xs : List A) → is_ascending key xs ≡ true → put_each key xs [] ≡ xs
  each-already xs h =
      same_values key (put_each key xs []) xs (each-ascends xs [] refl) h there back
    where
      there : (a : A) → In a (put_each key xs []) → In a xs
      there a i =
          let found : last_or None (filter (has (key a)) xs) ≡ Some a =
          sym (at-each (key a) xs []) ∙ in_at key a (put_each key xs []) (each-ascends xs [] refl) i in
          elim (last_in None (filter (has (key a)) xs) a found) [
            | inl none ↦ absurd cc
            | inr j ↦ (in_filter (has (key a)) a xs j).0
          ]

      back : (a : A) → In a xs → In a (put_each key xs [])
      back a i =
          let last = last_of_some a (filter (has (key a)) xs)
          (filter_in (has (key a)) a xs i (same_key-itself (key a))) in
          let within = in_filter (has (key a)) last.0 xs last.2 in
          let one : a ≡ last.0 = one_of_key key a last.0 xs h i within.0 (same_key-is (key a) (key last.0) within.1) in
          at_in key (key a) a (put_each key xs [])
          (at-each (key a) xs [] ∙ last.1 ∙ ap (λ b. Some b) (sym one))
