-- Pairs that ascend stay ascending, and neighbours that ascend are enough.
use Rattle.std.specs.Prelude.{◌≡◌, ℕ, Bool, true, false, ◌&&◌, cond, List, [], ◌∷◌, refl}
use Rattle.std.proofs.Common.{sym, ap, subst, ◌∙◌}
use Rattle.std.specs.List.{filter}
use Rattle.std.specs.declared.cmp.Ordering.{Ordering}
use Rattle.std.specs.declared.cmp.Ordering.TheVariants.{Less, Equal, Greater}
use Rattle.std.specs.Ordering.{nat_cmp, is_lt, ordering_reverse}
use Rattle.std.specs.Cmp.{IsTotalOrder, first_so, second_so}
use Rattle.std.specs.Cmp.Lexicographic.{slice_cmp, nat_list_cmp_total}
use Rattle.std.specs.FinMap.{slice_cmp-IsAntisymmetric, nat_cmp-IsAntisymmetric}
use Rattle.acct_keeper.specs.declared.pairs.Pair.{Pair}
use Rattle.acct_keeper.specs.Pairs.{compare, by_order, put, below_all, is_ascending}

total : IsTotalOrder (slice_cmp nat_cmp)
total = nat_list_cmp_total

pub tied-is : (j k : List ℕ) → compare j k ≡ Equal → j ≡ k
tied-is j k e = slice_cmp-IsAntisymmetric nat_cmp-IsAntisymmetric j k e

pub less : (r : Ordering) → is_lt r ≡ true → r ≡ Less
less Less p = refl
less Equal p = cc
less Greater p = cc

both : {a b : Bool} → a ≡ true → b ≡ true → (a && b) ≡ true
both {a} {b} p q = rw (p, q) refl

below_all-put : (k : List ℕ) (a : Pair) (xs : List Pair) → is_lt (compare k a.key) ≡ true → below_all k xs ≡ true
    → below_all k (put a xs) ≡ true
below_all-put k a [] p h = both p refl
below_all-put k a (x ∷ xs) p h =
    let rest = below_all-put k a xs p (second_so _ _ h) in
    elim (compare a.key x.key) as
    (λ r. below_all k (by_order r (a ∷ x ∷ xs) (a ∷ xs) (x ∷ put a xs)) ≡ true) [
      | Less ↦ both p h
      | Equal ↦ both p (second_so _ _ h)
      | Greater ↦ both (first_so _ _ h) rest
    ]

pub below_less : (j k : List ℕ) (xs : List Pair) → compare j k ≡ Less → below_all k xs ≡ true → below_all j xs ≡ true
below_less j k [] p h = refl
below_less j k (x ∷ xs) p h =
    both (ap is_lt (total.trans j k x.key p (less _ (first_so _ _ h)))) (below_less j k xs p (second_so _ _ h))

pub is_ascending-put : (a : Pair) (xs : List Pair) → is_ascending xs ≡ true → is_ascending (put a xs) ≡ true
is_ascending-put a [] h = refl
is_ascending-put a (x ∷ xs) h =
    elim (compare a.key x.key) as
    (λ r. compare a.key x.key ≡ r
    → is_ascending (by_order r (a ∷ x ∷ xs) (a ∷ xs) (x ∷ put a xs)) ≡ true) [
      | Less ↦ λ p. both (both (ap is_lt p) (below_less a.key x.key xs p (first_so _ _ h))) h
      | Equal ↦ λ p. subst (λ (k : List ℕ). (below_all k xs && is_ascending xs) ≡ true)
          (sym (tied-is _ _ p)) h
      | Greater ↦ λ p. both
          (below_all-put x.key a xs (ap is_lt (total.antisymm x.key a.key ∙ ap ordering_reverse p))
          (first_so _ _ h)) (is_ascending-put a xs (second_so _ _ h))
    ] refl

below_all-filter : (p : Pair → Bool) (k : List ℕ) (xs : List Pair) → below_all k xs ≡ true
    → below_all k (filter p xs) ≡ true
below_all-filter p k [] h = refl
below_all-filter p k (x ∷ xs) h =
    let rest = below_all-filter p k xs (second_so _ _ h) in
    elim (p x) as (λ b. below_all k (cond b (x ∷ filter p xs) (filter p xs))
    ≡ true) [ true ↦ both (first_so _ _ h) rest | false ↦ rest ]

pub is_ascending-filter : (p : Pair → Bool) (xs : List Pair) → is_ascending xs ≡ true
    → is_ascending (filter p xs) ≡ true
is_ascending-filter p [] h = refl
is_ascending-filter p (x ∷ xs) h =
    let rest = is_ascending-filter p xs (second_so _ _ h) in
    elim (p x) as (λ b. is_ascending (cond b (x ∷ filter p xs) (filter p xs))
    ≡ true) [ true ↦ both (below_all-filter p x.key xs (first_so _ _ h)) rest | false ↦ rest ]
