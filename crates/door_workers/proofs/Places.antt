-- Places in lists, one list after another.
use Rattle.std.proofs.Common.{◌≡◌, ℕ, zero, suc, ◌+◌, ◌<◌, ◌⊎◌, inl, inr, ⊎_elim, List, [], ◌∷◌, ◌++◌, length, refl}
use Rattle.std.proofs.Common.{sym, subst, arith}
use mathlib.Core.Option.{some, some-injective, some-ne-none}
use lib.ListN.{get_elem?}
use Rattle.atomic_table.proofs.Lists.{at_longer}
use Rattle.door_workers.specs.Services.{Service, IsOfConn}
use Rattle.door_workers.specs.Doors.{Has, AreDistinct}

pub at-behind : {A : Type 0} (xs ys : List A) (p : ℕ) (a : A) → get_elem? ys p ≡ some a
    → get_elem? (xs ++ ys) (length xs + p) ≡ some a
at-behind {A} [] ys p a at = let same : length {A = A} [] + p ≡ p = omega arith in subst
    (λ n. get_elem? ys n ≡ some a) (sym same) at
at-behind (x ∷ xs) ys p a at = let up : length (x ∷ xs) + p ≡ suc (length xs + p) = omega arith in rw up
    (at-behind xs ys p a at)

pub at-within : {A : Type 0} (xs : List A) (p : ℕ) (a : A) → get_elem? xs p ≡ some a → p < length xs
at-within [] p a at = absurd (some-ne-none a (sym at))
at-within (x ∷ xs) zero a at = omega arith
at-within (x ∷ xs) (suc p) a at = let rest = at-within xs p a at in omega arith

pub has-either : {A : Type 0} (xs ys : List A) (a : A) → Has (xs ++ ys) a → Has xs a ⊎ Has ys a
has-either [] ys a has = inr has
has-either (x ∷ xs) ys a (zero, at) = inl (0, at)
has-either (x ∷ xs) ys a (suc i, at) = ⊎_elim (λ (h : Has xs a). inl (suc h.0, h.1)) (λ (h : Has ys a). inr h)
    (has-either xs ys a (i, at))

pub has-left : {A : Type 0} (xs ys : List A) (a : A) → Has xs a → Has (xs ++ ys) a
has-left xs ys a has = (has.0, at_longer xs ys has.0 a has.1)

pub has-right : {A : Type 0} (xs ys : List A) (a : A) → Has ys a → Has (xs ++ ys) a
has-right xs ys a has = (length xs + has.0, at-behind xs ys has.0 a has.1)

-- the one element of a list
pub only : {A : Type 0} (x a : A) → Has (x ∷ []) a → x ≡ a
only x a (zero, at) = some-injective x a at
only x a (suc i, at) = absurd (some-ne-none a (sym at))

pub has-none : {A : Type 0} (a : A) → Has {A = A} [] a → ⊥
has-none a has = some-ne-none a (sym has.1)

at-either : {A : Type 0} (xs ys : List A) (i : ℕ) (a : A) → get_elem? (xs ++ ys) i ≡ some a
    → (get_elem? xs i ≡ some a) ⊎ ((j : ℕ) × (i ≡ length xs + j) × (get_elem? ys j ≡ some a))
at-either {A} [] ys i a at = inr (i, (let same : i ≡ length {A = A} [] + i = omega arith in same), at)
at-either (x ∷ xs) ys zero a at = inl at
at-either (x ∷ xs) ys (suc i) a at = ⊎_elim (λ (h : get_elem? xs i ≡ some a). inl h)
    (λ (h : (j : ℕ) × (i ≡ length xs + j) × (get_elem? ys j ≡ some a)). inr (
      h.0,
      (let is = h.1 in let same : suc i ≡ length (x ∷ xs) + h.0 = omega arith in same),
      h.2,
    ))
    (at-either xs ys i a at)

module _ {L : Type 0} where
  pub distinct-none : AreDistinct {L = L} []
  distinct-none i j k s t at-i at-j of-s of-t = absurd (some-ne-none s (sym at-i))

  pub distinct-one : (s : Service L) → AreDistinct (s ∷ [])
  distinct-one s zero zero k t u a b p q = refl
  distinct-one s zero (suc j) k t u a b p q = absurd (some-ne-none u (sym b))
  distinct-one s (suc i) j k t u a b p q = absurd (some-ne-none t (sym a))

  pub distinct-append : (ss ts : List (Service L)) → AreDistinct ss → AreDistinct ts
      → ((s t : Service L) (k : ℕ) → Has ss s → Has ts t → IsOfConn k s → IsOfConn k t → ⊥) → AreDistinct (ss ++ ts)
  distinct-append ss ts left right apart i j k s t at-i at-j of-s of-t = ⊎_elim
      (λ (a : get_elem? ss i ≡ some s). ⊎_elim
      (λ (b : get_elem? ss j ≡ some t). left i j k s t a b of-s of-t)
      (λ (b : (n : ℕ) × (j ≡ length ss + n) × (get_elem? ts n ≡ some t)).
      absurd (apart s t k (i, a) (b.0, b.2) of-s of-t))
      (at-either ss ts j t at-j))
      (λ (a : (n : ℕ) × (i ≡ length ss + n) × (get_elem? ts n ≡ some s)). ⊎_elim
      (λ (b : get_elem? ss j ≡ some t). absurd (apart t s k (j, b) (a.0, a.2) of-t of-s))
      (λ (b : (n : ℕ) × (j ≡ length ss + n) × (get_elem? ts n ≡ some t)).
      let n = right a.0 b.0 k s t a.2 b.2 of-s of-t in let p = a.1 in let q = b.1 in omega arith)
      (at-either ss ts j t at-j))
      (at-either ss ts i s at-i)
