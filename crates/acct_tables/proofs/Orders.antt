-- The order of keys, and of their first numbers.
use Rattle.std.proofs.Common.{◌≡◌, ◌≢◌, ℕ, suc, zero, Bool, true, false, ◌&&◌, [], ◌∷◌, take, refl, sym, ap}
use Rattle.std.proofs.Common.{subst, ◌∙◌, inl, inr, ◌⊎◌}
use Rattle.std.specs.declared.cmp.Ordering.{Ordering}
use Rattle.std.specs.declared.cmp.Ordering.TheVariants.{Less, Equal, Greater}
use Rattle.std.specs.Ordering.{nat_cmp, is_eq, is_lt, is_le, ordering_then, ordering_reverse}
use Rattle.std.specs.Cmp.{IsTotalOrder, tied_itself}
use Rattle.std.specs.Cmp.Lexicographic.{nat_list_cmp_total}
use Rattle.std.specs.FinMap.{slice_cmp-IsAntisymmetric, nat_cmp-IsAntisymmetric}
use Rattle.acct_tables.specs.Keyed.{Key, compare, same_key}

pub total : IsTotalOrder compare
total = nat_list_cmp_total

-- a test that holds, or doesn't
pub tested : (b : Bool) → (b ≡ true) ⊎ (b ≡ false)
tested true = inl refl
tested false = inr refl

pub both : {a b : Bool} → a ≡ true → b ≡ true → (a && b) ≡ true
both {a} {b} p q = rw (p, q) refl

equal : (r : Ordering) → is_eq r ≡ true → r ≡ Equal
equal Less p = cc
equal Equal p = refl
equal Greater p = cc

pub less : (r : Ordering) → is_lt r ≡ true → r ≡ Less
less Less p = refl
less Equal p = cc
less Greater p = cc

pub tied-is : (j k : Key) → compare j k ≡ Equal → j ≡ k
tied-is j k e = slice_cmp-IsAntisymmetric nat_cmp-IsAntisymmetric j k e

-- keys that compare as equal are one
pub same_key-is : (j k : Key) → same_key j k ≡ true → j ≡ k
same_key-is j k e = tied-is j k (equal _ e)

pub tied : (k : Key) → compare k k ≡ Equal
tied k = tied_itself total k

pub same_key-itself : (k : Key) → same_key k k ≡ true
same_key-itself k = ap is_eq (tied k)

pub apart : (j k : Key) → j ≡ k → compare j k ≢ Greater
apart j k e p = subst (λ (i : Key). compare i k ≡ Greater → ⊥) (sym e) (λ g. cc (tied k, g)) p

pub turned : (j k : Key) (r : Ordering) → compare j k ≡ r → compare k j ≡ ordering_reverse r
turned j k r e = total.antisymm k j ∙ ap ordering_reverse e

-- ---- not above

-- what is below a key that isn't above another isn't above it either
pub lt_then_le : (j k q : Key) → compare j k ≡ Less → is_le (compare k q) ≡ true → is_lt (compare j q) ≡ true
lt_then_le j k q lt e =
    elim (compare k q) as (λ r. compare k q ≡ r → is_le r ≡ true → is_lt (compare j q) ≡ true) [
      | Less ↦ λ is t. ap is_lt (total.trans j k q lt is)
      | Equal ↦ λ is t. ap is_lt (ap (compare j) (sym (tied-is k q is)) ∙ lt)
      | Greater ↦ λ is t. cc
    ] refl e

lt_is_le : (r : Ordering) → is_lt r ≡ true → is_le r ≡ true
lt_is_le Less e = refl
lt_is_le Equal e = cc
lt_is_le Greater e = cc

pub le_then_le : (j k q : Key) → is_le (compare j k) ≡ true → is_le (compare k q) ≡ true → is_le (compare j q) ≡ true
le_then_le j k q le e =
    elim (compare j k) as (λ r. compare j k ≡ r → is_le r ≡ true → is_le (compare j q) ≡ true) [
      | Less ↦ λ is t. lt_is_le (compare j q) (lt_then_le j k q is e)
      | Equal ↦ λ is t. ap (λ i. is_le (compare i q)) (tied-is j k is) ∙ e
      | Greater ↦ λ is t. cc
    ] refl le

pub le_then_lt : (j k q : Key) → is_le (compare j k) ≡ true → is_lt (compare k q) ≡ true → is_lt (compare j q) ≡ true
le_then_lt j k q le e =
    elim (compare j k) as (λ r. compare j k ≡ r → is_le r ≡ true → is_lt (compare j q) ≡ true) [
      | Less ↦ λ is t. lt_then_le j k q is (lt_is_le (compare k q) e)
      | Equal ↦ λ is t. ap (λ i. is_lt (compare i q)) (tied-is j k is) ∙ e
      | Greater ↦ λ is t. cc
    ] refl le

-- the first numbers of keys that rise don't fall
pub fronts : (n : ℕ) (j k : Key) → compare j k ≡ Less → is_le (compare (take n j) (take n k)) ≡ true
fronts zero j k lt = refl
fronts (suc n) [] [] lt = cc
fronts (suc n) [] (b ∷ k) lt = refl
fronts (suc n) (a ∷ j) [] lt = cc
fronts (suc n) (a ∷ j) (b ∷ k) lt =
    elim (nat_cmp a b) as
    (λ r. ordering_then r (compare j k) ≡ Less → is_le (ordering_then r (compare (take n j) (take n k))) ≡ true) [
      | Less ↦ λ e. refl
      | Equal ↦ λ e. fronts n j k e
      | Greater ↦ λ e. cc
    ] lt
