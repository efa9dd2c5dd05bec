-- Privileges that are added or taken away: they stay ascending and known, and each of them is held or isn't.
use Rattle.std.proofs.Common.{◌≡◌, ℕ, ◌<◌, ◌≤◌, ◌==◌, nat_lt, Bool, true, false, ◌&&◌, ◌||◌, cond, All}
use Rattle.std.proofs.Common.{List, [], ◌∷◌, Option, Some, None, is_some, refl, ap, ◌∙◌, arith}
use Rattle.std.specs.Cmp.{first_so, second_so}
use Rattle.std.specs.List.{filter}
use Rattle.std.proofs.lemmas.Bool.Decides.{nat_tests}
use Rattle.std.proofs.lemmas.List.Elements.{All-cons, All-head, All-tail}
use Rattle.acct_tables.specs.Good.{are_above, IsKnown}
use Rattle.lsad_rights.specs.Holdings.{with_held, held_at}
use Rattle.lsad_rights.specs.Rights.{has_privilege}
use Rattle.acct_tables.specs.declared.row.Held.{Held}

below : (m n : ℕ) → m < n → nat_lt m n ≡ true
below m n lt = grind (arith, nat_tests)

both : (a b : Bool) → a ≡ true → b ≡ true → (a && b) ≡ true
both a b p q = rw (p, q) refl

-- ---- they stay ascending

pub lower : (low m : ℕ) (xs : List Held) → low ≤ m → are_above m xs ≡ true → are_above low xs ≡ true
lower low m [] le above = refl
lower low m (x ∷ xs) le above =
    let first : nat_lt m x.low ≡ true = first_so (nat_lt m x.low) (are_above x.low xs) above in
    both (nat_lt low x.low) (are_above x.low xs) (grind (arith, nat_tests))
    (second_so (nat_lt m x.low) (are_above x.low xs) above)

pub with-ascends : (low : ℕ) (p : Held) (xs : List Held) → low < p.low → are_above low xs ≡ true
    → are_above low (with_held p xs) ≡ true
with-ascends low p [] lt above = both (nat_lt low p.low) true (below low p.low lt) refl
with-ascends low p (x ∷ xs) lt above =
    let first : nat_lt low x.low ≡ true = first_so (nat_lt low x.low) (are_above x.low xs) above in
    let rest : are_above x.low xs ≡ true = second_so (nat_lt low x.low) (are_above x.low xs) above in
    let deeper = with-ascends x.low p xs in
    elim (nat_lt x.low p.low) as
    (λ b. nat_lt x.low p.low ≡ b
    → are_above low (cond b (x ∷ with_held p xs) (cond (x.low == p.low) (p ∷ xs) (p ∷ x ∷ xs))) ≡ true) [
      | true ↦ λ is. both (nat_lt low x.low) (are_above x.low (with_held p xs)) first
          (deeper (grind (arith, nat_tests)) rest)
      | false ↦ λ is. elim (x.low == p.low) as
          (λ e. (x.low == p.low) ≡ e → are_above low (cond e (p ∷ xs) (p ∷ x ∷ xs)) ≡ true) [
            | true ↦ λ same. both (nat_lt low p.low) (are_above p.low xs) (below low p.low lt)
                (lower p.low x.low xs (grind (arith, nat_tests)) rest)
            | false ↦ λ other. both (nat_lt low p.low) (nat_lt p.low x.low && are_above x.low xs) (below low p.low lt)
                (both (nat_lt p.low x.low) (are_above x.low xs) (grind (arith, nat_tests)) rest)
          ] refl
    ] refl

pub filter-ascends : (low : ℕ) (q : Held → Bool) (xs : List Held) → are_above low xs ≡ true
    → are_above low (filter q xs) ≡ true
filter-ascends low q [] above = refl
filter-ascends low q (x ∷ xs) above =
    let first : nat_lt low x.low ≡ true = first_so (nat_lt low x.low) (are_above x.low xs) above in
    let rest : are_above x.low xs ≡ true = second_so (nat_lt low x.low) (are_above x.low xs) above in
    let kept : are_above x.low (filter q xs) ≡ true = filter-ascends x.low q xs rest in
    elim (q x) as (λ b. are_above low (cond b (x ∷ filter q xs) (filter q xs)) ≡ true) [
      | true ↦ both (nat_lt low x.low) (are_above x.low (filter q xs)) first kept
      | false ↦ lower low x.low (filter q xs) (grind (arith, nat_tests)) kept
    ]

-- ---- they stay known

pub with-known : (p : Held) (xs : List Held) → IsKnown p → All IsKnown xs → All IsKnown (with_held p xs)
with-known p [] good all = All-cons IsKnown p [] good all
with-known p (x ∷ xs) good all =
    let rest : All IsKnown xs = All-tail IsKnown x xs all in
    let deeper : All IsKnown (with_held p xs) = with-known p xs good rest in
    elim (nat_lt x.low p.low) as
    (λ b. All IsKnown (cond b (x ∷ with_held p xs) (cond (x.low == p.low) (p ∷ xs) (p ∷ x ∷ xs)))) [
      | true ↦ All-cons IsKnown x (with_held p xs) (All-head IsKnown x xs all) deeper
      | false ↦ elim (x.low == p.low) as (λ e. All IsKnown (cond e (p ∷ xs) (p ∷ x ∷ xs))) [
        | true ↦ All-cons IsKnown p xs good rest
        | false ↦ All-cons IsKnown p (x ∷ xs) good all
      ]
    ]

-- ---- what is held

-- the privilege of a LUID, once one was put
pub held-with : (low : ℕ) (p : Held) (xs : List Held)
    → held_at low (with_held p xs) ≡ cond (p.low == low) (Some p) (held_at low xs)
held-with low p [] = refl
held-with low p (x ∷ xs) =
    let deeper = held-with low p xs in
    elim (nat_lt x.low p.low) as
    (λ b. nat_lt x.low p.low ≡ b
    → held_at low (cond b (x ∷ with_held p xs) (cond (x.low == p.low) (p ∷ xs) (p ∷ x ∷ xs)))
    ≡ cond (p.low == low) (Some p) (cond (x.low == low) (Some x) (held_at low xs))) [
      | true ↦ λ is. ap (λ o. cond (x.low == low) (Some x) o) deeper
          ∙ swapped (x.low == low) (p.low == low) x p (held_at low xs) (grind (arith, nat_tests))
      | false ↦ λ is. elim (x.low == p.low) as
          (λ e. (x.low == p.low) ≡ e → held_at low (cond e (p ∷ xs) (p ∷ x ∷ xs))
          ≡ cond (p.low == low) (Some p) (cond (x.low == low) (Some x) (held_at low xs))) [
            | true ↦ λ same. covered (x.low == low) (p.low == low) x p (held_at low xs) (grind (arith, nat_tests))
            | false ↦ λ other. refl
          ] refl
    ] refl
  where
    swapped : (a b : Bool) (x p : Held) (o : Option Held) → (a && b) ≡ false
        → cond a (Some x) (cond b (Some p) o) ≡ cond b (Some p) (cond a (Some x) o)
    swapped true true x p o apart = cc
    swapped true false x p o apart = refl
    swapped false b x p o apart = refl

    covered : (a b : Bool) (x p : Held) (o : Option Held) → a ≡ b
        → cond b (Some p) o ≡ cond b (Some p) (cond a (Some x) o)
    covered a true x p o same = refl
    covered true false x p o same = cc
    covered false false x p o same = refl

-- a privilege is held where one of its LUID is found
pub has-held : (low : ℕ) (xs : List Held) → has_privilege low xs ≡ is_some (held_at low xs)
has-held low [] = refl
has-held low (x ∷ xs) =
    let rest = has-held low xs in
    elim (x.low == low) as (λ b. (b || has_privilege low xs) ≡ is_some (cond b (Some x) (held_at low xs))) [
      | true ↦ refl
      | false ↦ rest
    ]

-- what is left of it, where some are taken away
pub held-without : (low : ℕ) (q : Held → Bool) (xs : List Held) → ((x : Held) → (x.low == low) ≡ true → q x ≡ false)
    → held_at low (filter q xs) ≡ None
held-without low q [] gone = refl
held-without low q (x ∷ xs) gone =
    let rest = held-without low q xs gone in
    elim (q x) as (λ b. q x ≡ b → held_at low (cond b (x ∷ filter q xs) (filter q xs)) ≡ None) [
      | true ↦ λ is. elim (x.low == low) as
          (λ e. (x.low == low) ≡ e → cond e (Some x) (held_at low (filter q xs)) ≡ None) [
            | true ↦ λ e. cc (gone x e, is)
            | false ↦ λ e. rest
          ] refl
      | false ↦ λ is. rest
    ] refl

pub held-left : (low : ℕ) (q : Held → Bool) (xs : List Held) → ((x : Held) → (x.low == low) ≡ true → q x ≡ true)
    → held_at low (filter q xs) ≡ held_at low xs
held-left low q [] left = refl
held-left low q (x ∷ xs) left =
    let rest = held-left low q xs left in
    elim (q x) as (λ b. q x ≡ b → held_at low (cond b (x ∷ filter q xs) (filter q xs)) ≡ held_at low (x ∷ xs)) [
      | true ↦ λ is. ap (λ o. cond (x.low == low) (Some x) o) rest
      | false ↦ λ is. rest ∙ elim (x.low == low) as
          (λ e. (x.low == low) ≡ e → held_at low xs ≡ cond e (Some x) (held_at low xs)) [
            | true ↦ λ e. cc (left x e, is)
            | false ↦ λ e. refl
          ] refl
    ] refl
