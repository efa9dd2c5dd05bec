-- A privilege that is put where the first privileges are below it stands in its place.
use Rattle.std.proofs.Common.{◌≡◌, ◌≢◌, ℕ, suc, ◌+◌, ◌<◌, ◌≤◌, ◌==◌, nat_lt, true, false, cond, List, [], ◌∷◌, length}
use Rattle.std.proofs.Common.{get_or}
use Rattle.std.proofs.Common.{set, insert, refl, sym, ap, subst, ◌∙◌, arith}
use Rattle.std.specs.List.{prefix_len}
use Rattle.std.proofs.lemmas.Bool.Decides.{nat_tests}
use Rattle.lsad_rights.specs.Holdings.{is_below, with_held}
use Rattle.acct_tables.specs.declared.row.Held.{Held}

equals : (m n : ℕ) → m ≡ n → (m == n) ≡ true
equals m n e = grind (arith, nat_tests)

differs : (m n : ℕ) → m ≢ n → (m == n) ≡ false
differs m n e = grind (arith, nat_tests)

one-more : (j : ℕ) → 1 + j ≡ suc j
one-more j = omega arith

pub put-same : (p : Held) (xs : List Held) (d : Held) → prefix_len (is_below p.low) xs < length xs
    → (get_or xs (prefix_len (is_below p.low) xs) d).low ≡ p.low
    → set xs (prefix_len (is_below p.low) xs) p ≡ with_held p xs
put-same p [] d = λ lt same. let none : ⊥ = omega arith in absurd none
put-same p (x ∷ xs) d =
    let j = prefix_len (is_below p.low) xs in
    let rest = put-same p xs d in
    rw (one-more j) (elim (nat_lt x.low p.low) as
    (λ b. cond b (suc j) 0 < length (x ∷ xs) → (get_or (x ∷ xs) (cond b (suc j) 0) d).low ≡ p.low
    → set (x ∷ xs) (cond b (suc j) 0) p
    ≡ cond b (x ∷ with_held p xs) (cond (x.low == p.low) (p ∷ xs) (p ∷ x ∷ xs))) [
      | true ↦ λ lt same. ap (λ ys. x ∷ ys) (rest (omega arith) same)
      | false ↦ λ lt same. rw (equals x.low p.low same) refl
    ])

pub put-new : (p : Held) (xs : List Held) (d : Held)
    → (prefix_len (is_below p.low) xs < length xs → (get_or xs (prefix_len (is_below p.low) xs) d).low ≢ p.low)
    → insert xs (prefix_len (is_below p.low) xs) p ≡ with_held p xs
put-new p [] d = λ other. refl
put-new p (x ∷ xs) d =
    let j = prefix_len (is_below p.low) xs in
    let rest = put-new p xs d in
    rw (one-more j) (elim (nat_lt x.low p.low) as
    (λ b. (cond b (suc j) 0 < length (x ∷ xs) → (get_or (x ∷ xs) (cond b (suc j) 0) d).low ≢ p.low)
    → insert (x ∷ xs) (cond b (suc j) 0) p
    ≡ cond b (x ∷ with_held p xs) (cond (x.low == p.low) (p ∷ xs) (p ∷ x ∷ xs))) [
      | true ↦ λ other. ap (λ ys. x ∷ ys) (rest (λ lt. other (omega arith)))
      | false ↦ λ other. rw (differs x.low p.low (other (omega arith))) refl
    ])

-- where a search found the place
at-place : (p : Held) (xs ys : List Held) (j : ℕ) → j ≡ prefix_len (is_below p.low) ys → ys ≡ xs
    → prefix_len (is_below p.low) xs ≡ j
at-place p xs ys j place is = ap (prefix_len (is_below p.low)) (sym is) ∙ sym place

pub put-here : (p x : Held) (xs ys : List Held) (j : ℕ) → j ≡ prefix_len (is_below p.low) ys → ys ≡ xs
    → j < length xs → x ≡ get_or xs j x → x.low ≡ p.low → set xs j p ≡ with_held p xs
put-here p x xs ys j place is lt there same =
    subst (λ k. k < length xs → (get_or xs k x).low ≡ p.low → set xs k p ≡ with_held p xs) (at-place p xs ys j place is)
    (put-same p xs x) lt (ap (λ (y : Held). y.low) (sym there) ∙ same)

pub put-apart : (p x : Held) (xs ys : List Held) (j : ℕ) → j ≡ prefix_len (is_below p.low) ys → ys ≡ xs
    → x ≡ get_or xs j x → x.low ≢ p.low → insert xs j p ≡ with_held p xs
put-apart p x xs ys j place is there other =
    subst (λ k. (k < length xs → (get_or xs k x).low ≢ p.low) → insert xs k p ≡ with_held p xs)
    (at-place p xs ys j place is) (put-new p xs x)
    (λ lt same. other (ap (λ (y : Held). y.low) there ∙ same))

pub put-last : (p : Held) (xs ys : List Held) (j : ℕ) → j ≡ prefix_len (is_below p.low) ys → ys ≡ xs
    → length xs ≤ j → insert xs j p ≡ with_held p xs
put-last p xs ys j place is most =
    subst (λ k. (k < length xs → (get_or xs k p).low ≢ p.low) → insert xs k p ≡ with_held p xs)
    (at-place p xs ys j place is) (put-new p xs p) (λ lt. absurd-lt j (length xs) lt most)
  where
    absurd-lt : (j n : ℕ) → j < n → n ≤ j → (get_or xs j p).low ≢ p.low
    absurd-lt j n lt le = omega arith
