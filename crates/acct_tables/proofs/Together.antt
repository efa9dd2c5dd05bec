-- Rows of which a number doesn't fall: those with one number stand together
use Rattle.std.proofs.Common.{◌≡◌, ℕ, suc, zero, ◌+◌, ◌-◌, ◌<◌, ◌≤◌, ◌==◌, leb, ltb, nat_lt, true, false, cond}
use Rattle.std.proofs.Common.{List, [], ◌∷◌, length, get_or, take, drop, refl, sym, ap, ◌∙◌, inl, inr, arith}
use Rattle.std.specs.List.{filter}
use Rattle.std.specs.List.Sorted.{IsPartitionPoint, IsNonDecreasingBy}
use Rattle.std.specs.Cmp.{nat_cmp_is}
use Rattle.std.specs.Ordering.{nat_cmp, ordering_then}
use Rattle.std.specs.declared.cmp.Ordering.TheVariants.{Less, Greater}
use Rattle.std.proofs.lemmas.Bool.Decides.{nat_tests}
use Rattle.acct_tables.specs.KeyedRows.{compare, is_ascending}
use Rattle.acct_tables.specs.Keys.{member_key}
use Rattle.acct_tables.specs.declared.row.MemberRow.{MemberRow}
use Rattle.acct_tables.proofs.Halving.{rises}
use Rattle.acct_tables.proofs.Orders.{tested}

-- where the numbers below n end, and where those up to n end
abbrev pub IsBelow : {A : Type 0} → (A → ℕ) → ℕ → List A → ℕ → Type 0
IsBelow f n xs i = IsPartitionPoint (λ y. ltb (f y) n ≡ true) (λ y. ltb (f y) n ≡ false) xs i

abbrev pub IsUpTo : {A : Type 0} → (A → ℕ) → ℕ → List A → ℕ → Type 0
IsUpTo f n xs j = IsPartitionPoint (λ y. leb (f y) n ≡ true) (λ y. leb (f y) n ≡ false) xs j

module _ {A : Type 0} (f : A → ℕ) (n : ℕ) where
  -- rows below the number, rows with it, and rows above it
  parted : (xs : List A) (i m : ℕ) → i + m ≤ length xs
      → ((k : ℕ) (d : A) → k < i → f (get_or xs k d) < n)
      → ((k : ℕ) (d : A) → i ≤ k → k < i + m → f (get_or xs k d) ≡ n)
      → ((k : ℕ) (d : A) → i + m ≤ k → k < length xs → n < f (get_or xs k d))
      → take m (drop i xs) ≡ filter (λ x. f x == n) xs
  parted [] i m fits low mid high =
      let first : i ≡ 0 = omega arith in
      let none : m ≡ 0 = omega arith in
      rw (first, none) refl
  parted (x ∷ xs) (suc i) m fits low mid high =
      let under : f x < n = low 0 x (omega arith) in
      let other : (f x == n) ≡ false = grind (arith, nat_tests) in
      parted xs i m (omega arith) (λ k d lt. low (suc k) d (omega arith))
      (λ k d ge lt. mid (suc k) d (omega arith) (omega arith)) (λ k d ge lt. high (suc k) d (omega arith) (omega arith))
      ∙ ap (λ b. cond b (x ∷ filter (λ y. f y == n) xs) (filter (λ y. f y == n) xs)) (sym other)
  parted (x ∷ xs) zero (suc m) fits low mid high =
      let same : f x ≡ n = mid 0 x (omega arith) (omega arith) in
      let here : (f x == n) ≡ true = grind (arith, nat_tests) in
      ap (λ ys. x ∷ ys) (parted xs zero m (omega arith) (λ k d lt. absurd (omega arith))
      (λ k d ge lt. mid (suc k) d (omega arith) (omega arith))
      (λ k d ge lt. high (suc k) d (omega arith) (omega arith)))
      ∙ ap (λ b. cond b (x ∷ filter (λ y. f y == n) xs) (filter (λ y. f y == n) xs)) (sym here)
  parted (x ∷ xs) zero zero fits low mid high =
      let over : n < f x = high 0 x (omega arith) (omega arith) in
      let other : (f x == n) ≡ false = grind (arith, nat_tests) in
      parted xs zero zero (omega arith) (λ k d lt. absurd (omega arith))
      (λ k d ge lt. absurd (omega arith)) (λ k d ge lt. high (suc k) d (omega arith) (omega arith))
      ∙ ap (λ b. cond b (x ∷ filter (λ y. f y == n) xs) (filter (λ y. f y == n) xs)) (sym other)

  pub in_order : (xs : List A) (i j : ℕ) → i ≤ length xs → IsBelow f n xs i → IsUpTo f n xs j → i ≤ j
  in_order [] i j fits low high = omega arith
  in_order (d ∷ ds) i j fits low high =
      elim (tested (nat_lt j i)) [
        | inl t ↦ absurd (
            let under = low.0 j d (omega arith) (grind (arith, nat_tests)) in
            let over = high.1 j d (omega arith) (grind (arith, nat_tests)) in
            grind (arith, nat_tests))
        | inr t ↦ grind (arith, nat_tests)
      ]

  pub together : (xs : List A) (i j : ℕ) → i ≤ length xs → j ≤ length xs → IsBelow f n xs i → IsUpTo f n xs j
      → take (j - i) (drop i xs) ≡ filter (λ x. f x == n) xs
  together xs i j starts ends low high =
      let le : i ≤ j = in_order xs i j starts low high in
      parted xs i (j - i) (omega arith)
      (λ k d lt. let under = low.0 k d (omega arith) lt in grind (arith, nat_tests))
      (λ k d ge lt.
      let over = low.1 k d ge (omega arith) in
      let under = high.0 k d (omega arith) (omega arith) in
      grind (arith, nat_tests))
      (λ k d ge lt. let over = high.1 k d (omega arith) lt in grind (arith, nat_tests))

pub group_le : (a b : MemberRow) → compare (member_key a) (member_key b) ≡ Less → a.group ≤ b.group
group_le a b lt =
    elim (tested (nat_lt b.group a.group)) [
      | inl t ↦ absurd (
          let lower : b.group < a.group = grind (arith, nat_tests) in
          let greater : nat_cmp a.group b.group ≡ Greater = sym (nat_cmp_is a.group b.group Greater lower) in
          let is : compare (member_key a) (member_key b) ≡ Greater =
          ap (λ r. ordering_then r (compare (a.user ∷ []) (b.user ∷ []))) greater in
          cc (lt, is))
      | inr t ↦ grind (arith, nat_tests)
    ]

-- the groups of member rows don't fall
abbrev pub group : MemberRow → ℕ
group m = m.group

pub groups_rise : (xs : List MemberRow) → is_ascending member_key xs ≡ true → IsNonDecreasingBy group xs
groups_rise = rises member_key group group_le
