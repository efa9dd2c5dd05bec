-- The values within a prefix stand together.
use Rattle.std.proofs.Common.{◌≡◌, ℕ, suc, zero, ◌+◌, ◌-◌, ◌<◌, ◌≤◌, nat_lt, Bool, true, false, ◌&&◌, cond, not}
use Rattle.std.proofs.Common.{List, [], ◌∷◌, ◌++◌, length, get_or, take, drop, refl, sym, ap, ◌∙◌, inl, inr, arith}
use Rattle.std.proofs.Common.{Option, Some, None}
use Rattle.std.proofs.Common.{length-drop}
use Rattle.std.proofs.Math.Seq.{take-length}
use Rattle.std.proofs.lemmas.List.Edits.{take-paste}
use lib.Seq.{paste}
use Rattle.std.specs.List.{filter, find}
use Rattle.std.specs.List.Sorted.{IsPartitionedBy}
use Rattle.std.specs.Cmp.{first_so, second_so}
use Rattle.std.specs.Ordering.{is_lt, is_le, is_eq}
use Rattle.std.specs.declared.cmp.Ordering.{Ordering}
use Rattle.std.specs.declared.cmp.Ordering.TheVariants.{Less, Equal, Greater}
use Rattle.std.proofs.lemmas.Bool.Decides.{nat_tests}
use Rattle.acct_tables.specs.Keyed.{Key, compare, compare_front, is_within, below_all, is_ascending}
use Rattle.acct_tables.specs.steps.Turns.{TurnsAt}
use Rattle.acct_tables.proofs.Orders.{tested, less, fronts, le_then_le, le_then_lt}
use Rattle.acct_tables.proofs.Ascending.{below_at}

-- a test that passes a value passes those with lower keys
module _ {A : Type 0} (key : A → Key) (p : A → Bool)
    (down : (x y : A) → compare (key x) (key y) ≡ Less → p y ≡ true → p x ≡ true) where
  pub turns : (xs : List A) → is_ascending key xs ≡ true → IsPartitionedBy p xs
  turns [] h i j d le lt e = absurd (omega arith)
  turns (x ∷ xs) h zero zero d le lt e = e
  turns (x ∷ xs) h zero (suc j) d le lt e =
      down x (get_or xs j d) (below_at key (key x) xs j d (first_so _ _ h) (omega arith)) e
  turns (x ∷ xs) h (suc i) zero d le lt e = absurd (omega arith)
  turns (x ∷ xs) h (suc i) (suc j) d le lt e = turns xs (second_so _ _ h) i j d (omega arith) (omega arith) e

pub alike : {A : Type 0} (p q : A → Bool) → ((x : A) → p x ≡ q x) → (xs : List A) → filter p xs ≡ filter q xs
alike p q same [] = refl
alike p q same (x ∷ xs) =
    ap (λ b. cond b (x ∷ filter p xs) (filter p xs)) (same x)
    ∙ ap (λ ys. cond (q x) (x ∷ ys) ys) (alike p q same xs)

and_false : (a b : Bool) → b ≡ false → (a && b) ≡ false
and_false true b e = e
and_false false b e = refl

-- values that aren't below, and not above
module _ {A : Type 0} (below upto : A → Bool) where
  abbrev pub between : A → Bool
  between x = not (below x) && upto x

  abbrev others : List A → List A
  others xs = filter (λ x. not (between x)) xs

  parted : (xs : List A) (i m : ℕ) → i + m ≤ length xs
      → ((k : ℕ) (d : A) → k < i → below (get_or xs k d) ≡ true)
      → ((k : ℕ) (d : A) → i ≤ k → k < i + m → between (get_or xs k d) ≡ true)
      → ((k : ℕ) (d : A) → i + m ≤ k → k < length xs → upto (get_or xs k d) ≡ false)
      → take m (drop i xs) ≡ filter between xs
  parted [] i m fits low mid high =
      let first : i ≡ 0 = omega arith in
      let none : m ≡ 0 = omega arith in
      rw (first, none) refl
  parted (x ∷ xs) (suc i) m fits low mid high =
      let other : between x ≡ false = ap (λ b. not b && upto x) (low 0 x (omega arith)) in
      parted xs i m (omega arith) (λ k d lt. low (suc k) d (omega arith))
      (λ k d ge lt. mid (suc k) d (omega arith) (omega arith)) (λ k d ge lt. high (suc k) d (omega arith) (omega arith))
      ∙ ap (λ b. cond b (x ∷ filter between xs) (filter between xs)) (sym other)
  parted (x ∷ xs) zero (suc m) fits low mid high =
      let here : between x ≡ true = mid 0 x (omega arith) (omega arith) in
      ap (λ ys. x ∷ ys) (parted xs zero m (omega arith) (λ k d lt. absurd (omega arith))
      (λ k d ge lt. mid (suc k) d (omega arith) (omega arith))
      (λ k d ge lt. high (suc k) d (omega arith) (omega arith)))
      ∙ ap (λ b. cond b (x ∷ filter between xs) (filter between xs)) (sym here)
  parted (x ∷ xs) zero zero fits low mid high =
      let other : between x ≡ false = and_false (not (below x)) (upto x) (high 0 x (omega arith) (omega arith)) in
      parted xs zero zero (omega arith) (λ k d lt. absurd (omega arith))
      (λ k d ge lt. absurd (omega arith)) (λ k d ge lt. high (suc k) d (omega arith) (omega arith))
      ∙ ap (λ b. cond b (x ∷ filter between xs) (filter between xs)) (sym other)

  pub in_order : ((x : A) → below x ≡ true → upto x ≡ true) → (xs : List A) (i j : ℕ) → i ≤ length xs
      → TurnsAt below xs i → TurnsAt upto xs j → i ≤ j
  in_order inner [] i j starts low high = omega arith
  in_order inner (d ∷ ds) i j starts low high =
      elim (tested (nat_lt j i)) [
        | inl t ↦ absurd (
            let lt : j < i = grind (arith, nat_tests) in
            let up : upto (get_or (d ∷ ds) j d) ≡ true = inner (get_or (d ∷ ds) j d) (low.0 j d (omega arith) lt) in
            let over : upto (get_or (d ∷ ds) j d) ≡ false = high.1 j d (omega arith) (omega arith) in
            cc (up, over))
        | inr t ↦ grind (arith, nat_tests)
      ]

  pub together : (p : A → Bool) → ((x : A) → between x ≡ p x) → ((x : A) → below x ≡ true → upto x ≡ true)
      → (xs : List A) (i j : ℕ) → i ≤ length xs → j ≤ length xs → TurnsAt below xs i → TurnsAt upto xs j
      → take (j - i) (drop i xs) ≡ filter p xs
  together p same inner xs i j starts ends low high =
      let le : i ≤ j = in_order inner xs i j starts low high in
      parted xs i (j - i) (omega arith) (λ k d lt. low.0 k d (omega arith) lt)
      (λ k d ge lt.
      let over : below (get_or xs k d) ≡ false = low.1 k d ge (omega arith) in
      let under : upto (get_or xs k d) ≡ true = high.0 k d (omega arith) (omega arith) in
      ap (λ b. not b && upto (get_or xs k d)) over ∙ under)
      (λ k d ge lt. high.1 k d (omega arith) lt)
      ∙ alike between p same xs

  -- the others
  outside_parted : (xs : List A) (i m : ℕ) → i + m ≤ length xs
      → ((k : ℕ) (d : A) → k < i → below (get_or xs k d) ≡ true)
      → ((k : ℕ) (d : A) → i ≤ k → k < i + m → between (get_or xs k d) ≡ true)
      → ((k : ℕ) (d : A) → i + m ≤ k → k < length xs → upto (get_or xs k d) ≡ false)
      → take i xs ++ drop (i + m) xs ≡ filter (λ x. not (between x)) xs
  outside_parted [] i m fits low mid high =
      let first : i ≡ 0 = omega arith in
      let none : m ≡ 0 = omega arith in
      rw (first, none) refl
  outside_parted (x ∷ xs) (suc i) m fits low mid high =
      let other : between x ≡ false = ap (λ b. not b && upto x) (low 0 x (omega arith)) in
      let next : suc i + m ≡ suc (i + m) = omega arith in
      ap (λ n. x ∷ (take i xs ++ drop n (x ∷ xs))) next
      ∙ ap (λ ys. x ∷ ys) (outside_parted xs i m (omega arith) (λ k d lt. low (suc k) d (omega arith))
      (λ k d ge lt. mid (suc k) d (omega arith) (omega arith))
      (λ k d ge lt. high (suc k) d (omega arith) (omega arith)))
      ∙ ap (λ b. cond (not b) (x ∷ others xs) (others xs)) (sym other)
  outside_parted (x ∷ xs) zero (suc m) fits low mid high =
      let here : between x ≡ true = mid 0 x (omega arith) (omega arith) in
      let next : zero + suc m ≡ suc (zero + m) = omega arith in
      ap (λ n. drop n (x ∷ xs)) next
      ∙ outside_parted xs zero m (omega arith) (λ k d lt. absurd (omega arith))
      (λ k d ge lt. mid (suc k) d (omega arith) (omega arith))
      (λ k d ge lt. high (suc k) d (omega arith) (omega arith))
      ∙ ap (λ b. cond (not b) (x ∷ others xs) (others xs)) (sym here)
  outside_parted (x ∷ xs) zero zero fits low mid high =
      let other : between x ≡ false = and_false (not (below x)) (upto x) (high 0 x (omega arith) (omega arith)) in
      ap (λ ys. x ∷ ys) (outside_parted xs zero zero (omega arith) (λ k d lt. absurd (omega arith))
      (λ k d ge lt. absurd (omega arith)) (λ k d ge lt. high (suc k) d (omega arith) (omega arith)))
      ∙ ap (λ b. cond (not b) (x ∷ others xs) (others xs)) (sym other)

  apart : (p : A → Bool) → ((x : A) → between x ≡ p x) → ((x : A) → below x ≡ true → upto x ≡ true)
      → (xs : List A) (i j : ℕ) → i ≤ length xs → j ≤ length xs → TurnsAt below xs i → TurnsAt upto xs j
      → take i xs ++ drop j xs ≡ filter (λ x. not (p x)) xs
  apart p same inner xs i j starts ends low high =
      let le : i ≤ j = in_order inner xs i j starts low high in
      let sum : j ≡ i + (j - i) = omega arith in
      ap (λ n. take i xs ++ drop n xs) sum
      ∙ outside_parted xs i (j - i) (omega arith) (λ k d lt. low.0 k d (omega arith) lt)
      (λ k d ge lt.
      let over : below (get_or xs k d) ≡ false = low.1 k d ge (omega arith) in
      let under : upto (get_or xs k d) ≡ true = high.0 k d (omega arith) (omega arith) in
      ap (λ b. not b && upto (get_or xs k d)) over ∙ under)
      (λ k d ge lt. high.1 k d (omega arith) lt)
      ∙ alike (λ x. not (between x)) (λ x. not (p x)) (λ x. ap not (same x)) xs

-- ---- the values within a prefix

-- the first value, if it passes a test
abbrev pub first_if : {A : Type 0} → (A → Bool) → List A → Option A
first_if p [] = None
first_if p (x ∷ xs) = cond (p x) (Some x) None

pub first_there : {A : Type 0} (p : A → Bool) (xs : List A) (i : ℕ) (x : A) → i < length xs → x ≡ get_or xs i x
    → first_if p (drop i xs) ≡ cond (p x) (Some x) None
first_there p [] i x lt is = absurd (omega arith)
first_there p (y ∷ ys) zero x lt is = ap (λ z. cond (p z) (Some z) None) (sym is)
first_there p (y ∷ ys) (suc i) x lt is = first_there p ys i x (omega arith) is

pub first_past : {A : Type 0} (p : A → Bool) (xs : List A) (i : ℕ) → length xs ≤ i → first_if p (drop i xs) ≡ None
first_past p [] zero le = refl
first_past p [] (suc i) le = refl
first_past p (y ∷ ys) zero le = absurd (omega arith)
first_past p (y ∷ ys) (suc i) le = first_past p ys i (omega arith)

lower_upto : (r : Ordering) → is_lt r ≡ true → is_le r ≡ true
lower_upto Less t = refl
lower_upto Equal t = cc
lower_upto Greater t = cc

neither : (r : Ordering) → (not (is_lt r) && is_le r) ≡ is_eq r
neither Less = refl
neither Equal = refl
neither Greater = refl

module _ {A : Type 0} (key : A → Key) (front : Key) where
  abbrev pub below : A → Bool
  below x = is_lt (compare_front (key x) front)

  abbrev pub upto : A → Bool
  upto x = is_le (compare_front (key x) front)

  below_down : (x y : A) → compare (key x) (key y) ≡ Less → below y ≡ true → below x ≡ true
  below_down x y lt e =
      let n : ℕ = length front in
      le_then_lt (take n (key x)) (take n (key y)) front (fronts n (key x) (key y) lt) e

  upto_down : (x y : A) → compare (key x) (key y) ≡ Less → upto y ≡ true → upto x ≡ true
  upto_down x y lt e =
      let n : ℕ = length front in
      le_then_le (take n (key x)) (take n (key y)) front (fronts n (key x) (key y) lt) e

  pub below_turns : (xs : List A) → is_ascending key xs ≡ true → IsPartitionedBy below xs
  below_turns = turns key below below_down

  pub upto_turns : (xs : List A) → is_ascending key xs ≡ true → IsPartitionedBy upto xs
  upto_turns = turns key upto upto_down

  inner : (x : A) → below x ≡ true → upto x ≡ true
  inner x = lower_upto (compare_front (key x) front)

  pub front_in_order : (xs : List A) (i j : ℕ) → i ≤ length xs → TurnsAt below xs i → TurnsAt upto xs j → i ≤ j
  front_in_order = in_order below upto inner

  pub front_together : (xs : List A) (i j : ℕ) → i ≤ length xs → j ≤ length xs → TurnsAt below xs i
      → TurnsAt upto xs j → take (j - i) (drop i xs) ≡ filter (is_within key front) xs
  front_together =
      together below upto (is_within key front) (λ x. neither (compare_front (key x) front)) inner

  pub front_apart : (xs : List A) (i j : ℕ) → i ≤ length xs → j ≤ length xs → TurnsAt below xs i
      → TurnsAt upto xs j → take i xs ++ drop j xs ≡ filter (λ x. not (is_within key front x)) xs
  front_apart =
      apart below upto (is_within key front) (λ x. neither (compare_front (key x) front)) inner

  -- ---- the first value within a prefix

  not_lower : (r : Ordering) → is_lt r ≡ true → is_eq r ≡ false
  not_lower Less t = refl
  not_lower Equal t = cc
  not_lower Greater t = cc

  above_is : (r : Ordering) → is_lt r ≡ false → is_eq r ≡ false → is_le r ≡ false
  above_is Less t u = cc
  above_is Equal t u = cc
  above_is Greater t u = refl

  not_above : (r : Ordering) → is_le r ≡ false → is_eq r ≡ false
  not_above Less t = cc
  not_above Equal t = cc
  not_above Greater t = refl

  none_above : (x : A) (ys : List A) → upto x ≡ false → below_all key (key x) ys ≡ true
      → find (is_within key front) ys ≡ None
  none_above x [] over h = refl
  none_above x (y ∷ ys) over h =
      elim (tested (upto y)) [
        | inl t ↦ absurd (
            let under : upto x ≡ true = upto_down x y (less _ (first_so _ _ h)) t in
            cc (under, over))
        | inr f ↦ ap (λ b. cond b (Some y) (find (is_within key front) ys))
            (not_above (compare_front (key y) front) f) ∙ none_above x ys over (second_so _ _ h)
      ]

  pub front_first : (xs : List A) (i : ℕ) → is_ascending key xs ≡ true → i ≤ length xs → TurnsAt below xs i
      → find (is_within key front) xs ≡ first_if (is_within key front) (drop i xs)
  front_first xs i h le low =
      found xs i h le (λ k d lt. low.0 k d (omega arith) lt) (λ k d ge lt. low.1 k d ge lt)
    where
      found : (xs : List A) (i : ℕ) → is_ascending key xs ≡ true → i ≤ length xs
          → ((k : ℕ) (d : A) → k < i → below (get_or xs k d) ≡ true)
          → ((k : ℕ) (d : A) → i ≤ k → k < length xs → below (get_or xs k d) ≡ false)
          → find (is_within key front) xs ≡ first_if (is_within key front) (drop i xs)
      found [] zero h le low high = refl
      found [] (suc i) h le low high = absurd (omega arith)
      found (x ∷ xs) (suc i) h le low high =
          ap (λ b. cond b (Some x) (find (is_within key front) xs))
          (not_lower (compare_front (key x) front) (low 0 x (omega arith)))
          ∙ found xs i (second_so _ _ h) (omega arith) (λ k d lt. low (suc k) d (omega arith))
          (λ k d ge lt. high (suc k) d (omega arith) (omega arith))
      found (x ∷ xs) zero h le low high =
          elim (tested (is_within key front x)) [
            | inl t ↦ ap (λ b. cond b (Some x) (find (is_within key front) xs)) t
                ∙ sym (ap (λ b. cond b (Some x) None) t)
            | inr f ↦
                let over : upto x ≡ false =
                above_is (compare_front (key x) front) (high 0 x (omega arith) (omega arith)) f in
                ap (λ b. cond b (Some x) (find (is_within key front) xs)) f
                ∙ none_above x xs over (first_so _ _ h) ∙ sym (ap (λ b. cond b (Some x) None) f)
          ]

-- what is copied over the values within, and then cut
pub cut : {A : Type 0} (xs : List A) (i j n : ℕ) → i ≤ j → j ≤ n → n ≡ length xs
    → take (i + (n - j)) (paste xs i (drop j xs) (n - j)) ≡ take i xs ++ drop j xs
cut xs i j n le inside is =
    let rest : length (drop j xs) ≡ n - j = omega (arith, length-drop j xs) in
    take-paste xs i (drop j xs) (n - j) (omega arith) (omega (arith, rest))
    ∙ ap (λ ys. take i xs ++ ys) (ap (λ m. take m (drop j xs)) (sym rest) ∙ take-length (drop j xs))
