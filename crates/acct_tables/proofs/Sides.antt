-- Rows that ascend, and two tests of them, of which the one passes the rows of a range: those that pass either test are
-- those that pass the other below the range, those of the range, and those that pass the other above it.
use Rattle.std.proofs.Common.{◌≡◌, ◌≢◌, ℕ, Bool, true, false, ◌||◌, cond, List, [], ◌∷◌, ◌++◌}
use Rattle.std.proofs.Common.{refl, sym, ap, ◌∙◌, inl, inr}
use Rattle.std.specs.List.{filter}
use Rattle.std.specs.declared.cmp.Ordering.{Ordering}
use Rattle.std.specs.declared.cmp.Ordering.TheVariants.{Less, Equal, Greater}
use Rattle.std.specs.Ordering.{is_eq, is_lt, is_le, is_gt}
use Rattle.std.specs.Cmp.{first_so, second_so}
use Rattle.acct_tables.specs.Keyed.{compare, below_all, is_ascending}
use Rattle.acct_tables.proofs.Orders.{tested, less}

-- what the first value decides of a filter
passing : {A : Type 0} (p : A → Bool) (b : Bool) (x : A) (xs : List A)
    → cond b (cond (p x) (x ∷ filter p xs) (filter p xs)) (filter p xs) ≡ filter p (cond b (x ∷ xs) xs)
passing p true x xs = refl
passing p false x xs = refl

one_more : {A : Type 0} (r : Ordering) (b : Bool) (x : A) (all low mid high : List A) → (r ≢ Less → low ≡ [])
    → (r ≡ Greater → mid ≡ []) → all ≡ low ++ mid ++ high
    → cond (is_eq r || b) (x ∷ all) all
    ≡ cond b (cond (is_lt r) (x ∷ low) low) low
    ++ cond (is_eq r) (x ∷ mid) mid
    ++ cond b (cond (is_gt r) (x ∷ high) high) high
one_more Less true x all low mid high lows mids e = ap (λ ys. x ∷ ys) e
one_more Less false x all low mid high lows mids e = e
one_more Equal true x all low mid high lows mids e =
    let none : low ≡ [] = lows (λ n. cc) in
    rw none (ap (λ ys. x ∷ ys) (e ∙ ap (λ ys. ys ++ mid ++ high) none))
one_more Equal false x all low mid high lows mids e =
    let none : low ≡ [] = lows (λ n. cc) in
    rw none (ap (λ ys. x ∷ ys) (e ∙ ap (λ ys. ys ++ mid ++ high) none))
one_more Greater true x all low mid high lows mids e =
    let none : low ≡ [] = lows (λ n. cc) in
    let neither : mid ≡ [] = mids refl in
    rw (none, neither) (ap (λ ys. x ∷ ys) (e ∙ ap (λ ys. ys ++ mid ++ high) none ∙ ap (λ ys. ys ++ high) neither))
one_more Greater false x all low mid high lows mids e = e

module _ {A : Type 0} (key : A → List ℕ) where
  -- none passes after a row, if no row above it does
  none_behind : (p : A → Bool) (x : A) (xs : List A) → below_all key (key x) xs ≡ true
      → ((y : A) → compare (key x) (key y) ≡ Less → p y ≡ false) → filter p xs ≡ []
  none_behind p x [] h fails = refl
  none_behind p x (y ∷ ys) h fails =
      ap (λ b. cond b (y ∷ filter p ys) (filter p ys)) (fails y (less _ (first_so _ _ h)))
      ∙ none_behind p x ys (second_so _ _ h) fails

  none_among : (p q : A → Bool) (x : A) (xs : List A) → below_all key (key x) xs ≡ true
      → ((y : A) → compare (key x) (key y) ≡ Less → p y ≡ false) → filter p (filter q xs) ≡ []
  none_among p q x [] h fails = refl
  none_among p q x (y ∷ ys) h fails =
      let rest = none_among p q x ys (second_so _ _ h) fails in
      elim (q y) as (λ b. filter p (cond b (y ∷ filter q ys) (filter q ys)) ≡ []) [
        | true ↦
            ap (λ b. cond b (y ∷ filter p (filter q ys)) (filter p (filter q ys))) (fails y (less _ (first_so _ _ h)))
            ∙ rest
        | false ↦ rest
      ]

le_if_eq : (r : Ordering) → is_eq r ≡ true → is_le r ≡ true
le_if_eq Less e = refl
le_if_eq Equal e = refl
le_if_eq Greater e = cc

-- a row stands to the range as its order tells, which doesn't fall from row to row
module _ {A : Type 0} (key : A → List ℕ) (order : A → Ordering) (mid q : A → Bool)
    (same : (x : A) → is_eq (order x) ≡ mid x)
    (down_lt : (x y : A) → compare (key x) (key y) ≡ Less → is_lt (order y) ≡ true → is_lt (order x) ≡ true)
    (down_le : (x y : A) → compare (key x) (key y) ≡ Less → is_le (order y) ≡ true → is_le (order x) ≡ true) where
  abbrev low : A → Bool
  low x = is_lt (order x)

  abbrev high : A → Bool
  high x = is_gt (order x)

  no_low : (x y : A) → order x ≢ Less → compare (key x) (key y) ≡ Less → low y ≡ false
  no_low x y over lt =
      elim (tested (low y)) [ inl t ↦ absurd (over (less _ (down_lt x y lt t))) | inr f ↦ f ]

  no_mid : (x y : A) → order x ≡ Greater → compare (key x) (key y) ≡ Less → mid y ≡ false
  no_mid x y over lt =
      elim (tested (mid y)) [
        | inl t ↦ absurd (
            let up : is_le (order x) ≡ true = down_le x y lt (le_if_eq (order y) (same y ∙ t)) in
            let not_le : is_le (order x) ≡ false = ap is_le over in
            cc (up, not_le))
        | inr f ↦ f
      ]

  pub either : (xs : List A) → is_ascending key xs ≡ true
      → filter (λ x. mid x || q x) xs
      ≡ filter (λ x. is_lt (order x)) (filter q xs) ++ filter mid xs ++ filter (λ x. is_gt (order x)) (filter q xs)
  either [] h = refl
  either (x ∷ xs) h =
      let all = filter (λ y. mid y || q y) xs in
      let others = filter q xs in
      let lows = filter low others in
      let mids = filter mid xs in
      let highs = filter high others in
      ap (λ b. cond (b || q x) (x ∷ all) all) (sym (same x))
      ∙ one_more (order x) (q x) x all lows mids highs
      (λ over. none_among key low q x xs (first_so _ _ h) (λ y. no_low x y over))
      (λ over. none_behind key mid x xs (first_so _ _ h) (λ y. no_mid x y over))
      (either xs (second_so _ _ h))
      ∙ ap (λ ys. ys ++ cond (is_eq (order x)) (x ∷ mids) mids ++ cond (q x) (cond (high x) (x ∷ highs) highs) highs)
      (passing low (q x) x others)
      ∙ ap (λ b. filter low (cond (q x) (x ∷ others) others) ++ cond b (x ∷ mids) mids
      ++ cond (q x) (cond (high x) (x ∷ highs) highs) highs) (same x)
      ∙ ap (λ ys. filter low (cond (q x) (x ∷ others) others) ++ cond (mid x) (x ∷ mids) mids ++ ys)
      (passing high (q x) x others)
