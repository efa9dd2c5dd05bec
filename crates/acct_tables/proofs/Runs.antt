-- Rows that pass a test stand together where the keys of these are a range
use Rattle.std.proofs.Common.{◌≡◌, ◌≢◌, ℕ, zero, suc, ◌+◌, ◌<◌, ◌≤◌, Bool}
use Rattle.std.proofs.Common.{true, false, cond, List, [], ◌∷◌, length, get_or}
use Rattle.std.proofs.Common.{drop, arith, Option, Some, None}
use Rattle.std.proofs.Common.{Result, Ok, Err, refl, sym, ap, ◌∙◌, inl, inr}
use Rattle.std.specs.List.{filter, find}
use Rattle.std.specs.declared.cmp.Ordering.TheVariants.{Less, Equal, Greater}
use Rattle.std.specs.Ordering.{ordering_reverse}
use Rattle.std.specs.Cmp.{first_so, second_so}
use Rattle.std.specs.Cmp.Lexicographic.{nat_list_cmp_total}
use Rattle.acct_tables.specs.Keyed.{compare, by_order, place, further, below_all, is_ascending}
use Rattle.acct_tables.proofs.Orders.{tested, less}

-- the values that pass a test before the first that doesn't
abbrev pub leading : {A : Type 0} → (A → Bool) → List A → List A
leading p [] = []
leading p (x ∷ xs) = cond (p x) (x ∷ leading p xs) []

-- the first value, if it passes a test
abbrev pub first_if : {A : Type 0} → (A → Bool) → List A → Option A
first_if p [] = None
first_if p (x ∷ xs) = cond (p x) (Some x) None

abbrev pub head_of : {A : Type 0} → List A → Option A
head_of [] = None
head_of (x ∷ xs) = Some x

find_head : {A : Type 0} (p : A → Bool) (xs : List A) → find p xs ≡ head_of (filter p xs)
find_head p [] = refl
find_head p (x ∷ xs) =
    let rest = find_head p xs in
    elim (p x) as (λ b. cond b (Some x) (find p xs) ≡ head_of (cond b (x ∷ filter p xs) (filter p xs))) [
      | true ↦ refl
      | false ↦ rest
    ]

leading_head : {A : Type 0} (p : A → Bool) (xs : List A) → head_of (leading p xs) ≡ first_if p xs
leading_head p [] = refl
leading_head p (x ∷ xs) =
    elim (p x) as (λ b. head_of (cond b (x ∷ leading p xs) []) ≡ cond b (Some x) None) [ true ↦ refl | false ↦ refl ]

-- the place of what was searched, or where it would go
abbrev pub spot : Result ℕ ℕ → ℕ
spot (Ok i) = i
spot (Err i) = i

drop_further : {A : Type 0} (r : Result ℕ ℕ) (x : A) (xs : List A)
    → drop (spot (further r)) (x ∷ xs) ≡ drop (spot r) xs
drop_further (Ok i) x xs = refl
drop_further (Err i) x xs = refl

-- None that passes is below a key; and above it, none that passes is after one that doesn't.
module _ {A : Type 0} (key : A → List ℕ) (p : A → Bool) (q : List ℕ)
    (low : (x : A) → p x ≡ true → compare q (key x) ≢ Greater)
    (over : (x y : A) → compare q (key x) ≢ Greater → p x ≡ false → compare (key x) (key y) ≡ Less → p y ≡ false) where
  none_passes : (x : A) (ys : List A) → compare q (key x) ≢ Greater → p x ≡ false → below_all key (key x) ys ≡ true
      → filter p ys ≡ []
  none_passes x [] up f h = refl
  none_passes x (y ∷ ys) up f h =
      ap (λ b. cond b (y ∷ filter p ys) (filter p ys)) (over x y up f (less _ (first_so _ _ h)))
      ∙ none_passes x ys up f (second_so _ _ h)

  higher : (x y : A) → compare q (key x) ≢ Greater → compare (key x) (key y) ≡ Less → compare q (key y) ≢ Greater
  higher x y up lt gt =
      let under : compare (key y) q ≡ Less = nat_list_cmp_total.antisymm (key y) q ∙ ap ordering_reverse gt in
      let turned : compare q (key x) ≡ Greater =
      nat_list_cmp_total.antisymm q (key x)
      ∙ ap ordering_reverse (nat_list_cmp_total.trans (key x) (key y) q lt under) in
      up turned

  run_here : (x : A) (xs : List A) → is_ascending key (x ∷ xs) ≡ true → compare q (key x) ≢ Greater
      → filter p (x ∷ xs) ≡ leading p (x ∷ xs)
  run_here x [] h up = elim (p x) as (λ b. cond b (x ∷ []) [] ≡ cond b (x ∷ []) []) [ true ↦ refl | false ↦ refl ]
  run_here x (y ∷ ys) h up =
      elim (tested (p x)) [
        | inl t ↦
            let lt : compare (key x) (key y) ≡ Less = less _ (first_so _ _ (first_so _ _ h)) in
            ap (λ b. cond b (x ∷ filter p (y ∷ ys)) (filter p (y ∷ ys))) t
            ∙ ap (λ zs. x ∷ zs) (run_here y ys (second_so _ _ h) (higher x y up lt))
            ∙ sym (ap (λ b. cond b (x ∷ leading p (y ∷ ys)) []) t)
        | inr f ↦ ap (λ b. cond b (x ∷ filter p (y ∷ ys)) (filter p (y ∷ ys))) f
            ∙ none_passes x (y ∷ ys) up f (first_so _ _ h) ∙ sym (ap (λ b. cond b (x ∷ leading p (y ∷ ys)) []) f)
      ]

  pub run : (xs : List A) → is_ascending key xs ≡ true
      → filter p xs ≡ leading p (drop (spot (place key q xs)) xs)
  run [] h = refl
  run (x ∷ xs) h =
      let rest = run xs (second_so _ _ h) in
      elim (compare q (key x)) as
      (λ r. compare q (key x) ≡ r
      → filter p (x ∷ xs) ≡ leading p (drop (spot (by_order r (Err 0) (Ok 0) (further (place key q xs)))) (x ∷ xs))) [
        | Less ↦ λ e. run_here x xs h (λ gt. let n : Less ≡ Greater = sym e ∙ gt in cc)
        | Equal ↦ λ e. run_here x xs h (λ gt. let n : Equal ≡ Greater = sym e ∙ gt in cc)
        | Greater ↦ λ e. elim (tested (p x)) [
          | inl t ↦ absurd (low x t e)
          | inr f ↦ ap (λ b. cond b (x ∷ filter p xs) (filter p xs)) f ∙ rest
              ∙ ap (leading p) (sym (drop_further (place key q xs) x xs))
        ]
      ] refl

  pub first_found : (xs : List A) → is_ascending key xs ≡ true
      → find p xs ≡ first_if p (drop (spot (place key q xs)) xs)
  first_found xs h =
      find_head p xs ∙ ap head_of (run xs h) ∙ leading_head p (drop (spot (place key q xs)) xs)

-- ---- steps of a loop over a run

module _ {A : Type 0} (p : A → Bool) where
  pub run_more : (xs : List A) (k : ℕ) (x : A) → k < length xs → x ≡ get_or xs k x → p x ≡ true
      → leading p (drop k xs) ≡ x ∷ leading p (drop (k + 1) xs)
  run_more [] k x lt is t = absurd (omega arith)
  run_more (y ∷ ys) zero x lt is t =
      ap (λ z. cond (p z) (z ∷ leading p ys) []) (sym is) ∙ ap (λ b. cond b (x ∷ leading p ys) []) t
  run_more (y ∷ ys) (suc k) x lt is t =
      let rest = run_more ys k x (omega arith) is t in
      let next : suc k + 1 ≡ suc (k + 1) = omega arith in
      rest ∙ ap (λ n. x ∷ leading p (drop n (y ∷ ys))) (sym next)

  pub run_stops : (xs : List A) (k : ℕ) (x : A) → k < length xs → x ≡ get_or xs k x → p x ≡ false
      → leading p (drop k xs) ≡ []
  run_stops [] k x lt is f = absurd (omega arith)
  run_stops (y ∷ ys) zero x lt is f =
      ap (λ z. cond (p z) (z ∷ leading p ys) []) (sym is) ∙ ap (λ b. cond b (x ∷ leading p ys) []) f
  run_stops (y ∷ ys) (suc k) x lt is f = run_stops ys k x (omega arith) is f

  pub run_ends : (xs : List A) (k : ℕ) → length xs ≤ k → leading p (drop k xs) ≡ []
  run_ends [] zero le = refl
  run_ends [] (suc k) le = refl
  run_ends (y ∷ ys) zero le = absurd (omega arith)
  run_ends (y ∷ ys) (suc k) le = run_ends ys k (omega arith)
