-- What is put or removed at the place of its key.
use Rattle.std.proofs.Common.{◌≡◌, ℕ, List, [], ◌∷◌, Result, Ok, Err, true, not, cond, set, insert, remove, refl, sym}
use Rattle.std.proofs.Common.{ap, subst, ◌∙◌}
use Rattle.std.specs.declared.cmp.Ordering.TheVariants.{Less, Equal, Greater}
use Rattle.std.specs.Ordering.{is_eq}
use Rattle.std.specs.Cmp.{first_so, second_so}
use Rattle.acct_keeper.specs.declared.pairs.Pair.{Pair}
use Rattle.acct_keeper.specs.Pairs.{compare, by_order, put, without, is_ascending, below_all}
use Rattle.acct_keeper.specs.steps.Places.{place, further}
use Rattle.acct_keeper.proofs.Ordered.{tied-is, less, below_less}

abbrev pub put_at : Result ℕ ℕ → Pair → List Pair → List Pair
put_at (Ok i) a xs = set xs i a
put_at (Err i) a xs = insert xs i a

put_further : (r : Result ℕ ℕ) (a x : Pair) (xs : List Pair) → put_at (further r) a (x ∷ xs) ≡ x ∷ put_at r a xs
put_further (Ok i) a x xs = refl
put_further (Err i) a x xs = refl

put-place : (a : Pair) (xs : List Pair) → put a xs ≡ put_at (place a.key xs) a xs
put-place a [] = refl
put-place a (x ∷ xs) =
    let rest = put-place a xs in
    elim (compare a.key x.key) as
    (λ r. by_order r (a ∷ x ∷ xs) (a ∷ xs) (x ∷ put a xs)
    ≡ put_at (by_order r (Err 0) (Ok 0) (further (place a.key xs))) a (x ∷ xs)) [
      | Less ↦ refl
      | Equal ↦ refl
      | Greater ↦ ap (λ ys. x ∷ ys) rest ∙ sym (put_further (place a.key xs) a x xs)
    ]

abbrev pub without_at : Result ℕ ℕ → List Pair → List Pair
without_at (Ok i) xs = remove xs i
without_at (Err i) xs = xs

without_further : (r : Result ℕ ℕ) (x : Pair) (xs : List Pair) → without_at (further r) (x ∷ xs) ≡ x ∷ without_at r xs
without_further (Ok i) x xs = refl
without_further (Err i) x xs = refl

without_below : (q : List ℕ) (xs : List Pair) → below_all q xs ≡ true → without q xs ≡ xs
without_below q [] h = refl
without_below q (x ∷ xs) h =
    ap (λ r. cond (not (is_eq r)) (x ∷ without q xs) (without q xs)) (less _ (first_so _ _ h))
    ∙ ap (λ ys. x ∷ ys) (without_below q xs (second_so _ _ h))

without-place : (q : List ℕ) (xs : List Pair) → is_ascending xs ≡ true → without q xs ≡ without_at (place q xs) xs
without-place q [] h = refl
without-place q (x ∷ xs) h =
    let rest = without-place q xs (second_so _ _ h) in
    elim (compare q x.key) as
    (λ r. compare q x.key ≡ r
    → cond (not (is_eq r)) (x ∷ without q xs) (without q xs)
    ≡ without_at (by_order r (Err 0) (Ok 0) (further (place q xs))) (x ∷ xs)) [
      | Less ↦ λ p. ap (λ ys. x ∷ ys) (without_below q xs (below_less q x.key xs p (first_so _ _ h)))
      | Equal ↦ λ p. without_below q xs
          (subst (λ (k : List ℕ). below_all k xs ≡ true) (sym (tied-is _ _ p)) (first_so _ _ h))
      | Greater ↦ λ p. ap (λ ys. x ∷ ys) rest ∙ sym (without_further (place q xs) x xs)
    ] refl

pub put-placed : (a : Pair) (xs : List Pair) (r : Result ℕ ℕ) → r ≡ place a.key xs → put_at r a xs ≡ put a xs
put-placed a xs r p = sym (put-place a xs ∙ ap (λ r. put_at r a xs) (sym p))

pub without-placed : (q : List ℕ) (xs : List Pair) (r : Result ℕ ℕ) → is_ascending xs ≡ true → r ≡ place q xs
    → without_at r xs ≡ without q xs
without-placed q xs r h p = sym (without-place q xs h ∙ ap (λ r. without_at r xs) (sym p))
