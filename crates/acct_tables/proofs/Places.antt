-- Changes at the place of a key.
use Rattle.std.proofs.Common.{◌≡◌, ℕ, true, not, cond, List, [], ◌∷◌, Result, Ok, Err}
use Rattle.std.proofs.Common.{set, insert, remove, refl, sym, ap, subst, ◌∙◌}
use Rattle.std.specs.declared.cmp.Ordering.TheVariants.{Less, Equal, Greater}
use Rattle.std.specs.Ordering.{is_eq}
use Rattle.std.specs.Cmp.{first_so, second_so}
use Rattle.acct_tables.specs.Keyed.{Key, compare, by_order, place, further, put, without, is_ascending, below_all}
use Rattle.acct_tables.proofs.Orders.{tied-is, less}
use Rattle.acct_tables.proofs.Ascending.{below_less}

module _ {A : Type 0} (key : A → Key) where
  abbrev pub put_at : Result ℕ ℕ → A → List A → List A
  put_at (Ok i) a xs = set xs i a
  put_at (Err i) a xs = insert xs i a

  put_further : (r : Result ℕ ℕ) (a x : A) (xs : List A) → put_at (further r) a (x ∷ xs) ≡ x ∷ put_at r a xs
  put_further (Ok i) a x xs = refl
  put_further (Err i) a x xs = refl

  pub put-place : (a : A) (xs : List A) → put key a xs ≡ put_at (place key (key a) xs) a xs
  put-place a [] = refl
  put-place a (x ∷ xs) =
      let rest = put-place a xs in
      elim (compare (key a) (key x)) as
      (λ r. by_order r (a ∷ x ∷ xs) (a ∷ xs) (x ∷ put key a xs)
      ≡ put_at (by_order r (Err 0) (Ok 0) (further (place key (key a) xs))) a (x ∷ xs)) [
        | Less ↦ refl
        | Equal ↦ refl
        | Greater ↦ ap (λ ys. x ∷ ys) rest ∙ sym (put_further (place key (key a) xs) a x xs)
      ]

  abbrev pub without_at : Result ℕ ℕ → List A → List A
  without_at (Ok i) xs = remove xs i
  without_at (Err i) xs = xs

  without_further : (r : Result ℕ ℕ) (x : A) (xs : List A) → without_at (further r) (x ∷ xs) ≡ x ∷ without_at r xs
  without_further (Ok i) x xs = refl
  without_further (Err i) x xs = refl

  without_below : (q : Key) (xs : List A) → below_all key q xs ≡ true → without key q xs ≡ xs
  without_below q [] h = refl
  without_below q (x ∷ xs) h =
      ap (λ r. cond (not (is_eq r)) (x ∷ without key q xs) (without key q xs)) (less _ (first_so _ _ h))
      ∙ ap (λ ys. x ∷ ys) (without_below q xs (second_so _ _ h))

  pub without-place : (q : Key) (xs : List A) → is_ascending key xs ≡ true
      → without key q xs ≡ without_at (place key q xs) xs
  without-place q [] h = refl
  without-place q (x ∷ xs) h =
      let rest = without-place q xs (second_so _ _ h) in
      elim (compare q (key x)) as
      (λ r. compare q (key x) ≡ r
      → cond (not (is_eq r)) (x ∷ without key q xs) (without key q xs)
      ≡ without_at (by_order r (Err 0) (Ok 0) (further (place key q xs))) (x ∷ xs)) [
        | Less ↦ λ p. ap (λ ys. x ∷ ys) (without_below q xs (below_less key q (key x) xs p (first_so _ _ h)))
        | Equal ↦ λ p. without_below q xs
            (subst (λ (k : Key). below_all key k xs ≡ true) (sym (tied-is _ _ p)) (first_so _ _ h))
        | Greater ↦ λ p. ap (λ ys. x ∷ ys) rest ∙ sym (without_further (place key q xs) x xs)
      ] refl

  pub put-placed : (a : A) (xs : List A) (r : Result ℕ ℕ) → r ≡ place key (key a) xs → put_at r a xs ≡ put key a xs
  put-placed a xs r p = sym (put-place a xs ∙ ap (λ r. put_at r a xs) (sym p))

  pub without-placed : (q : Key) (xs : List A) (r : Result ℕ ℕ) → is_ascending key xs ≡ true → r ≡ place key q xs
      → without_at r xs ≡ without key q xs
  without-placed q xs r h p = sym (without-place q xs h ∙ ap (λ r. without_at r xs) (sym p))
