-- Pairs ascend where each ascends to the next.
use Rattle.std.proofs.Common.{◌≡◌, ℕ, suc, zero, ◌<◌, ◌≤◌, Bool, true, false, ◌&&◌, List, [], ◌∷◌, length, get_or}
use Rattle.std.proofs.Common.{drop, refl, sym, ap, subst, ◌∙◌, arith}
use Rattle.std.specs.declared.cmp.Ordering.{Ordering}
use Rattle.std.specs.declared.cmp.Ordering.TheVariants.{Less, Equal, Greater}
use Rattle.std.specs.Ordering.{is_lt, is_ge}
use Rattle.acct_keeper.specs.declared.pairs.Pair.{Pair}
use Rattle.acct_keeper.specs.Pairs.{compare, below_all, is_ascending}
use Rattle.acct_keeper.proofs.Ordered.{less, below_less}

pub below-not-above : (r : Ordering) → is_ge r ≡ false → is_lt r ≡ true
below-not-above Less e = refl
below-not-above Equal e = cc
below-not-above Greater e = cc

-- what follows of another test needs no test of its own
spared : (lt a b c : Bool) → (lt ≡ true → b ≡ true → a ≡ true) → ((lt && a) && (b && c)) ≡ (lt && (b && c))
spared false a b c h = refl
spared true true b c h = refl
spared true false true c h = cc (h refl refl)
spared true false false c h = refl

chained : (x y : Pair) (xs : List Pair)
    → is_ascending (x ∷ y ∷ xs) ≡ (is_lt (compare x.key y.key) && is_ascending (y ∷ xs))
chained x y xs = spared (is_lt (compare x.key y.key)) (below_all x.key xs) (below_all y.key xs) (is_ascending xs)
    (λ lt h. below_less x.key y.key xs (less _ lt) h)

step : (xs : List Pair) (i : ℕ) (x y : Pair) → suc i < length xs → x ≡ get_or xs i x → y ≡ get_or xs (suc i) y
    → is_ascending (drop i xs) ≡ (is_lt (compare x.key y.key) && is_ascending (drop (suc i) xs))
step [] i x y lt at next = absurd (omega arith)
step (a ∷ []) zero x y lt at next = absurd (omega arith)
step (a ∷ b ∷ xs) zero x y lt at next = rw (at, next) (chained a b xs)
step (a ∷ xs) (suc i) x y lt at next = step xs i x y (omega arith) at next

pub ascends-next : (xs : List Pair) (i j : ℕ) (x y : Pair) → j ≡ suc i → j < length xs → x ≡ get_or xs i x
    → y ≡ get_or xs j y → is_lt (compare x.key y.key) ≡ true → is_ascending (drop i xs) ≡ is_ascending (drop j xs)
ascends-next xs i j x y e lt at next below =
    subst (λ (n : ℕ). n < length xs → y ≡ get_or xs n y → is_ascending (drop i xs) ≡ is_ascending (drop n xs)) (sym e)
    (λ lt next. step xs i x y lt at next ∙ ap (λ b. b && is_ascending (drop (suc i) xs)) below) lt next

-- the last pair is below none
pub ascends-last : (xs : List Pair) (i : ℕ) → length xs ≤ suc i → is_ascending (drop i xs) ≡ true
ascends-last [] zero h = refl
ascends-last [] (suc i) h = refl
ascends-last (a ∷ []) zero h = refl
ascends-last (a ∷ b ∷ xs) zero h = absurd (omega arith)
ascends-last (a ∷ xs) (suc i) h = ascends-last xs i (omega arith)
