-- Bits that are set and cleared: each other stays as it is, and known bits stay known.
use Rattle.std.proofs.Common.{◌≡◌, ◌≢◌, ℕ, zero, suc, ◌==◌, Bool, true, false, not, ◌&&◌, ◌||◌, ◌-◌, ◌^◌, ◌<◌, ◌/◌}
use Rattle.std.proofs.Common.{◌*◌, min, max, refl, sym, ap, ◌∙◌, arith}
use Rattle.std.specs.Prelude.{bit_and, bit_or}
use Rattle.std.specs.Int.Bits.{or_add_and, and_self}
use Rattle.std.specs.Int.{bit_not, bit_at, w32}
use Rattle.std.proofs.lemmas.Nat.{pow_apart, or_shr, and_shr, and_comm, and_assoc}
use Rattle.std.proofs.lemmas.Nat.Bits.{bit_at_and, bit_at_or, bit_at_not, and_pow, bit_at-pow_same, bit_at-pow_other}
use Rattle.std.proofs.lemmas.Bool.Decides.{nat_tests}
use Rattle.std.proofs.lemmas.Nat.{pow_pos}
use lib.Arith.{bin_ind}
use lib.Bits.{and_step, or_step, and_zero_r}

-- known bits stay known where others of them are set or cleared
pub or-within : (k a b : ℕ) → bit_and a k ≡ a → bit_and b k ≡ b → bit_and (bit_or a b) k ≡ bit_or a b
or-within =
    bin_ind (λ (k : ℕ). (a b : ℕ) → bit_and a k ≡ a → bit_and b k ≡ b → bit_and (bit_or a b) k ≡ bit_or a b)
    (λ a b p q. omega (arith, or_add_and a b, and_zero_r a, and_zero_r b, and_zero_r (bit_or a b)))
    (λ k ih a b p q.
    let left : bit_and (a / 2) (k / 2) ≡ a / 2 = sym (and_shr a k 1) ∙ ap (λ n. n / 2) p in
    let right : bit_and (b / 2) (k / 2) ≡ b / 2 = sym (and_shr b k 1) ∙ ap (λ n. n / 2) q in
    let half : bit_and (bit_or a b / 2) (k / 2) ≡ bit_or a b / 2 =
    ap (λ n. bit_and n (k / 2)) (or_shr a b 1) ∙ ih (a / 2) (b / 2) left right ∙ sym (or_shr a b 1) in
    omega (arith, and_step (bit_or a b) k, or_step a b, and_step a k, and_step b k, half, left, right))

pub and-within : (k a m : ℕ) → bit_and a k ≡ a → bit_and (bit_and a m) k ≡ bit_and a m
and-within k a m within =
    and_assoc k a m ∙ ap (bit_and a) (and_comm m k) ∙ sym (and_assoc m a k) ∙ ap (λ n. bit_and n m) within

-- ---- a single bit

-- it is there
abbrev pub has_bit : ℕ → ℕ → Bool
has_bit a bit = not (bit_and a bit == 0)

tests : (m n k : ℕ) → m ≡ n * k → 0 < k → (m == 0) ≡ (n == 0)
tests m zero k e pos = grind (arith, nat_tests)
tests m (suc n) k e pos =
    let some : 0 < m = omega (arith, e, large n k pos) in
    cc (differs m 0 some, differs (suc n) 0 (omega arith))
  where
    large : (n k : ℕ) → 0 < k → 0 < suc n * k
    large n k pos = grind arith

    differs : (m n : ℕ) → n < m → (m == n) ≡ false
    differs m n lt = grind (arith, nat_tests)

bit-is : (a place : ℕ) → has_bit a (2 ^ place) ≡ not (bit_at a place == 0)
bit-is a place = ap not (tests (bit_and a (2 ^ place)) (bit_at a place) (2 ^ place) (and_pow a place) (pow_pos place))

one-place : (i j : ℕ) → i ≢ j → (2 ^ j == 2 ^ i) ≡ false
one-place i j other = unlike (2 ^ j) (2 ^ i) (λ e. apart (2 ^ i) (2 ^ j) e (pow_pos i) (pow_apart i j other))
  where
    unlike : (m n : ℕ) → m ≢ n → (m == n) ≡ false
    unlike m n other = grind (arith, nat_tests)

    apart : (m n : ℕ) → n ≡ m → 0 < m → bit_and m n ≡ 0 → ⊥
    apart m n e pos none =
        let all : bit_and m m ≡ 0 = ap (bit_and m) (sym e) ∙ none in omega (arith, and_self m)

like : (m n : ℕ) → m ≡ n → (m == n) ≡ true
like m n e = grind (arith, nat_tests)

decide : (i j : ℕ) (P : Type 0) → (i ≡ j → P) → (i ≢ j → P) → P
decide i j P same other = elim (i == j) as (λ b. (i == j) ≡ b → P) [
  | true ↦ λ is. same (grind (arith, nat_tests))
  | false ↦ λ is. other (grind (arith, nat_tests))
] refl

set-here : (x y : ℕ) → y ≡ 1 → not (max x y == 0) ≡ true
set-here x y e = grind (arith, nat_tests)

set-apart : (x y : ℕ) → y ≡ 0 → not (max x y == 0) ≡ not (x == 0)
set-apart x y e = ap (λ n. not (n == 0)) (omega arith)

pub bit-set : (a i j : ℕ) → has_bit (bit_or a (2 ^ j)) (2 ^ i) ≡ ((2 ^ j == 2 ^ i) || has_bit a (2 ^ i))
bit-set a i j =
    let now : has_bit (bit_or a (2 ^ j)) (2 ^ i) ≡ not (max (bit_at a i) (bit_at (2 ^ j) i) == 0) =
    bit-is (bit_or a (2 ^ j)) i ∙ ap (λ n. not (n == 0)) (bit_at_or a (2 ^ j) i) in
    decide i j _
    (λ same. now ∙ set-here (bit_at a i) (bit_at (2 ^ j) i) (ap (bit_at (2 ^ j)) same ∙ bit_at-pow_same j)
    ∙ sym (ap (λ b. b || has_bit a (2 ^ i)) (like (2 ^ j) (2 ^ i) (ap (λ n. 2 ^ n) (sym same)))))
    (λ other. now ∙ set-apart (bit_at a i) (bit_at (2 ^ j) i) (bit_at-pow_other j i other)
    ∙ sym (bit-is a i) ∙ sym (ap (λ b. b || has_bit a (2 ^ i)) (one-place i j other)))

clear-here : (x y : ℕ) → y ≡ 0 → not (min x y == 0) ≡ false
clear-here x y e = grind (arith, nat_tests)

clear-apart : (x y : ℕ) → y ≡ 1 → not (min x y == 0) ≡ not (x == 0)
clear-apart zero y e = grind (arith, nat_tests)
clear-apart (suc x) y e = grind (arith, nat_tests)

pub bit-cleared : (a i j : ℕ) → i < 32 → 2 ^ j < 2 ^ 32
    → has_bit (bit_and a (bit_not w32 (2 ^ j))) (2 ^ i) ≡ (not (2 ^ j == 2 ^ i) && has_bit a (2 ^ i))
bit-cleared a i j within fits =
    let now : has_bit (bit_and a (bit_not w32 (2 ^ j))) (2 ^ i)
    ≡ not (min (bit_at a i) (1 - bit_at (2 ^ j) i) == 0) =
    bit-is (bit_and a (bit_not w32 (2 ^ j))) i
    ∙ ap (λ n. not (n == 0)) (bit_at_and a (bit_not w32 (2 ^ j)) i
    ∙ ap (min (bit_at a i)) (bit_at_not w32 (2 ^ j) i fits within)) in
    decide i j _
    (λ same. now
    ∙ clear-here (bit_at a i) (1 - bit_at (2 ^ j) i)
    (ap (λ n. 1 - n) (ap (bit_at (2 ^ j)) same ∙ bit_at-pow_same j))
    ∙ sym (ap (λ b. not b && has_bit a (2 ^ i)) (like (2 ^ j) (2 ^ i) (ap (λ n. 2 ^ n) (sym same)))))
    (λ other. now
    ∙ clear-apart (bit_at a i) (1 - bit_at (2 ^ j) i) (ap (λ n. 1 - n) (bit_at-pow_other j i other))
    ∙ sym (bit-is a i) ∙ sym (ap (λ b. not b && has_bit a (2 ^ i)) (one-place i j other)))
