-- Access masks, one right at a time
use Rattle.std.proofs.Common.{◌≡◌, ℕ, zero, suc, ◌+◌, ◌-◌, ◌*◌, ◌^◌, ◌<◌, ◌≤◌, ◌⊎◌, inl, inr, ⊎_elim, arith, refl, sym}
use Rattle.std.proofs.Common.{ap, ◌∙◌, Bool, true, false, bit_and, bit_or, min, max, w32, add-one}
use Rattle.std.specs.Prelude.{not, ◌&&◌, ◌||◌, ◌==◌, if◌then◌else◌}
use Rattle.std.specs.Int.{bit_at, bit_not}
use Rattle.std.proofs.lemmas.Nat.Bits.{and_pow, bit_at_and, bit_at_or, bit_at_not, bit_at-lt, bit_at-zero}
use Rattle.std.proofs.lemmas.Nat.Bits.{same_from_bits_below, bit_at_cat_low, bit_at_cat_high}
use Rattle.std.proofs.lemmas.Bool.Decides.{nat_tests}
use Rattle.std.proofs.lemmas.Bool.{cases_lt}
use Rattle.std.proofs.Math.Nat.{one-le-pow}
use Rattle.std.proofs.lemmas.Grind.{pow_more}
use Rattle.dtyp_access.specs.Granted.{shares, all_rights, mask_of}

bit_test : (bit power number : ℕ) → bit < 2 → 1 ≤ power → number ≡ bit * power → not (number == 0) ≡ (bit == 1)
bit_test zero power number few some is = let none : number ≡ 0 = omega arith in rw none refl
bit_test (suc zero) power number few some is = let one : 1 ≤ number = omega arith in grind (arith, nat_tests)
bit_test (suc (suc bit)) power number few some is = absurd (omega arith)

-- a mask has a right exactly where that bit is set
pub shares-bit : (mask bit : ℕ) → shares mask (2 ^ bit) ≡ (bit_at mask bit == 1)
unfolding shares
shares-bit mask bit =
    bit_test (bit_at mask bit) (2 ^ bit) (bit_and mask (2 ^ bit)) (bit_at-lt mask bit) (one-le-pow bit 2 (omega arith))
    (and_pow mask bit)

min_test : (x y : ℕ) → x < 2 → y < 2 → (min x y == 1) ≡ ((x == 1) && (y == 1))
min_test zero zero p q = refl
min_test zero (suc zero) p q = refl
min_test zero (suc (suc y)) p q = absurd (omega arith)
min_test (suc zero) zero p q = refl
min_test (suc zero) (suc zero) p q = refl
min_test (suc zero) (suc (suc y)) p q = absurd (omega arith)
min_test (suc (suc x)) y p q = absurd (omega arith)

max_test : (x y : ℕ) → x < 2 → y < 2 → (max x y == 1) ≡ ((x == 1) || (y == 1))
max_test zero zero p q = refl
max_test zero (suc zero) p q = refl
max_test zero (suc (suc y)) p q = absurd (omega arith)
max_test (suc zero) zero p q = refl
max_test (suc zero) (suc zero) p q = refl
max_test (suc zero) (suc (suc y)) p q = absurd (omega arith)
max_test (suc (suc x)) y p q = absurd (omega arith)

not_test : (x : ℕ) → x < 2 → (1 - x == 1) ≡ not (x == 1)
not_test zero p = refl
not_test (suc zero) p = refl
not_test (suc (suc x)) p = absurd (omega arith)

pub shares-and : (a b bit : ℕ) → shares (bit_and a b) (2 ^ bit) ≡ (shares a (2 ^ bit) && shares b (2 ^ bit))
shares-and a b bit =
    shares-bit (bit_and a b) bit
    ∙ ap (λ x. x == 1) (bit_at_and a b bit)
    ∙ min_test (bit_at a bit) (bit_at b bit) (bit_at-lt a bit) (bit_at-lt b bit)
    ∙ ap (λ x. x && (bit_at b bit == 1)) (sym (shares-bit a bit))
    ∙ ap (λ y. shares a (2 ^ bit) && y) (sym (shares-bit b bit))

pub shares-or : (a b bit : ℕ) → shares (bit_or a b) (2 ^ bit) ≡ (shares a (2 ^ bit) || shares b (2 ^ bit))
shares-or a b bit =
    shares-bit (bit_or a b) bit
    ∙ ap (λ x. x == 1) (bit_at_or a b bit)
    ∙ max_test (bit_at a bit) (bit_at b bit) (bit_at-lt a bit) (bit_at-lt b bit)
    ∙ ap (λ x. x || (bit_at b bit == 1)) (sym (shares-bit a bit))
    ∙ ap (λ y. shares a (2 ^ bit) || y) (sym (shares-bit b bit))

pub shares-not : (a bit : ℕ) → a < 2 ^ 32 → bit < 32 → shares (bit_not w32 a) (2 ^ bit) ≡ not (shares a (2 ^ bit))
shares-not a bit fits within =
    shares-bit (bit_not w32 a) bit
    ∙ ap (λ x. x == 1) (bit_at_not w32 a bit fits within)
    ∙ not_test (bit_at a bit) (bit_at-lt a bit)
    ∙ ap not (sym (shares-bit a bit))

pub shares-none : (bit : ℕ) → shares 0 (2 ^ bit) ≡ false
shares-none bit = shares-bit 0 bit ∙ ap (λ x. x == 1) (bit_at-zero bit)

-- the mask that stands for another, where a test passes
pub shares-if : (b : Bool) (mask bit : ℕ) → shares (if b then mask else 0) (2 ^ bit) ≡ (b && shares mask (2 ^ bit))
shares-if true mask bit = refl
shares-if false mask bit = shares-none bit

same_bit : (x y : ℕ) → x < 2 → y < 2 → (x == 1) ≡ (y == 1) → x ≡ y
same_bit x y p q same = grind (arith, nat_tests)

-- two masks of 32 bits with the same rights are one
pub same_masks : (a b : ℕ) → a < 2 ^ 32 → b < 2 ^ 32 → ((bit : ℕ) → bit < 32 → shares a (2 ^ bit) ≡ shares b (2 ^ bit))
    → a ≡ b
same_masks a b fits_a fits_b same =
    same_from_bits_below 32 a b fits_a fits_b (λ bit within.
    same_bit (bit_at a bit) (bit_at b bit) (bit_at-lt a bit) (bit_at-lt b bit)
    (sym (shares-bit a bit) ∙ same bit within ∙ shares-bit b bit))

and_left : (x y : Bool) → (x && y) ≡ true → x ≡ true
and_left true y is = refl
and_left false y is = is

and_right : (x y : Bool) → (x && y) ≡ true → y ≡ true
and_right true y is = is
and_right false y is = cc

last_or_less : (bit count : ℕ) → bit < suc count → (bit ≡ count) ⊎ (bit < count)
last_or_less bit count within =
    ⊎_elim (λ (less : bit < count). inr less) (λ (past : count ≤ bit). inl (omega arith)) (cases_lt bit count)

-- what holds of each right, by checks of all
pub all_rights-at : (count : ℕ) (test : ℕ → Bool) (bit : ℕ) → all_rights count test ≡ true → bit < count →
    test (2 ^ bit) ≡ true
unfolding all_rights
all_rights-at zero test bit all within = absurd (omega arith)
all_rights-at (suc count) test bit all within =
    ⊎_elim (λ (last : bit ≡ count). ap (λ b. test (2 ^ b)) last ∙ and_left _ _ all)
    (λ (less : bit < count). all_rights-at count test bit (and_right _ _ all) less)
    (last_or_less bit count within)

-- whether two tests answer alike
abbrev alike : Bool → Bool → Bool
alike true b = b
alike false b = not b

alike_same : (a b : Bool) → alike a b ≡ true → a ≡ b
alike_same true b is = sym is
alike_same false true is = cc
alike_same false false is = refl

-- two tests that answer alike at each right
pub by_checks : (p q : ℕ → Bool) → all_rights 32 (λ right. alike (p right) (q right)) ≡ true → (bit : ℕ) → bit < 32 →
    p (2 ^ bit) ≡ q (2 ^ bit)
by_checks p q all bit within = alike_same _ _ (all_rights-at 32 (λ right. alike (p right) (q right)) bit all within)

-- where all of the rights pass
pub passes_all : (count : ℕ) (test : ℕ → Bool) → ((bit : ℕ) → bit < count → test (2 ^ bit) ≡ true) →
    all_rights count test ≡ true
unfolding all_rights
passes_all zero test each = refl
passes_all (suc count) test each =
    rw (each count (omega arith)) (passes_all count test (λ bit within. each bit (omega arith)))

-- the rights of the mask of those that pass
pub mask_of-fits : (count : ℕ) (test : ℕ → Bool) → mask_of count test < 2 ^ count
unfolding mask_of
mask_of-fits zero test = omega arith
mask_of-fits (suc count) test =
    let rest : mask_of count test < 2 ^ count = mask_of-fits count test in
    let twice : 2 ^ suc count ≡ 2 ^ count * 2 = rw add-one at (pow_more 2 count) in
    elim (test (2 ^ count)) as (λ b. (if b then 2 ^ count else 0)
    + mask_of count test < 2 ^ suc count) [ true ↦ omega arith | false ↦ omega arith ]

product_of : (b : Bool) (n : ℕ) → (if b then n else 0) ≡ (if b then 1 else 0) * n
product_of true n = omega arith
product_of false n = omega arith

one_or_none : (b : Bool) → (bit_at (if b then 1 else 0) 0 == 1) ≡ b
one_or_none true = refl
one_or_none false = refl

pub shares-mask_of : (count : ℕ) (test : ℕ → Bool) (bit : ℕ) → bit < count → shares (mask_of count test) (2 ^ bit)
    ≡ test (2 ^ bit)
unfolding mask_of
shares-mask_of zero test bit within = absurd (omega arith)
shares-mask_of (suc count) test bit within =
    let rest : mask_of count test < 2 ^ count = mask_of-fits count test in
    let as_product : (if test (2 ^ count) then 2 ^ count else 0) + mask_of count test
    ≡ (if test (2 ^ count) then 1 else 0) * 2 ^ count + mask_of count test =
    ap (λ n. n + mask_of count test) (product_of (test (2 ^ count)) (2 ^ count)) in
    shares-bit _ bit
    ∙ ap (λ n. bit_at n bit == 1) as_product
    ∙ ⊎_elim (λ (last : bit ≡ count).
    ap (λ b. bit_at ((if test (2 ^ count) then 1 else 0) * 2 ^ count + mask_of count test) b == 1) last
    ∙ ap (λ n. n == 1) (bit_at_cat_high (if test (2 ^ count) then 1 else 0) count (mask_of count test) count rest
    (omega arith))
    ∙ (let none : count - count ≡ 0 = omega arith in ap (λ n. bit_at (if test (2 ^ count) then 1 else 0) n == 1) none)
    ∙ one_or_none (test (2 ^ count))
    ∙ ap (λ b. test (2 ^ b)) (sym last))
    (λ (less : bit < count).
    ap (λ n. n == 1) (bit_at_cat_low (if test (2 ^ count) then 1 else 0) count (mask_of count test) bit less)
    ∙ sym (shares-bit (mask_of count test) bit)
    ∙ shares-mask_of count test bit less)
    (last_or_less bit count within)

-- what a test of two masks for a bit in common says
pub shares_some : (mask other : ℕ) → ¬ (bit_and mask other ≡ 0) → shares mask other ≡ true
unfolding shares
shares_some mask other some = grind (arith, nat_tests)

pub shares_no : (mask other : ℕ) → bit_and mask other ≡ 0 → shares mask other ≡ false
unfolding shares
shares_no mask other none = rw none refl
