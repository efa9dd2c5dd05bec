-- Hexadecimal numbers of at most twelve digits
use Rattle.std.proofs.Common.{◌≡◌, ℕ, zero, suc, ◌+◌, ◌*◌, ◌/◌, ◌%◌, ◌^◌, ◌<◌, ◌≤◌, length, arith, refl, add-one, ◌∙◌}
use Rattle.std.proofs.Common.{lit<}
use Rattle.std.proofs.Math.Nat.{pow-le-pow_right}
use Rattle.std.proofs.lemmas.Int.Digits.{digits_push, digits_value_push}
use Rattle.std.proofs.lemmas.List.{length-append}
use Rattle.std.proofs.lemmas.Grind.{pow_more}
use Rattle.std.proofs.lemmas.Bool.Decides.{nat_tests}
use Rattle.std.specs.Char.{digit_char, digit_value}
use Rattle.std.specs.Str.Parse.{AllDigits, digits_value}
use Rattle.dtyp_sid.specs.Text.{hexadecimal}

-- a number of fewer than twelve hexadecimal digits has 44 bits
pub below_2_44 : (count number : ℕ) → count < 12 → number < 16 ^ count → number < 2 ^ 44
below_2_44 count number few below =
    let most : 16 ^ count ≤ 16 ^ 11 = (let le : count ≤ 11 = omega arith in pow-le-pow_right (lit< tt) le) in
    omega arith

-- what a digit is written as reads as that digit
pub digit_value-char : (digit : ℕ) → digit < 16 → digit_value (digit_char digit) ≡ digit
digit_value-char digit below = grind (arith, nat_tests)

pub hexadecimal_are_digits : (count number : ℕ) → AllDigits 16 (hexadecimal count number)
unfolding hexadecimal
hexadecimal_are_digits zero number = tt
hexadecimal_are_digits (suc count) number =
    digits_push 16 (hexadecimal count (number / 16)) _ (hexadecimal_are_digits count (number / 16))
    (rw (digit_value-char (number % 16) (omega arith)) (omega arith))

pub length-hexadecimal : (count number : ℕ) → length (hexadecimal count number) ≡ count
unfolding hexadecimal
length-hexadecimal zero number = refl
length-hexadecimal (suc count) number =
    length-append (hexadecimal count (number / 16)) _ ∙ omega (arith, length-hexadecimal count (number / 16))

-- the digits are those of the number
pub digits_value-hexadecimal : (count number : ℕ) → number < 16 ^ count → digits_value 16 (hexadecimal count number)
    ≡ number
unfolding hexadecimal
digits_value-hexadecimal zero number below = omega arith
digits_value-hexadecimal (suc count) number below =
    digits_value_push 16 (hexadecimal count (number / 16)) _
    ∙ (let power : 16 ^ (count + 1) ≡ 16 ^ count * 16 = pow_more 16 count in
    let high : number / 16 < 16 ^ count = omega (arith, rw add-one at power) in
    let front : digits_value 16 (hexadecimal count (number / 16)) ≡ number / 16 =
    digits_value-hexadecimal count (number / 16) high in
    let last : digit_value (digit_char (number % 16)) ≡ number % 16 = digit_value-char (number % 16) (omega arith) in
    omega arith)
