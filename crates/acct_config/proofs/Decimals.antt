-- Numbers in a text, and their digits.
use Rattle.std.proofs.Common.{◌≡◌, ℕ, zero, suc, ◌+◌, ◌-◌, ◌*◌, ◌/◌, ◌^◌, ◌<◌, ◌≤◌, ◌==◌, ◌&&◌, not, true, false, List}
use Rattle.std.proofs.Common.{[], ◌∷◌, ◌++◌, length, Some, refl, sym, ap, ◌∙◌, arith, inl, inr, nat_lt, nat_le, get_or}
use Rattle.std.proofs.lemmas.Bool.{cases_Bool, and_parts}
use Rattle.std.proofs.lemmas.Bool.Decides.{nat_tests}
use Rattle.std.proofs.lemmas.Fmt.{decimal_is_IsNumeral, decimal-digits_value, decimal_digit, decimal_step}
use Rattle.std.proofs.lemmas.Fmt.{length-decimal-le}
use Rattle.std.proofs.lemmas.Str.{digit_value_digit}
use Rattle.std.proofs.lemmas.Str.Parse.{IsNumeralModel, digit_from_value}
use Rattle.std.specs.Char.{digit_value, is_digit}
use Rattle.std.specs.Fmt.{decimal}
use Rattle.std.specs.Str.Parse.{AllDigits, digits_value, digits_value_after}
use Rattle.acct_base.specs.Words.{is_within, decimal_from, begins_with_zero, decimal_of}
use Rattle.acct_config.specs.Values.{hexadecimal_from}

own : IsNumeralModel (AllDigits 10) (digits_value 10)
own = record { to = λ ds h. h; from = λ ds h. h; same = λ ds h. refl }

-- the digits that are read in decimal
decimal_digits : (k : ℕ) (text : List ℕ) (n : ℕ) → decimal_from k text ≡ Some n → AllDigits 10 text
    × (digits_value_after 10 k text ≡ n)
decimal_digits k [] n read = (tt, cc)
decimal_digits k (b ∷ text) n read =
    elim (cases_Bool (is_within 48 57 b)) [
      | inl is ↦
          let rest : decimal_from (10 * k + (b - 48)) text ≡ Some n = rw is at read in
          let more = decimal_digits (10 * k + (b - 48)) text n rest in
          let low : 48 ≤ b = grind (arith, nat_tests) in
          let high : b ≤ 57 = grind (arith, nat_tests) in
          let digit : digit_value b ≡ b - 48 = grind (arith, nat_tests) in
          let same : k * 10 + digit_value b ≡ 10 * k + (b - 48) = omega arith in
          ((omega arith, more.0), ap (λ m. digits_value_after 10 m text) same ∙ more.1)
      | inr not ↦ absurd (let none = rw not at read in cc)
    ]

-- and those that are read in hexadecimal
pub hexadecimal_digits : (k : ℕ) (text : List ℕ) (n : ℕ) → hexadecimal_from k text ≡ Some n → AllDigits 16 text
    × (digits_value_after 16 k text ≡ n)
hexadecimal_digits k [] n read = (tt, cc)
hexadecimal_digits k (b ∷ text) n read =
    elim (cases_Bool (is_digit b 16)) [
      | inl is ↦
          let rest : hexadecimal_from (k * 16 + digit_value b) text ≡ Some n = rw is at read in
          let more = hexadecimal_digits (k * 16 + digit_value b) text n rest in
          let below : digit_value b < 16 = grind (arith, nat_tests) in
          ((below, more.0), more.1)
      | inr not ↦ absurd (let none = rw not at read in cc)
    ]

-- digits are read
digits_decimal_from : (k : ℕ) (text : List ℕ) → AllDigits 10 text → decimal_from k text
    ≡ Some (digits_value_after 10 k text)
digits_decimal_from k [] all = refl
digits_decimal_from k (b ∷ text) all =
    let digit = digit_value_digit b (digit_from_value b all.0) in
    let range = digit_from_value b all.0 in
    let is : is_within 48 57 b ≡ true = grind (arith, nat_tests) in
    let same : 10 * k + (b - 48) ≡ k * 10 + digit_value b = omega (arith, all.0) in
    rw (is, same) (digits_decimal_from (k * 10 + digit_value b) text all.1)

pub digits_hexadecimal_from : (k : ℕ) (text : List ℕ) → AllDigits 16 text → hexadecimal_from k text
    ≡ Some (digits_value_after 16 k text)
digits_hexadecimal_from k [] all = refl
digits_hexadecimal_from k (b ∷ text) all =
    let below : digit_value b < 16 = all.0 in
    let is : is_digit b 16 ≡ true = grind (arith, nat_tests) in
    rw is (digits_hexadecimal_from (k * 16 + digit_value b) text all.1)

begins-append : (front rest : List ℕ) → 0 < length front → begins_with_zero (front ++ rest) ≡ begins_with_zero front
begins-append [] rest some = absurd (omega arith)
begins-append (b ∷ front) rest some = refl

-- a written number begins with a zero only where it is 0
begins_without_zero : (k n : ℕ) → n ≤ k → 0 < n → n < 2 ^ 64 → begins_with_zero (decimal n) ≡ false
begins_without_zero zero n le some small = absurd (omega arith)
begins_without_zero (suc k) n le some small =
    elim (cases_Bool (nat_lt n 10)) [
      | inl low ↦ let below : n < 10 = grind (arith, nat_tests) in rw (decimal_digit n below) (grind (arith, nat_tests))
      | inr high ↦
          let above : 10 ≤ n = grind (arith, nat_tests) in
          let front : 0 < length (decimal (n / 10)) = (decimal_is_IsNumeral (n / 10) (omega arith)).0.0 in
          rw (decimal_step n above small)
          (begins-append (decimal (n / 10)) _ front
          ∙ begins_without_zero k (n / 10) (omega arith) (omega arith) (omega arith))
    ]

leads : (n : ℕ) → n < 2 ^ 64 → (begins_with_zero (decimal n) && nat_lt 1 (length (decimal n))) ≡ false
leads zero small = rw (decimal_digit 0 (omega arith)) refl
leads (suc n) small = rw (begins_without_zero (suc n) (suc n) (omega arith) (omega arith) small) refl

-- a written number is read
pub decimal_of-decimal : (most n : ℕ) → 0 < most → n < 10 ^ most → n < 2 ^ 64 → decimal_of most (decimal n) ≡ Some n
unfolding decimal_of
decimal_of-decimal most n some below small =
    let numeral = decimal_is_IsNumeral n small in
    let there : 0 < length (decimal n) = numeral.0.0 in
    let few : length (decimal n) ≤ most = length-decimal-le most n some below small in
    let within : is_within 1 most (length (decimal n)) ≡ true = grind (arith, nat_tests) in
    rw (within, leads n small) (digits_decimal_from 0 (decimal n) numeral.0.1 ∙ ap (λ m. Some m) numeral.1)

leading : (text : List ℕ) → 0 < length text → not (begins_with_zero text && nat_lt 1 (length text)) ≡ true →
    get_or text 0 0 ≡ 48 → length text ≡ 1
leading [] some lead is = absurd (omega arith)
leading (b ∷ []) some lead is = refl
leading (b ∷ c ∷ text) some lead is =
    let begins : (b == 48) ≡ true = grind (arith, nat_tests) in
    let long : nat_lt 1 (length (b ∷ c ∷ text)) ≡ true = grind (arith, nat_tests) in
    let wrong : false ≡ true = rw (begins, long) at lead in
    absurd (cc)

-- what is read is the written number
pub decimal_of-is : (most : ℕ) (text : List ℕ) (n : ℕ) → decimal_of most text ≡ Some n → n < 2 ^ 64 → text ≡ decimal n
unfolding decimal_of
decimal_of-is most text n read small =
    elim (cases_Bool (is_within 1 most (length text) && not (begins_with_zero text && nat_lt 1 (length text)))) [
      | inl is ↦
          let rest : decimal_from 0 text ≡ Some n = rw is at read in
          let digits = decimal_digits 0 text n rest in
          let both = and_parts (is_within 1 most (length text))
          (not (begins_with_zero text && nat_lt 1 (length text))) is in
          let low = and_parts (nat_le 1 (length text)) (nat_le (length text) most) both.0 in
          let some : 0 < length text = grind (arith, nat_tests) in
          let lead : get_or text 0 0 ≡ 48 → length text ≡ 1 = λ zero. leading text some both.1 zero in
          sym (ap decimal (sym digits.1) ∙ decimal-digits_value own text digits.0 some lead (omega (arith, digits.1)))
      | inr not ↦ absurd (let none = rw not at read in cc)
    ]
