-- Where a text is parted.
use Rattle.std.proofs.Common.{◌≡◌, ℕ, suc, ◌+◌, ◌<◌, ◌≤◌, ◌==◌, Bool, true, false, List, [], ◌∷◌, ◌++◌, length, take}
use Rattle.std.proofs.Common.{drop, get_or, Some, refl, sym, ap, ◌∙◌, arith, inl, inr, nat_lt}
use Rattle.std.proofs.lemmas.Bool.{cases_Bool}
use Rattle.std.proofs.lemmas.Bool.Decides.{nat_tests}
use Rattle.std.proofs.Math.Seq.{drop-append-add}
use Rattle.std.proofs.lemmas.List.{length-append}
use Rattle.std.proofs.lemmas.List.Sums.{split_at_first, passes_at_first}
use Rattle.std.specs.Char.{digit_value}
use Rattle.std.specs.List.{list_any, before_first, after_first, position_or_len}
use Rattle.std.specs.Str.Parse.{AllDigits}
use Rattle.acct_base.specs.Words.{parted}

-- the separator stands after what has none
position_behind : (p : ℕ → Bool) (front : List ℕ) (c : ℕ) (rest : List ℕ) → list_any p front ≡ false → p c ≡ true →
    position_or_len p (front ++ c ∷ rest) ≡ length front
position_behind p [] c rest none is = rw is refl
position_behind p (b ∷ front) c rest none is =
    elim (cases_Bool (p b)) [
      | inl here ↦ absurd (let wrong = rw here at none in cc)
      | inr not ↦
          let more : list_any p front ≡ false = rw not at none in
          rw not (omega (arith, position_behind p front c rest more is))
    ]

take_front : (front rest : List ℕ) → take (length front) (front ++ rest) ≡ front
take_front [] rest = refl
take_front (b ∷ front) rest = ap (λ more. b ∷ more) (take_front front rest)

drop_front : (front : List ℕ) (c : ℕ) (rest : List ℕ) → drop (length front + 1) (front ++ c ∷ rest) ≡ rest
drop_front front c rest = drop-append-add front (c ∷ rest) 1

pub parted_at : (separator : ℕ) (front rest : List ℕ) → list_any (λ b. b == separator) front ≡ false →
    parted separator (front ++ separator ∷ rest) ≡ Some (front, rest)
parted_at separator front rest none =
    let is : (separator == separator) ≡ true = grind (arith, nat_tests) in
    let at = position_behind (λ b. b == separator) front separator rest none is in
    let inside : nat_lt (length front) (length (front ++ separator ∷ rest)) ≡ true =
    grind (arith, nat_tests, length-append) in
    rw (at, inside, take_front front (separator ∷ rest), drop_front front separator rest) refl

before_has_none : (p : ℕ → Bool) (text : List ℕ) → list_any p (before_first p text) ≡ false
before_has_none p [] = refl
before_has_none p (b ∷ text) =
    elim (cases_Bool (p b)) [
      | inl here ↦ rw here refl
      | inr other ↦
          let step : 1 + position_or_len p text ≡ suc (position_or_len p text) = omega arith in
          rw other (rw step (rw other (before_has_none p text)))
    ]

pub record IsParted (separator : ℕ) (text front rest : List ℕ) : Type 0 where
  pub spelled : text ≡ front ++ separator ∷ rest
  pub none : list_any (λ b. b == separator) front ≡ false

pub parted_is : (separator : ℕ) (text front rest : List ℕ) → parted separator text ≡ Some (front, rest) →
    IsParted separator text front rest
parted_is separator text front rest is =
    let p : ℕ → Bool = λ b. b == separator in
    elim (cases_Bool (nat_lt (position_or_len p text) (length text))) [
      | inl inside ↦
          let found : List ℕ × List ℕ = (before_first p text, after_first p text) in
          let both : found ≡ (front, rest) = (let some = rw inside at is in cc) in
          let fronts : before_first p text ≡ front = ap (λ pair. pair.0) both in
          let rests : after_first p text ≡ rest = ap (λ pair. pair.1) both in
          let below : position_or_len p text < length text = grind (arith, nat_tests) in
          let here : get_or text (position_or_len p text) 0 ≡ separator =
          (let passes = passes_at_first p text 0 below in grind (arith, nat_tests)) in
          record {
            spelled = split_at_first p text 0 below ∙ (λ i. fronts i ++ here i ∷ rests i);
            none = ap (list_any p) (sym fronts) ∙ before_has_none p text;
          }
      | inr not ↦ absurd (let none = rw not at is in cc)
    ]

-- no separator is a digit
pub digits_have_none : (separator radix : ℕ) (text : List ℕ) → radix ≤ digit_value separator → AllDigits radix text →
    list_any (λ b. b == separator) text ≡ false
digits_have_none separator radix [] high all = refl
digits_have_none separator radix (b ∷ text) high all =
    elim (cases_Bool (b == separator)) [
      | inl same ↦ absurd (let e : b ≡ separator = grind (arith, nat_tests) in
          let below : digit_value separator < radix = (rw (sym e) all.0) in omega arith)
      | inr not ↦ rw not (digits_have_none separator radix text high all.1)
    ]
