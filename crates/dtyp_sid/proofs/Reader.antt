-- What the reader of texts makes of the pieces of a text
use Rattle.std.proofs.Common.{◌≡◌, ℕ, suc, ◌+◌, ◌*◌, ◌/◌, ◌%◌, ◌^◌, ◌<◌, ◌≤◌, ◌⊎◌, inl, inr, List, [], ◌∷◌, ◌++◌}
use Rattle.std.proofs.Common.{length, arith, refl, sym, ap, ◌∙◌, Some, None, All, codes, append_assoc, subst}
use Rattle.std.specs.Prelude.{option_and_then, option_map}
use Rattle.std.specs.Char.{digit_value}
use Rattle.std.specs.Fmt.{decimal}
use Rattle.std.specs.Str.Parse.{AllDigits, digits_value, digits_value_after}
use Rattle.std.proofs.lemmas.Fmt.{decimal_by_steps}
use Rattle.std.proofs.lemmas.Bool.Decides.{nat_tests}
use Rattle.std.proofs.lemmas.List.{append-nil, length-append}
use Rattle.dtyp_sid.specs.Sids.{SidValue, with_last, authority_alone}
use Rattle.dtyp_sid.specs.Text.{IsText, IsDecimalAuthority, IsHexadecimalAuthority, subs_text}
use Rattle.dtyp_sid.specs.Reading.{first_digit, more_digits, stage_after, read_on, finished}
use Rattle.dtyp_sid.specs.declared.reading.Stage.{Stage}
use Rattle.dtyp_sid.specs.declared.reading.Stage.TheVariants.{Opening, Decimal, Hexadecimal, Dashed, Sub}

-- joined bytes are read one after the other
pub read_on-append : (stage : Stage) (xs ys : List ℕ) → read_on stage (xs ++ ys)
    ≡ option_and_then (λ next. read_on next ys) (read_on stage xs)
read_on-append stage [] ys = refl
read_on-append stage (x ∷ xs) ys =
    elim (stage_after stage x) as (λ o. option_and_then (λ next. read_on next (xs ++ ys)) o
    ≡ option_and_then (λ next. read_on next ys) (option_and_then (λ next. read_on next xs) o))
    [ None ↦ refl | Some next ↦ read_on-append next xs ys ]

-- where the first bytes are read, the others are read from there
pub read_on-from : (stage next : Stage) (xs ys : List ℕ) → read_on stage xs ≡ Some next → read_on stage (xs ++ ys)
    ≡ read_on next ys
read_on-from stage next xs ys read = read_on-append stage xs ys ∙ ap (option_and_then (λ n. read_on n ys)) read

pub first_digit_of : (digit : ℕ) → digit < 10 → first_digit (48 + digit) ≡ Some digit
first_digit_of digit below = grind (arith, nat_tests)

pub more_digits_of : (number digit : ℕ) → 1 ≤ number → digit < 10 → number * 10 + digit < 2 ^ 32 →
    more_digits number (48 + digit) ≡ Some (number * 10 + digit)
more_digits_of number digit some below fits = grind (arith, nat_tests)

-- a decimal number is read digit by digit, by a stage that waits for its first digit and those that have some
pub record ReadsDigits (start : Stage) (made : ℕ → Stage) : Type 0 where
  pub first : (byte : ℕ) → stage_after start byte ≡ option_map made (first_digit byte)
  pub more : (number digit : ℕ) → 1 ≤ number → digit < 10 → stage_after (made number) (48 + digit)
      ≡ option_map made (more_digits number (48 + digit))

pub read_decimal : (start : Stage) (made : ℕ → Stage) → ReadsDigits start made → (n : ℕ) → n < 2 ^ 32 →
    read_on start (decimal n) ≡ Some (made n)
read_decimal start made reads n fits =
    decimal_by_steps (λ n ds. n < 2 ^ 32 → read_on start ds ≡ Some (made n))
    (λ n one _. ap (option_and_then (λ next. Some next))
    (reads.first (48 + n) ∙ ap (option_map made) (first_digit_of n one)))
    (λ n ds ten front fits.
    let number : n / 10 * 10 + n % 10 ≡ n = omega arith in
    let some : 1 ≤ n / 10 = omega arith in
    let below : n % 10 < 10 = omega arith in
    read_on-from start (made (n / 10)) ds _ (front (omega arith))
    ∙ ap (option_and_then (λ next. Some next))
    (reads.more (n / 10) (n % 10) some below
    ∙ ap (option_map made) (more_digits_of (n / 10) (n % 10) some below (omega arith)))
    ∙ ap (λ m. Some (made m)) number)
    n (omega arith) fits

reads_authority : ReadsDigits (Opening 4) Decimal
unfolding stage_after
reads_authority = record { first = λ byte. refl; more = λ number digit some below. grind (arith, nat_tests) }

reads_sub : (sid : SidValue) → ReadsDigits (Dashed sid) (Sub sid)
unfolding stage_after
reads_sub sid = record { first = λ byte. refl; more = λ number digit some below. grind (arith, nat_tests) }

after_hexadecimal : (count number digit : ℕ) → count < 12 → digit_value digit < 16
    → stage_after (Hexadecimal count number) digit ≡ Some (Hexadecimal (count + 1) (number * 16 + digit_value digit))
unfolding stage_after
after_hexadecimal count number digit room is = grind (arith, nat_tests)

-- the digits of an authority in hexadecimal are read
pub read_hexadecimal : (count number : ℕ) (digits : List ℕ) → AllDigits 16 digits → count + length digits ≤ 12
    → read_on (Hexadecimal count number) digits
    ≡ Some (Hexadecimal (count + length digits) (digits_value_after 16 number digits))
read_hexadecimal count number [] are fit = let same : count ≡ count + 0 = omega arith in
    ap (λ n. Some (Hexadecimal n number)) same
read_hexadecimal count number (digit ∷ digits) are fit =
    ap (option_and_then (λ next. read_on next digits)) (after_hexadecimal count number digit (omega arith) are.0)
    ∙ read_hexadecimal (count + 1) (number * 16 + digit_value digit) digits are.1 (omega arith)
    ∙ (let same : count + 1 + length digits ≡ count + suc (length digits) = omega arith in
    ap (λ n. Some (Hexadecimal n (digits_value_after 16 number (digit ∷ digits)))) same)

-- a stage at which a text may end: its SID, and that a dash goes on with that SID
pub record EndsWith (stage : Stage) (sid : SidValue) : Type 0 where
  pub finishes : finished stage ≡ Some sid
  pub dashes : length sid.subs < 15 → stage_after stage 45 ≡ Some (Dashed sid)

ends_decimal : (n : ℕ) → EndsWith (Decimal n) (authority_alone n)
unfolding stage_after finished
ends_decimal n = record { finishes = refl; dashes = λ room. refl }

ends_hexadecimal : (n : ℕ) → EndsWith (Hexadecimal 12 n) (authority_alone n)
unfolding stage_after finished
ends_hexadecimal n = record { finishes = refl; dashes = λ room. refl }

ends_sub : (sid : SidValue) (n : ℕ) → EndsWith (Sub sid n) (with_last sid n)
unfolding stage_after finished
ends_sub sid n = record {
  finishes = refl;
  dashes = λ room. let less : length sid.subs < 14 = omega (arith, length-append sid.subs (n ∷ [])) in
      grind (arith, nat_tests);
}

-- the sub-authorities are read one after another
pub record ReadsTo (stage : Stage) (text : List ℕ) (sid : SidValue) : Type 0 where
  pub last : Stage
  pub read : read_on stage text ≡ Some last
  pub ends : EndsWith last sid

-- the SID with more sub-authorities at its end
abbrev pub with_more : SidValue → List ℕ → SidValue
with_more sid subs = record { authority = sid.authority; subs = sid.subs ++ subs }

pub read_subs : (subs : List ℕ) (stage : Stage) (sid : SidValue) → EndsWith stage sid → length sid.subs
    + length subs ≤ 15 → All (λ sub. sub < 2 ^ 32) subs
    → ReadsTo stage (subs_text subs) (with_more sid subs)
unfolding subs_text
read_subs [] stage sid ends fit below = record {
  last = stage;
  read = refl;
  ends = let none : sid.subs ≡ sid.subs ++ [] = sym (append-nil sid.subs) in
      subst (λ (subs : List ℕ). EndsWith stage (record { authority = sid.authority; subs = subs })) none ends;
}
read_subs (sub ∷ subs) stage sid ends fit below =
    let rest = read_subs subs (Sub sid sub) (with_last sid sub) (ends_sub sid sub)
    (omega (arith, length-append sid.subs (sub ∷ []))) (λ k d within. below (suc k) d (omega arith)) in
    record {
      last = rest.last;
      read =
          ap (option_and_then (λ next. read_on next (decimal sub ++ subs_text subs))) (ends.dashes (omega arith))
          ∙ read_on-from (Dashed sid) (Sub sid sub) (decimal sub) (subs_text subs)
          (read_decimal (Dashed sid) (Sub sid) (reads_sub sid) sub (below 0 0 (omega arith)))
          ∙ rest.read;
      ends = let same : (sid.subs ++ sub ∷ []) ++ subs ≡ sid.subs ++ (sub ∷ subs) =
          append_assoc sid.subs (sub ∷ []) subs in
          subst (λ (subs : List ℕ). EndsWith rest.last (record { authority = sid.authority; subs = subs })) same
          rest.ends;
    }

-- the stage at which the authority's text ends
read_authority : (text : List ℕ) (authority : ℕ) →
    IsDecimalAuthority text authority ⊎ IsHexadecimalAuthority text authority →
    ReadsTo (Opening 4) text (authority_alone authority)
unfolding stage_after
read_authority text authority (inl decimal') = record {
  last = Decimal authority;
  read = ap (read_on (Opening 4)) decimal'.spelled
      ∙ read_decimal (Opening 4) Decimal reads_authority authority decimal'.fits;
  ends = ends_decimal authority;
}
read_authority text authority (inr hex) =
    let all : 0 + length hex.digits ≡ 12 = omega (arith, hex.twelve) in
    record {
      last = Hexadecimal 12 authority;
      read =
          ap (read_on (Opening 4)) hex.spelled
          ∙ read_hexadecimal 0 0 hex.digits hex.are_digits (omega arith)
          ∙ ap (λ n. Some (Hexadecimal n (digits_value 16 hex.digits))) all
          ∙ ap (λ n. Some (Hexadecimal 12 n)) hex.number;
      ends = ends_hexadecimal authority;
    }

-- each text of a SID is read to its end, and gives the SID
pub reads_text : (text : List ℕ) (sid : SidValue) → IsText text sid → ReadsTo (Opening 0) text sid
unfolding stage_after
reads_text text sid is =
    let head = read_authority is.authority sid.authority is.is_authority in
    let tail = read_subs sid.subs head.last (authority_alone sid.authority) head.ends
    (omega (arith, is.limits.count_fits)) is.limits.subs_fit in
    record {
      last = tail.last;
      read =
          ap (read_on (Opening 0)) (is.spelled ∙ append_assoc (codes "S-1-") is.authority (subs_text sid.subs))
          ∙ read_on-from (Opening 4) head.last is.authority (subs_text sid.subs) head.read
          ∙ tail.read;
      ends = tail.ends;
    }
