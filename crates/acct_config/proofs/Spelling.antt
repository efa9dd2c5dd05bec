-- Addresses and entries are read exactly from the texts of their grammar.
use Rattle.std.proofs.Common.{◌≡◌, ℕ, ◌≤◌, ◌==◌, ◌&&◌, Bool, true, false, codes, List, [], ◌∷◌, ◌++◌, length, drop}
use Rattle.std.proofs.Common.{Option, Some, None, refl, ap, ◌∙◌, arith, inl, inr, nat_le, nat_eq}
use Rattle.std.proofs.lemmas.Bool.{cases_Bool, and_parts}
use Rattle.std.proofs.lemmas.Bool.Decides.{nat_tests}
use Rattle.std.proofs.lemmas.Fmt.{decimal_is_IsNumeral}
use Rattle.std.proofs.lemmas.Slice.Eq.{bytes_eq-Decides}
use Rattle.std.specs.Fmt.{decimal}
use Rattle.std.specs.List.{list_any, starts_with}
use Rattle.std.specs.Prelude.{option_and_then, if◌then◌else◌}
use Rattle.std.specs.Str.{bytes_eq}
use Rattle.std.specs.Str.Parse.{AllDigits, digits_value}
use Rattle.dtyp_sid.specs.Reading.{sid_of_text, ReadTextsAreTexts}
use Rattle.dtyp_sid.specs.Sids.{SidValue}
use Rattle.dtyp_access.specs.declared.ace.Ace.{Ace}
use Rattle.dtyp_access.specs.declared.ace.AceKind.{AceKind}
use Rattle.dtyp_access.specs.declared.ace.AceKind.TheVariants.{Allow, Deny}
use Rattle.acct_config.proofs.Decimals.{hexadecimal_digits, digits_hexadecimal_from, decimal_of-decimal, decimal_of-is}
use Rattle.acct_config.proofs.Parts.{parted_at, IsParted, parted_is, digits_have_none}
use Rattle.acct_config.specs.Values.{kind_of_word, mask_of_word, up_to_255, flags_of_word, ace_of, ace_behind_mask}
use Rattle.acct_config.specs.Values.{ace_behind_kind, ace_of_parts, ace_of_text, hexadecimal_from}
use Rattle.acct_config.specs.Grammar.{word_of_kind, IsEntry, EntriesAreSpelled}
use Rattle.acct_base.specs.Words.{parted, decimal_of}

-- what an answer of a test says
some_if : {X : Type 0} (b : Bool) (o : Option X) (x : X) → (if b then o else None) ≡ Some x → (b ≡ true) × (o ≡ Some x)
some_if true o x is = (refl, is)
some_if false o x is = absurd (cc)

equal_words : (word other : List ℕ) → bytes_eq word other ≡ true → word ≡ other
equal_words word other is = (bytes_eq-Decides word other).0 is

-- the words of an entry
kind-is : (word : List ℕ) (kind : AceKind) (rest : List ℕ) → kind_of_word word ≡ Some kind → word ++ 32 ∷ rest
    ≡ word_of_kind kind ++ rest
unfolding kind_of_word
kind-is word kind rest is =
    elim (cases_Bool (bytes_eq word (codes "allow"))) [
      | inl allow ↦
          let same : Some Allow ≡ Some kind = rw allow at is in
          let at : Allow ≡ kind = cc in
          rw (equal_words word (codes "allow") allow, ← at) refl
      | inr other ↦
          let more = some_if (bytes_eq word (codes "deny")) (Some Deny) kind (rw other at is) in
          let at : Deny ≡ kind = (let some = more.1 in cc) in
          rw (equal_words word (codes "deny") more.0, ← at) refl
    ]

record IsMask (word : List ℕ) (mask : ℕ) : Type 0 where
  pub digits : List ℕ
  pub eight : length digits ≡ 8
  pub are_digits : AllDigits 16 digits
  pub value : digits_value 16 digits ≡ mask
  pub spelled : word ≡ codes "0x" ++ digits

mask-word : (word : List ℕ) → (length word == 10) ≡ true → starts_with nat_eq word (codes "0x") ≡ true →
    (length (drop 2 word) ≡ 8) × (word ≡ codes "0x" ++ drop 2 word)
mask-word [] ten starts = absurd (cc)
mask-word (a ∷ []) ten starts = absurd (cc)
mask-word (a ∷ b ∷ word) ten starts =
    let eight : length word ≡ 8 = grind (arith, nat_tests) in
    let first : a ≡ 48 = grind (arith, nat_tests) in
    let second : b ≡ 120 = grind (arith, nat_tests) in
    (eight, λ i. first i ∷ second i ∷ word)

mask-is : (word : List ℕ) (mask : ℕ) → mask_of_word word ≡ Some mask → IsMask word mask
unfolding mask_of_word
mask-is word mask is =
    let found = some_if ((length word == 10) && starts_with nat_eq word (codes "0x"))
    (hexadecimal_from 0 (drop 2 word)) mask is in
    let both = and_parts (length word == 10) (starts_with nat_eq word (codes "0x")) found.0 in
    let parts = mask-word word both.0 both.1 in
    let digits = hexadecimal_digits 0 (drop 2 word) mask found.1 in
    record { digits = drop 2 word; eight = parts.0; are_digits = digits.0; value = digits.1; spelled = parts.1 }

flags-is : (word : List ℕ) (flags : ℕ) → flags_of_word word ≡ Some flags → (flags ≤ 255) × (word ≡ decimal flags)
unfolding flags_of_word
flags-is word flags is = by (decimal_of 3 word) refl is
  where
    by : (o : Option ℕ) → decimal_of 3 word ≡ o → option_and_then up_to_255 o ≡ Some flags → (flags ≤ 255)
        × (word ≡ decimal flags)
    by None at some = absurd (cc)
    by (Some n) at some =
        let found = some_if (nat_le n 255) (Some n) flags some in
        let same : n ≡ flags = (let e = found.1 in cc) in
        let tested = found.0 in
        let low : n ≤ 255 = grind (arith, nat_tests) in
        (omega arith, decimal_of-is 3 word n at (omega arith) ∙ ap decimal same)

record ArePartsOf (ace : Ace) (kind : Option AceKind) (mask flags : Option ℕ) (sid : Option SidValue) : Type 0 where
  pub kind_is : kind ≡ Some ace.kind
  pub mask_is : mask ≡ Some ace.mask
  pub flags_is : flags ≡ Some ace.flags
  pub sid_is : sid ≡ Some ace.sid

parts-are : (ace : Ace) (kind : Option AceKind) (mask flags : Option ℕ) (sid : Option SidValue) →
    ace_of kind mask flags sid ≡ Some ace → ArePartsOf ace kind mask flags sid
parts-are ace None mask flags sid is = absurd (cc)
parts-are ace (Some kind) None flags sid is = absurd (cc)
parts-are ace (Some kind) (Some mask) None sid is = absurd (cc)
parts-are ace (Some kind) (Some mask) (Some flags) None is = absurd (cc)
parts-are ace (Some kind) (Some mask) (Some flags) (Some sid) is =
    let same : record { kind = kind; flags = flags; mask = mask; sid = sid } ≡ ace = cc in
    record {
      kind_is = ap (λ a. Some a.kind) same;
      mask_is = ap (λ a. Some a.mask) same;
      flags_is =
          ap (λ a. Some a.flags) same;
      sid_is = ap (λ a. Some a.sid) same;
    }

entry : ReadTextsAreTexts → (text kind rest mask more flags sid : List ℕ) (ace : Ace) → IsParted 32 text kind rest →
    IsParted 32 rest mask more → IsParted 32 more flags sid
    → ArePartsOf ace (kind_of_word kind) (mask_of_word mask) (flags_of_word flags) (sid_of_text sid) → IsEntry text ace
entry law text kind rest mask more flags sid ace first second third parts =
    let masked = mask-is mask ace.mask parts.mask_is in
    let flagged = flags-is flags ace.flags parts.flags_is in
    record {
      digits = masked.digits;
      sid = sid;
      eight = masked.eight;
      are_digits = masked.are_digits;
      mask = masked.value;
      flags = flagged.0;
      is_text = (law sid ace.sid).0 parts.sid_is;
      spelled =
          first.spelled ∙ kind-is kind ace.kind rest parts.kind_is
          ∙ ap (λ t. word_of_kind ace.kind ++ t)
          (second.spelled ∙ ap (λ t. t ++ 32 ∷ more) masked.spelled
          ∙ ap (λ t. codes "0x" ++ (masked.digits ++ 32 ∷ t)) (third.spelled ∙ ap (λ t. t ++ 32 ∷ sid) flagged.1));
    }

behind_mask : ReadTextsAreTexts → (text kind rest mask more : List ℕ) (ace : Ace) → IsParted 32 text kind rest →
    IsParted 32 rest mask more → (o : Option (List ℕ × List ℕ)) → parted 32 more ≡ o
    → ace_behind_mask kind mask o ≡ Some ace → IsEntry text ace
behind_mask law text kind rest mask more ace first second None at is = absurd (cc)
behind_mask law text kind rest mask more ace first second (Some (flags, sid)) at is =
    entry law text kind rest mask more flags sid ace first second (parted_is 32 more flags sid at)
    (parts-are ace (kind_of_word kind) (mask_of_word mask) (flags_of_word flags) (sid_of_text sid) is)

behind_kind : ReadTextsAreTexts → (text kind rest : List ℕ) (ace : Ace) → IsParted 32 text kind rest →
    (o : Option (List ℕ × List ℕ)) → parted 32 rest ≡ o
    → ace_behind_kind kind o ≡ Some ace → IsEntry text ace
behind_kind law text kind rest ace first None at is = absurd (cc)
behind_kind law text kind rest ace first (Some (mask, more)) at is =
    behind_mask law text kind rest mask more ace first (parted_is 32 rest mask more at) (parted 32 more) refl is

of_parts : ReadTextsAreTexts → (text : List ℕ) (ace : Ace) (o : Option (List ℕ × List ℕ)) → parted 32 text ≡ o →
    ace_of_parts o ≡ Some ace → IsEntry text ace
of_parts law text ace None at is = absurd (cc)
of_parts law text ace (Some (kind, rest)) at is =
    behind_kind law text kind rest ace (parted_is 32 text kind rest at) (parted 32 rest) refl is

-- the other way
kind-parted : (kind : AceKind) (rest : List ℕ) → (word : List ℕ)
    × (parted 32 (word_of_kind kind ++ rest) ≡ Some (word, rest)) × (kind_of_word word ≡ Some kind)
unfolding kind_of_word
kind-parted Allow rest = (codes "allow", parted_at 32 (codes "allow") rest refl, refl)
kind-parted Deny rest = (codes "deny", parted_at 32 (codes "deny") rest refl, refl)

mask-word-is : (digits : List ℕ) (mask : ℕ) → length digits ≡ 8 → AllDigits 16 digits → digits_value 16 digits ≡ mask →
    mask_of_word (codes "0x" ++ digits) ≡ Some mask
unfolding mask_of_word
mask-word-is digits mask eight are value =
    let ten : (length (codes "0x" ++ digits) == 10) ≡ true = grind (arith, nat_tests) in
    rw ten (digits_hexadecimal_from 0 digits are ∙ ap (λ m. Some m) value)

flags-word-is : (flags : ℕ) → flags ≤ 255 → flags_of_word (decimal flags) ≡ Some flags
unfolding flags_of_word
flags-word-is flags low =
    let is : nat_le flags 255 ≡ true = grind (arith, nat_tests) in
    rw (decimal_of-decimal 3 flags (omega arith) (omega arith) (omega arith)) (rw is refl)

spelled : ReadTextsAreTexts → (text : List ℕ) (ace : Ace) → IsEntry text ace → ace_of_text text ≡ Some ace
unfolding ace_of_text
spelled law text ace is =
    let behind : List ℕ = decimal ace.flags ++ 32 ∷ is.sid in
    let rest : List ℕ = (codes "0x" ++ is.digits) ++ 32 ∷ behind in
    let kind = kind-parted ace.kind rest in
    let mask_free : list_any (λ b. b == 32) (codes "0x" ++ is.digits) ≡ false =
    digits_have_none 32 16 is.digits (omega arith) is.are_digits in
    let flags_free : list_any (λ b. b == 32) (decimal ace.flags) ≡ false =
    digits_have_none 32 10 (decimal ace.flags) (omega arith)
    (decimal_is_IsNumeral ace.flags (let low = is.flags in omega arith)).0.1 in
    let first : parted 32 text ≡ Some (kind.0, rest) = ap (parted 32) is.spelled ∙ kind.1 in
    let second : parted 32 rest ≡ Some (codes "0x" ++ is.digits, behind) =
    parted_at 32 (codes "0x" ++ is.digits) behind mask_free in
    let third : parted 32 behind ≡ Some (decimal ace.flags, is.sid) =
    parted_at 32 (decimal ace.flags) is.sid flags_free in
    let sid : sid_of_text is.sid ≡ Some ace.sid = (law is.sid ace.sid).1 is.is_text in
    rw first (rw second (rw third (rw (
      kind.2,
      mask-word-is is.digits ace.mask is.eight is.are_digits is.mask,
      flags-word-is ace.flags is.flags,
      sid,
    ) refl)))

pub entries_spelled : ReadTextsAreTexts → EntriesAreSpelled
unfolding ace_of_text
entries_spelled law text ace = (λ read. of_parts law text ace (parted 32 text) refl read, spelled law text ace)
