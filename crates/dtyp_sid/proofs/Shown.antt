-- What text stands after each stage of the reader
use Rattle.std.proofs.Common.{◌≡◌, ℕ, ◌+◌, ◌-◌, ◌*◌, ◌/◌, ◌%◌, ◌^◌, ◌<◌, ◌≤◌, ◌⊎◌, inl, inr, ⊎_elim, List, [], ◌∷◌}
use Rattle.std.proofs.Common.{◌++◌, length, take, arith, refl, sym, ap, ◌∙◌, Option, Some, None, codes, append_assoc}
use Rattle.std.proofs.Common.{subst, Bool, true, false}
use Rattle.std.specs.Prelude.{option_and_then, option_map, nat_lt, if◌then◌else◌, slice_index, ◌==◌, ◌&&◌}
use Rattle.std.specs.Char.{digit_value}
use Rattle.std.specs.Fmt.{decimal}
use Rattle.std.specs.Str.Parse.{AllDigits, digits_value}
use Rattle.std.proofs.lemmas.Fmt.{decimal_digit, decimal_step}
use Rattle.std.proofs.lemmas.Grind.{flat_map-append}
use Rattle.std.proofs.lemmas.Bool.Decides.{nat_tests}
use Rattle.std.proofs.lemmas.List.{append-nil, length-append, take_more}
use Rattle.std.proofs.lemmas.List.Elements.{All-push}
use Rattle.std.proofs.lemmas.Int.Digits.{digits_push, digits_value_push, digits_value-lt}
use Rattle.dtyp_sid.specs.Sids.{SidValue, with_last, authority_alone}
use Rattle.dtyp_sid.specs.Text.{IsText, IsDecimalAuthority, IsHexadecimalAuthority, subs_text}
use Rattle.dtyp_sid.specs.Reading.{first_digit, more_digits, stage_after, read_on, finished}
use Rattle.dtyp_sid.specs.declared.reading.Stage.{Stage}
use Rattle.dtyp_sid.specs.declared.reading.Stage.TheVariants.{Opening, Decimal, Hexadecimal, Dashed, Sub}

pub record ShowsHexadecimal (count number : ℕ) (text : List ℕ) : Type 0 where
  pub digits : List ℕ
  pub few : count ≤ 12
  pub as_many : length digits ≡ count
  pub are_digits : AllDigits 16 digits
  pub value : digits_value 16 digits ≡ number
  pub spelled : text ≡ codes "S-1-0x" ++ digits

pub record ShowsDashed (sid : SidValue) (text : List ℕ) : Type 0 where
  pub front : List ℕ
  pub is : IsText front sid
  pub room : length sid.subs < 15
  pub spelled : text ≡ front ++ codes "-"

pub record ShowsSub (sid : SidValue) (number : ℕ) (text : List ℕ) : Type 0 where
  pub front : List ℕ
  pub is : IsText front sid
  pub room : length sid.subs < 15
  pub fits : number < 2 ^ 32
  pub spelled : text ≡ front ++ (codes "-" ++ decimal number)

-- the text that stands after a stage
abbrev pub Shows : Stage → List ℕ → Type 0
Shows (Opening count) text = (count ≤ 4) × (text ≡ take count (codes "S-1-"))
Shows (Decimal number) text = (number < 2 ^ 32) × (text ≡ codes "S-1-" ++ decimal number)
Shows (Hexadecimal count number) text = ShowsHexadecimal count number text
Shows (Dashed sid) text = ShowsDashed sid text
Shows (Sub sid number) text = ShowsSub sid number text

-- the text of an authority alone
pub alone_text : (head : List ℕ) (authority : ℕ) → authority < 2 ^ 48 →
    IsDecimalAuthority head authority ⊎ IsHexadecimalAuthority head authority →
    IsText (codes "S-1-" ++ head) (authority_alone authority)
unfolding subs_text
alone_text head authority fits is = record {
  limits = record { authority_fits = fits; count_fits = omega arith; subs_fit = λ k d within. absurd (omega arith) };
  authority = head;
  is_authority = is;
  spelled = sym (append-nil (codes "S-1-" ++ head));
}

-- the text of a SID with one more sub-authority
pub more_text : (front : List ℕ) (sid : SidValue) (sub : ℕ) → IsText front sid → length sid.subs < 15 → sub < 2 ^ 32 →
    IsText (front ++ (codes "-" ++ decimal sub)) (with_last sid sub)
unfolding subs_text
more_text front sid sub is room fits = record {
  limits = record {
    authority_fits = is.limits.authority_fits;
    count_fits = omega (arith, length-append sid.subs (sub ∷ []));
    subs_fit = All-push (λ sub. sub < 2 ^ 32) sid.subs sub is.limits.subs_fit fits;
  };
  authority = is.authority;
  is_authority = is.is_authority;
  spelled =
      let one : subs_text (sub ∷ []) ≡ codes "-" ++ decimal sub = append-nil (codes "-" ++ decimal sub) in
      let joined : subs_text (sid.subs ++ sub ∷ []) ≡ subs_text sid.subs ++ subs_text (sub ∷ []) =
      flat_map-append (λ sub. codes "-" ++ decimal sub) sid.subs (sub ∷ []) in
      ap (λ text. text ++ (codes "-" ++ decimal sub)) is.spelled
      ∙ append_assoc (codes "S-1-" ++ is.authority) (subs_text sid.subs) (codes "-" ++ decimal sub)
      ∙ ap (λ text. codes "S-1-" ++ is.authority ++ text) (sym (joined ∙ ap (λ text. subs_text sid.subs ++ text) one));
}

-- hexadecimal digits make an authority
pub hexadecimal_fits : (digits : List ℕ) → length digits ≡ 12 → AllDigits 16 digits → digits_value 16 digits < 2 ^ 48
hexadecimal_fits digits twelve are =
    subst (λ (count : ℕ). digits_value 16 digits < 16 ^ count) twelve (digits_value-lt 16 digits are)

-- what an answer of a test says
some_if : {X : Type 0} (b : Bool) (x y : X) → (if b then Some x else None) ≡ Some y → (b ≡ true) × (x ≡ y)
some_if true x y is = (refl, cc)
some_if false x y is = cc

some_if_not : {X : Type 0} (b : Bool) (x y : X) → (if b then None else Some x) ≡ Some y → (b ≡ false) × (x ≡ y)
some_if_not false x y is = (refl, cc)
some_if_not true x y is = cc

if_cases : {X : Type 0} (b : Bool) (o p : Option X) (y : X) → (if b then o else p) ≡ Some y →
    ((b ≡ true) × (o ≡ Some y)) ⊎ ((b ≡ false) × (p ≡ Some y))
if_cases true o p y is = inl (refl, is)
if_cases false o p y is = inr (refl, is)

some_map : {X Y : Type 0} (f : X → Y) (o : Option X) (y : Y) → option_map f o ≡ Some y → (x : X) × (o ≡ Some x)
    × (f x ≡ y)
some_map f None y is = cc
some_map f (Some x) y is = (x, refl, cc)

pub some_bind : {X Y : Type 0} (f : X → Option Y) (o : Option X) (y : Y) → option_and_then f o ≡ Some y → (x : X)
    × (o ≡ Some x) × (f x ≡ Some y)
some_bind f None y is = cc
some_bind f (Some x) y is = (x, refl, is)

first_digit_is : (byte number : ℕ) → first_digit byte ≡ Some number → (number < 10) × (byte ≡ 48 + number)
first_digit_is byte number is = let e = some_if _ (byte - 48) number is in
    (let t = e.0 in let n = e.1 in grind (arith, nat_tests), let t = e.0 in let n = e.1 in grind (arith, nat_tests))

-- a number with one more digit
record IsLonger (number byte longer : ℕ) : Type 0 where
  pub some : 1 ≤ number
  pub digit : ℕ
  pub below : digit < 10
  pub written : byte ≡ 48 + digit
  pub value : longer ≡ number * 10 + digit
  pub fits : longer < 2 ^ 32

more_digits_is : (number byte longer : ℕ) → more_digits number byte ≡ Some longer → IsLonger number byte longer
more_digits_is number byte longer is =
    let e = some_if _ (number * 10 + (byte - 48)) longer is in
    let tests = e.0 in
    let same : number * 10 + (byte - 48) ≡ longer = e.1 in
    let range : (48 ≤ byte) × (byte ≤ 57) × (1 ≤ number) × (number * 10 + (byte - 48) < 2 ^ 32) =
    (grind (arith, nat_tests), grind (arith, nat_tests), grind (arith, nat_tests), grind (arith, nat_tests)) in
    record {
      some = range.2;
      digit = byte - 48;
      below = omega arith;
      written = omega arith;
      value = sym same;
      fits = omega arith;
    }

-- a decimal with one more digit
decimal_longer : (number byte longer : ℕ) → IsLonger number byte longer → decimal longer ≡ decimal number ++ byte ∷ []
decimal_longer number byte longer is =
    let high : longer / 10 ≡ number = omega (arith, is.value, is.below) in
    let low : 48 + longer % 10 ≡ byte = omega (arith, is.value, is.below, is.written) in
    decimal_step longer (omega (arith, is.value, is.some)) (omega (arith, is.fits))
    ∙ ap (λ n. decimal n ++ (48 + longer % 10) ∷ []) high
    ∙ ap (λ c. decimal number ++ c ∷ []) low

-- where a text may end, it is that of the SID
pub finished_text : (stage : Stage) (text : List ℕ) (sid : SidValue) → Shows stage text → finished stage ≡ Some sid →
    IsText text sid
unfolding finished
finished_text (Opening count) text sid shows is = cc
finished_text (Decimal number) text sid shows is =
    let same : authority_alone number ≡ sid = cc in
    subst (λ (sid : SidValue). IsText text sid) same
    (subst (λ (text : List ℕ). IsText text (authority_alone number)) (sym shows.1)
    (alone_text (decimal number) number (omega arith) (inl (record { fits = shows.0; spelled = refl }))))
finished_text (Hexadecimal count number) text sid shows is =
    let ends = some_if_not (nat_lt count 12) (authority_alone number) sid is in
    let twelve : length shows.digits ≡ 12 = let all : 12 ≤ count = (let e = ends.0 in grind (arith, nat_tests)) in
    omega (arith, shows.as_many, shows.few) in
    let fits : number < 2 ^ 48 = let f = hexadecimal_fits shows.digits twelve shows.are_digits in
    omega (arith, shows.value) in
    subst (λ (sid : SidValue). IsText text sid) ends.1
    (subst (λ (text : List ℕ). IsText text (authority_alone number)) (sym shows.spelled)
    (alone_text (codes "0x" ++ shows.digits) number fits
    (inr (record {
      digits = shows.digits;
      twelve = twelve;
      are_digits = shows.are_digits;
      spelled = refl;
      number =
          shows.value;
    }))))
finished_text (Dashed sid') text sid shows is = cc
finished_text (Sub sid' number) text sid shows is =
    let same : with_last sid' number ≡ sid = cc in
    subst (λ (sid : SidValue). IsText text sid) same
    (subst (λ (text : List ℕ). IsText text (with_last sid' number)) (sym shows.spelled)
    (more_text shows.front sid' number shows.is shows.room shows.fits))

-- one more byte, at each stage
after_opening : (count byte : ℕ) (text : List ℕ) (next : Stage) → Shows (Opening count) text →
    stage_after (Opening count) byte ≡ Some next → Shows next (text ++ byte ∷ [])
unfolding stage_after
after_opening count byte text next shows is = ⊎_elim (λ inside.
    let test = some_if _ (Opening (count + 1)) next inside.1 in
    let less : count < 4 = (let e = inside.0 in grind (arith, nat_tests)) in
    let same : slice_index (codes "S-1-") count ≡ byte = (let e = test.0 in grind (arith, nat_tests)) in
    subst (λ (next : Stage). Shows next (text ++ byte ∷ [])) test.1 (
      omega arith,
      ap (λ text. text ++ byte ∷ []) shows.1 ∙ ap (λ c. take count (codes "S-1-") ++ c ∷ []) (sym same)
          ∙ sym (take_more (codes "S-1-") count 0 less),
    ))
    (λ behind.
    let found = some_map Decimal (first_digit byte) next behind.1 in
    let digit = first_digit_is byte found.0 found.1 in
    let all : count ≡ 4 = (let e = behind.0 in let few = shows.0 in grind (arith, nat_tests)) in
    subst (λ (next : Stage). Shows next (text ++ byte ∷ [])) found.2 (
      omega (arith, digit.0),
      ap (λ text. text ++ byte ∷ []) (shows.1 ∙ ap (λ n. take n (codes "S-1-")) all)
          ∙ ap (λ c. codes "S-1-" ++ c ∷ []) digit.1
          ∙ ap (λ text. codes "S-1-" ++ text) (sym (decimal_digit found.0 digit.0)),
    ))
    (if_cases (nat_lt count 4) _ _ next is)

after_decimal : (number byte : ℕ) (text : List ℕ) (next : Stage) → Shows (Decimal number) text →
    stage_after (Decimal number) byte ≡ Some next → Shows next (text ++ byte ∷ [])
unfolding stage_after
after_decimal number byte text next shows is = ⊎_elim (λ dash.
    let is_dash : byte ≡ 45 = (let e = dash.0 in grind (arith, nat_tests)) in
    let next_is : Dashed (authority_alone number) ≡ next = cc in
    subst (λ (next : Stage). Shows next (text ++ byte ∷ [])) next_is (record {
      front = codes "S-1-" ++ decimal number;
      is = alone_text (decimal number) number (omega (arith, shows.0))
          (inl (record { fits = shows.0; spelled = refl }));
      room = omega arith;
      spelled = ap (λ text. text ++ byte ∷ []) shows.1 ∙ ap (λ c. codes "S-1-" ++ decimal number ++ c ∷ []) is_dash;
    }))
    (λ other. ⊎_elim (λ hex.
    let is_x : byte ≡ 120 = (let e = hex.0 in grind (arith, nat_tests)) in
    let is_zero : number ≡ 0 = (let e = hex.0 in grind (arith, nat_tests)) in
    let next_is : Hexadecimal 0 0 ≡ next = cc in
    subst (λ (next : Stage). Shows next (text ++ byte ∷ [])) next_is (record {
      digits = [];
      few = omega arith;
      as_many = refl;
      are_digits = tt;
      value = refl;
      spelled =
          ap (λ text. text ++ byte ∷ []) (shows.1 ∙ ap (λ n. codes "S-1-" ++ decimal n) is_zero
          ∙ ap (λ text. codes "S-1-" ++ text) (decimal_digit 0 (omega arith)))
          ∙ ap (λ c. codes "S-1-0" ++ c ∷ []) is_x;
    }))
    (λ digit.
    let found = some_map Decimal (more_digits number byte) next digit.1 in
    let longer = more_digits_is number byte found.0 found.1 in
    subst (λ (next : Stage). Shows next (text ++ byte ∷ [])) found.2 (
      longer.fits,
      ap (λ text. text ++ byte ∷ []) shows.1
          ∙ append_assoc (codes "S-1-") (decimal number) (byte ∷ [])
          ∙ ap (λ text. codes "S-1-" ++ text) (sym (decimal_longer number byte found.0 longer)),
    ))
    (if_cases ((byte == 120) && (number == 0)) (Some (Hexadecimal 0 0))
    (option_map Decimal (more_digits number byte)) next other.1))
    (if_cases (byte == 45) (Some (Dashed (authority_alone number)))
    (if (byte == 120) && (number == 0) then Some (Hexadecimal 0 0) else
    option_map Decimal (more_digits number byte)) next is)

after_hexadecimal : (count number byte : ℕ) (text : List ℕ) (next : Stage) → Shows (Hexadecimal count number) text →
    stage_after (Hexadecimal count number) byte ≡ Some next → Shows next (text ++ byte ∷ [])
unfolding stage_after
after_hexadecimal count number byte text next shows is = ⊎_elim (λ digit.
    let test = some_if _ (Hexadecimal (count + 1) (number * 16 + digit_value byte)) next digit.1 in
    let room : count < 12 = (let e = digit.0 in grind (arith, nat_tests)) in
    let is_digit : digit_value byte < 16 = (let e = test.0 in grind (arith, nat_tests)) in
    subst (λ (next : Stage). Shows next (text ++ byte ∷ [])) test.1 (record {
      digits = shows.digits ++ byte ∷ [];
      few = omega arith;
      as_many = length-append shows.digits (byte ∷ []) ∙ ap (λ n. n + 1) shows.as_many;
      are_digits = digits_push 16 shows.digits byte shows.are_digits is_digit;
      value = digits_value_push 16 shows.digits byte ∙ ap (λ n. n * 16 + digit_value byte) shows.value;
      spelled = ap (λ text. text ++ byte ∷ []) shows.spelled ∙ append_assoc (codes "S-1-0x") shows.digits (byte ∷ []);
    }))
    (λ behind.
    let test = some_if _ (Dashed (authority_alone number)) next behind.1 in
    let is_dash : byte ≡ 45 = (let e = test.0 in grind (arith, nat_tests)) in
    let twelve : length shows.digits ≡ 12 =
    (let all : 12 ≤ count = (let e = behind.0 in grind (arith, nat_tests)) in
    omega (arith, shows.as_many, shows.few)) in
    let fits : number < 2 ^ 48 = (let f = hexadecimal_fits shows.digits twelve shows.are_digits in
    omega (arith, shows.value)) in
    subst (λ (next : Stage). Shows next (text ++ byte ∷ [])) test.1 (record {
      front = text;
      is = subst (λ (text : List ℕ). IsText text (authority_alone number)) (sym shows.spelled)
          (alone_text (codes "0x" ++ shows.digits) number fits
          (inr (record {
            digits = shows.digits;
            twelve = twelve;
            are_digits = shows.are_digits;
            spelled = refl;
            number = shows.value;
          })));
      room = omega arith;
      spelled = ap (λ c. text ++ c ∷ []) is_dash;
    }))
    (if_cases (nat_lt count 12) _ _ next is)

after_dash : (sid : SidValue) (byte : ℕ) (text : List ℕ) (next : Stage) → Shows (Dashed sid) text →
    stage_after (Dashed sid) byte ≡ Some next → Shows next (text ++ byte ∷ [])
unfolding stage_after
after_dash sid byte text next shows is =
    let found = some_map (Sub sid) (first_digit byte) next is in
    let digit = first_digit_is byte found.0 found.1 in
    subst (λ (next : Stage). Shows next (text ++ byte ∷ [])) found.2 (record {
      front = shows.front;
      is = shows.is;
      room = shows.room;
      fits = omega (arith, digit.0);
      spelled =
          ap (λ text. text ++ byte ∷ []) shows.spelled
          ∙ append_assoc shows.front (codes "-") (byte ∷ [])
          ∙ ap (λ text. shows.front ++ (codes "-" ++ text))
          (ap (λ c. c ∷ []) digit.1 ∙ sym (decimal_digit found.0 digit.0));
    })

after_sub : (sid : SidValue) (number byte : ℕ) (text : List ℕ) (next : Stage) → Shows (Sub sid number) text →
    stage_after (Sub sid number) byte ≡ Some next → Shows next (text ++ byte ∷ [])
unfolding stage_after
after_sub sid number byte text next shows is = ⊎_elim (λ dash.
    let test = some_if (nat_lt (length sid.subs) 14) (Dashed (with_last sid number)) next dash.1 in
    let is_dash : byte ≡ 45 = (let e = dash.0 in grind (arith, nat_tests)) in
    let less : length sid.subs < 14 = (let e = test.0 in grind (arith, nat_tests)) in
    subst (λ (next : Stage). Shows next (text ++ byte ∷ [])) test.1 (record {
      front = text;
      is = subst (λ (text : List ℕ). IsText text (with_last sid number)) (sym shows.spelled)
          (more_text shows.front sid number shows.is shows.room shows.fits);
      room = omega (arith, length-append sid.subs (number ∷ []));
      spelled = ap (λ c. text ++ c ∷ []) is_dash;
    }))
    (λ digit.
    let found = some_map (Sub sid) (more_digits number byte) next digit.1 in
    let longer = more_digits_is number byte found.0 found.1 in
    subst (λ (next : Stage). Shows next (text ++ byte ∷ [])) found.2 (record {
      front = shows.front;
      is = shows.is;
      room = shows.room;
      fits = longer.fits;
      spelled =
          ap (λ text. text ++ byte ∷ []) shows.spelled
          ∙ append_assoc shows.front (codes "-" ++ decimal number) (byte ∷ [])
          ∙ ap (λ text. shows.front ++ (codes "-" ++ text)) (sym (decimal_longer number byte found.0 longer));
    }))
    (if_cases (byte == 45) (if nat_lt (length sid.subs) 14 then Some (Dashed (with_last sid number)) else None)
    (option_map (Sub sid) (more_digits number byte)) next is)

-- one more byte
shows_byte : (stage : Stage) (byte : ℕ) (text : List ℕ) (next : Stage) → Shows stage text → stage_after stage byte
    ≡ Some next → Shows next (text ++ byte ∷ [])
shows_byte (Opening count) = after_opening count
shows_byte (Decimal number) = after_decimal number
shows_byte (Hexadecimal count number) = after_hexadecimal count number
shows_byte (Dashed sid) = after_dash sid
shows_byte (Sub sid number) = after_sub sid number

-- more bytes
pub shows_more : (bytes : List ℕ) (stage : Stage) (text : List ℕ) (last : Stage) → Shows stage text →
    read_on stage bytes ≡ Some last → Shows last (text ++ bytes)
shows_more [] stage text last shows read =
    let same : stage ≡ last = cc in
    subst (λ (last : Stage). Shows last (text ++ [])) same
    (subst (λ (text : List ℕ). Shows stage text) (sym (append-nil text)) shows)
shows_more (byte ∷ bytes) stage text last shows read =
    let steps = some_bind (λ next. read_on next bytes) (stage_after stage byte) last read in
    subst (λ (text : List ℕ). Shows last text) (append_assoc text (byte ∷ []) bytes)
    (shows_more bytes steps.0 (text ++ byte ∷ []) last (shows_byte stage byte text steps.0 shows steps.1) steps.2)
