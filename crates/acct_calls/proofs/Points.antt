-- Code points of units, a step at a time, and how units and code points give each other back
use Rattle.std.proofs.Common.{◌≡◌, ℕ, zero, suc, ◌+◌, ◌-◌, ◌/◌, ◌%◌, ◌<◌, ◌≤◌, ◌⊎◌, inl, inr, Bool, true, false, cond}
use Rattle.std.proofs.Common.{◌&&◌, List, [], ◌∷◌, ◌++◌, length, All, refl, sym, ap, subst, ◌∙◌, arith, zero-lt-suc}
use Rattle.std.proofs.Common.{suc-le-suc, take, drop, slice_index_or}
use Rattle.std.specs.Char.{IsScalar}
use Rattle.std.specs.Char.Escape.{encode_utf16}
use Rattle.std.specs.Char.Utf16.{is_high_surrogate, is_low_surrogate, surrogate_pair_char}
use Rattle.std.proofs.lemmas.Bool.{cases_lt, cases_Bool, and_right, false_from_ne_true}
use Rattle.std.proofs.lemmas.Bool.Decides.{nat_tests}
use Rattle.std.proofs.Math.Seq.{take-length}
use Rattle.std.proofs.Math.Utf8.{scalar_cases}
use Rattle.std.proofs.lemmas.List.{append-nil}
use Rattle.std.proofs.lemmas.Grind.{flat_map-append}
use Rattle.acct_calls.specs.Names.{AreUnits, code_points, units_of}

-- the list begins with a low surrogate
abbrev pub starts_low : List ℕ → Bool
starts_low [] = false
starts_low (next ∷ units) = is_low_surrogate next

-- ---- one step

pub code_points-nil : code_points [] ≡ []
unfolding code_points
code_points-nil = refl

pub code_points-alone : (unit : ℕ) (units : List ℕ) → (is_high_surrogate unit && starts_low units) ≡ false →
    code_points (unit ∷ units) ≡ unit ∷ code_points units
unfolding code_points
code_points-alone unit [] apart = refl
code_points-alone unit (next ∷ units) apart =
    ap (λ t. cond t (surrogate_pair_char unit next ∷ code_points units) (unit ∷ code_points (next ∷ units))) apart

pub code_points-pair : (unit next : ℕ) (units : List ℕ) → (is_high_surrogate unit && is_low_surrogate next) ≡ true
    → code_points (unit ∷ next ∷ units) ≡ surrogate_pair_char unit next ∷ code_points units
unfolding code_points
code_points-pair unit next units pair =
    ap (λ t. cond t (surrogate_pair_char unit next ∷ code_points units) (unit ∷ code_points (next ∷ units))) pair

pub units_of-nil : units_of [] ≡ []
unfolding units_of
units_of-nil = refl

pub units_of-cons : (point : ℕ) (points : List ℕ) → units_of (point ∷ points) ≡ encode_utf16 point ++ units_of points
unfolding units_of
units_of-cons point points = refl

-- ---- surrogates by numbers

-- the first unit is high and the second low
pub record IsPair (high low : ℕ) : Type 0 where
  pub high_from : 0xD800 ≤ high
  pub high_below : high < 0xDC00
  pub low_from : 0xDC00 ≤ low
  pub low_below : low < 0xE000

pub pair_test : (high low : ℕ) → IsPair high low → (is_high_surrogate high && is_low_surrogate low) ≡ true
pair_test high low pair = grind (arith, nat_tests)

pub pair_from_test : (high low : ℕ) → (is_high_surrogate high && is_low_surrogate low) ≡ true → IsPair high low
pair_from_test high low test = record {
  high_from = grind (arith, nat_tests);
  high_below = grind (arith, nat_tests);
  low_from = grind (arith, nat_tests);
  low_below = grind (arith, nat_tests);
}

pub large_is_not_high : (point : ℕ) (b : Bool) → 0x1_0000 ≤ point → (is_high_surrogate point && b) ≡ false
large_is_not_high point b large = grind (arith, nat_tests)

pub large_is_not_low : (point : ℕ) → 0x1_0000 ≤ point → is_low_surrogate point ≡ false
large_is_not_low point large = grind (arith, nat_tests)

pub high_is_not_low : (point : ℕ) → point < 0xDC00 → is_low_surrogate point ≡ false
high_is_not_low point below = grind (arith, nat_tests)

pub one_unit : (point : ℕ) → point < 0x1_0000 → encode_utf16 point ≡ point ∷ []
one_unit point below = grind (arith, nat_tests)

pub two_units : (point : ℕ) → 0x1_0000 ≤ point → encode_utf16 point ≡ (0xD800 + (point - 0x1_0000) / 0x400)
    ∷ (0xDC00 + (point - 0x1_0000) % 0x400) ∷ []
two_units point large = grind (arith, nat_tests)

pub pair_units : (high low : ℕ) → IsPair high low → encode_utf16 (surrogate_pair_char high low) ≡ high ∷ low ∷ []
pair_units high low pair =
    let first : 0xD800 + (surrogate_pair_char high low - 0x1_0000) / 0x400 ≡ high = omega arith in
    let second : 0xDC00 + (surrogate_pair_char high low - 0x1_0000) % 0x400 ≡ low = omega arith in
    two_units (surrogate_pair_char high low) (omega arith) ∙ (λ i. first i ∷ second i ∷ [])

pub not_pair : (high low : ℕ) → (IsPair high low → ⊥) → (is_high_surrogate high && is_low_surrogate low) ≡ false
not_pair high low apart = false_from_ne_true _ (λ test. apart (pair_from_test high low test))

-- ---- one step, at places

pub starts_low-at : (units : List ℕ) (next : ℕ) → 1 ≤ length units → next ≡ slice_index_or units 0 0 → starts_low units
    ≡ is_low_surrogate next
starts_low-at [] next some is = absurd (omega arith)
starts_low-at (unit ∷ units) next some is = ap is_low_surrogate (sym is)

pub starts_low_empty : (units : List ℕ) → length units < 1 → starts_low units ≡ false
starts_low_empty [] none = refl
starts_low_empty (unit ∷ units) none = absurd (omega arith)

tail_of : (unit : ℕ) (units : List ℕ) → take (length (unit ∷ units) - 1) (drop 1 (unit ∷ units)) ≡ units
tail_of unit units =
    let count : length (unit ∷ units) - 1 ≡ length units = omega arith in ap (λ n. take n units) count
    ∙ take-length units

pub code_points_first : (units rest : List ℕ) (unit : ℕ) → 1 ≤ length units → unit ≡ slice_index_or units 0 0 → rest
    ≡ take (length units - 1) (drop 1 units)
    → (is_high_surrogate unit && starts_low rest) ≡ false → code_points units ≡ unit ∷ code_points rest
code_points_first [] rest unit some is rest_is apart = absurd (omega arith)
code_points_first (first ∷ units) rest unit some is rest_is apart =
    let tail : rest ≡ units = rest_is ∙ tail_of first units in
    subst (λ r. (is_high_surrogate unit && starts_low r) ≡ false → code_points (first ∷ units) ≡ unit ∷ code_points r)
    (sym tail)
    (subst (λ u. (is_high_surrogate u && starts_low units) ≡ false → code_points (first ∷ units) ≡ u
    ∷ code_points units) (sym is) (code_points-alone first units))
    apart

pub code_points_first_pair : (units rest after : List ℕ) (unit next : ℕ) → 1 ≤ length units → unit
    ≡ slice_index_or units 0 0
    → rest ≡ take (length units - 1) (drop 1 units) → 1 ≤ length rest → next ≡ slice_index_or rest 0 0
    → after ≡ take (length rest - 1) (drop 1 rest) → IsPair unit next → code_points units
    ≡ surrogate_pair_char unit next ∷ code_points after
code_points_first_pair [] rest after unit next some is rest_is more next_is after_is pair = absurd (omega arith)
code_points_first_pair (first ∷ []) rest after unit next some is rest_is more next_is after_is pair =
    let tail : rest ≡ [] = rest_is ∙ tail_of first [] in absurd (omega (arith, ap length tail))
code_points_first_pair (first ∷ second ∷ units) rest after unit next some is rest_is more next_is after_is pair =
    let tail : rest ≡ second ∷ units = rest_is ∙ tail_of first (second ∷ units) in
    let end : after ≡ units = after_is ∙ ap (λ r. take (length r - 1) (drop 1 r)) tail ∙ tail_of second units in
    let low : next ≡ second = next_is ∙ ap (λ r. slice_index_or r 0 0) tail in
    let test : (is_high_surrogate first && is_low_surrogate second) ≡ true =
    pair_test first second (subst (λ u. IsPair u second) is (subst (λ v. IsPair unit v) low pair)) in
    code_points-pair first second units test
    ∙ (λ i. surrogate_pair_char (sym is i) (sym low i) ∷ code_points (sym end i))

-- ---- units that fit

-- each unit is below 2^16
abbrev pub Fits : List ℕ → Type 0
Fits [] = Unit {0}
Fits (unit ∷ units) = (unit < 0x1_0000) × Fits units

pub Fits-from : (units : List ℕ) → AreUnits units → Fits units
Fits-from [] all = tt
Fits-from (unit ∷ units) all =
    (all zero unit (zero-lt-suc _), Fits-from units (λ k d within. all (suc k) d (suc-le-suc within)))

-- ---- units of the code points of units

pub units_of-code_points : (units : List ℕ) → Fits units → units_of (code_points units) ≡ units
units_of-code_points [] fits = ap units_of code_points-nil ∙ units_of-nil
units_of-code_points (unit ∷ []) fits =
    ap units_of (code_points-alone unit [] (and_right (is_high_surrogate unit) false refl)
    ∙ ap (λ l. unit ∷ l) code_points-nil)
    ∙ units_of-cons unit []
    ∙ ap (λ l. l ++ units_of []) (one_unit unit fits.0)
    ∙ ap (λ l. unit ∷ l) units_of-nil
units_of-code_points (unit ∷ next ∷ units) fits =
    elim (cases_Bool (is_high_surrogate unit && is_low_surrogate next)) [
      | inl pair ↦
          ap units_of (code_points-pair unit next units pair)
          ∙ units_of-cons (surrogate_pair_char unit next) (code_points units)
          ∙ ap (λ l. l ++ units_of (code_points units)) (pair_units unit next (pair_from_test unit next pair))
          ∙ ap (λ l. unit ∷ next ∷ l) (units_of-code_points units fits.1.1)
      | inr apart ↦
          ap units_of (code_points-alone unit (next ∷ units) apart)
          ∙ units_of-cons unit (code_points (next ∷ units))
          ∙ ap (λ l. l ++ units_of (code_points (next ∷ units))) (one_unit unit fits.0)
          ∙ ap (λ l. unit ∷ l) (units_of-code_points (next ∷ units) fits.1)
    ]

-- ---- code points of the units of code points

-- code points of Unicode, of which none is a high surrogate before a low one
abbrev pub Apart : List ℕ → Type 0
Apart [] = Unit {0}
Apart (point ∷ points) = (point < 0x11_0000) × ((is_high_surrogate point && starts_low points) ≡ false) × Apart points

starts_low-units_of : (points : List ℕ) → Apart points → starts_low (units_of points) ≡ starts_low points
starts_low-units_of [] apart = ap starts_low units_of-nil
starts_low-units_of (point ∷ points) apart =
    let fit : point < 0x11_0000 = apart.0 in
    ap starts_low (units_of-cons point points)
    ∙ elim (cases_lt point 0x1_0000) [
      | inl below ↦ ap (λ l. starts_low (l ++ units_of points)) (one_unit point below)
      | inr large ↦
          ap (λ l. starts_low (l ++ units_of points)) (two_units point large)
          ∙ high_is_not_low (0xD800 + (point - 0x1_0000) / 0x400) (omega arith)
          ∙ sym (large_is_not_low point large)
    ]

pub code_points-units_of : (points : List ℕ) → Apart points → code_points (units_of points) ≡ points
code_points-units_of [] apart = ap code_points units_of-nil ∙ code_points-nil
code_points-units_of (point ∷ points) apart =
    ap code_points (units_of-cons point points)
    ∙ elim (cases_lt point 0x1_0000) [
      | inl below ↦
          ap (λ l. code_points (l ++ units_of points)) (one_unit point below)
          ∙ code_points-alone point (units_of points)
          (ap (λ b. is_high_surrogate point && b) (starts_low-units_of points apart.2) ∙ apart.1)
          ∙ ap (λ l. point ∷ l) (code_points-units_of points apart.2)
      | inr large ↦
          let high = 0xD800 + (point - 0x1_0000) / 0x400 in
          let low = 0xDC00 + (point - 0x1_0000) % 0x400 in
          let fit : point < 0x11_0000 = apart.0 in
          let pair : IsPair high low = record
          { high_from = omega arith; high_below = omega arith; low_from = omega arith; low_below = omega arith } in
          let same : surrogate_pair_char high low ≡ point = omega arith in
          ap (λ l. code_points (l ++ units_of points)) (two_units point large)
          ∙ code_points-pair high low (units_of points) (pair_test high low pair)
          ∙ (λ i. same i ∷ code_points-units_of points apart.2 i)
    ]

starts_low-code_points : (units : List ℕ) → starts_low (code_points units) ≡ starts_low units
starts_low-code_points [] = ap starts_low code_points-nil
starts_low-code_points (unit ∷ []) =
    ap starts_low (code_points-alone unit [] (and_right (is_high_surrogate unit) false refl))
starts_low-code_points (unit ∷ next ∷ units) =
    elim (cases_Bool (is_high_surrogate unit && is_low_surrogate next)) [
      | inl test ↦
          let pair = pair_from_test unit next test in
          ap starts_low (code_points-pair unit next units test)
          ∙ large_is_not_low (surrogate_pair_char unit next) (omega arith)
          ∙ sym (high_is_not_low unit pair.high_below)
      | inr apart ↦ ap starts_low (code_points-alone unit (next ∷ units) apart)
    ]

pub Apart-code_points : (units : List ℕ) → Fits units → Apart (code_points units)
Apart-code_points [] fits = subst Apart (sym code_points-nil) tt
Apart-code_points (unit ∷ []) fits =
    subst Apart (sym (code_points-alone unit [] (and_right (is_high_surrogate unit) false refl)
    ∙ ap (λ l. unit ∷ l) code_points-nil)) (omega arith, and_right (is_high_surrogate unit) false refl, tt)
Apart-code_points (unit ∷ next ∷ units) fits =
    elim (cases_Bool (is_high_surrogate unit && is_low_surrogate next)) [
      | inl test ↦
          let pair = pair_from_test unit next test in
          subst Apart (sym (code_points-pair unit next units test)) (
            omega arith,
            large_is_not_high (surrogate_pair_char unit next) (starts_low (code_points units))
                (omega arith),
            Apart-code_points units fits.1.1,
          )
      | inr apart ↦
          let fit : unit < 0x1_0000 = fits.0 in
          subst Apart (sym (code_points-alone unit (next ∷ units) apart)) (
            omega arith,
            ap (λ b. is_high_surrogate unit && b) (starts_low-code_points (next ∷ units)) ∙ apart,
            Apart-code_points (next ∷ units) fits.1,
          )
    ]

-- ---- units of characters

not_high : (point : ℕ) (b : Bool) → (point < 0xD800) ⊎ ((0xE000 ≤ point) × (point < 0x11_0000)) →
    (is_high_surrogate point && b) ≡ false
not_high point b (inl below) = grind (arith, nat_tests)
not_high point b (inr above) = grind (arith, nat_tests)

scalar_fits : (point : ℕ) → (point < 0xD800) ⊎ ((0xE000 ≤ point) × (point < 0x11_0000)) → point < 0x11_0000
scalar_fits point (inl below) = omega arith
scalar_fits point (inr above) = above.1

Apart-characters : (characters : List ℕ) → All IsScalar characters → Apart characters
Apart-characters [] all = tt
Apart-characters (character ∷ characters) all =
    let range = scalar_cases character (all zero character (zero-lt-suc _)) in (
      scalar_fits character range,
      not_high character (starts_low characters) range,
      Apart-characters characters (λ k d within. all (suc k) d (suc-le-suc within)),
    )

pub code_points-characters : (characters : List ℕ) → All IsScalar characters → code_points (units_of characters)
    ≡ characters
code_points-characters characters all = code_points-units_of characters (Apart-characters characters all)

pub units_of-append : (points more : List ℕ) → units_of (points ++ more) ≡ units_of points ++ units_of more
unfolding units_of
units_of-append points more = flat_map-append encode_utf16 points more

pub units_of-more : (points : List ℕ) (point : ℕ) → units_of (points ++ point ∷ []) ≡ units_of points
    ++ encode_utf16 point
units_of-more points point =
    units_of-append points (point ∷ [])
    ∙ ap (λ l. units_of points ++ l)
    (units_of-cons point [] ∙ ap (λ l. encode_utf16 point ++ l) units_of-nil ∙ append-nil (encode_utf16 point))
