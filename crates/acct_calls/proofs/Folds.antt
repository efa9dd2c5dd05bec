-- Simple folding: what its table keeps, what a folded name is, and when two names are one
use Rattle.std.proofs.Common.{◌≡◌, ℕ, ◌<◌, inl, inr, Bool, true, false, not, ◌&&◌, ◌==◌, nat_lt, List, [], ◌∷◌, ◌++◌}
use Rattle.std.proofs.Common.{length, map, slice_index_or, refl, sym, ap, subst, ◌∙◌, arith, Decides}
use Rattle.std.specs.Prelude.{◌↔◌}
use Rattle.std.specs.Str.{bytes_eq}
use Rattle.std.specs.Char.Escape.{encode_utf16}
use Rattle.std.specs.Char.Utf16.{is_high_surrogate, is_low_surrogate, surrogate_pair_char}
use Rattle.std.proofs.lemmas.Bool.{cases_Bool, and_parts, and_right, cond-true, cond-false, not-true, ltb-true, ne_eqb}
use Rattle.std.proofs.lemmas.Bool.Decides.{nat_tests, same_from_decides, Decides-like}
use Rattle.std.proofs.lemmas.Slice.Eq.{bytes_eq-Decides}
use Rattle.ucd_table.proofs.Computing.{tables}
use Rattle.ucd_table.proofs.RangedFacts.{values_ok, Stepped-at_values}
use Rattle.ucd_case.specs.CaseFolding.{simple_folding, simple_fold}
use Rattle.ucd_case.proofs.CaseFoldingLemmas.{simple_folding_stepped}
use Rattle.ucd_case.proofs.BoundLemmas.{simple_fold_idem}
use Rattle.acct_calls.specs.Names.{AreUnits, is_surrogate, code_points, units_of, folded_point, folded_points, folded}
use Rattle.acct_calls.specs.Names.{is_same, AreSame, IsEquivalence}
use Rattle.acct_calls.proofs.Points.{Apart, Fits-from, starts_low, code_points-nil, code_points-alone, code_points-pair}
use Rattle.acct_calls.proofs.Points.{units_of-nil, units_of-cons, code_points-units_of, Apart-code_points}

-- ---- the table

-- what the string begins with is a code point, and no surrogate
abbrev begins_well : List ℕ → Bool
begins_well [] = true
begins_well (point ∷ points) = nat_lt point 0x11_0000 && not (is_surrogate point)

all_begin_well : (point : ℕ) → begins_well (simple_folding point) ≡ true
unfolding tables values_ok simple_folding_stepped
all_begin_well point = Stepped-at_values simple_folding simple_folding_stepped begins_well refl point

-- a code point that is no surrogate
abbrev pub IsPlain : ℕ → Type 0
IsPlain point = (point < 0x11_0000) × (is_surrogate point ≡ false)

first_is_plain : (string : List ℕ) (point : ℕ) → begins_well string ≡ true → IsPlain point →
    IsPlain (slice_index_or string 0 point)
first_is_plain [] point well plain = plain
first_is_plain (first ∷ points) point well plain =
    let parts = and_parts (nat_lt first 0x11_0000) (not (is_surrogate first)) well in
    (ltb-true first 0x11_0000 parts.0, not-true (is_surrogate first) parts.1)

simple_fold_is_plain : (point : ℕ) → IsPlain point → IsPlain (simple_fold point)
simple_fold_is_plain point plain = first_is_plain (simple_folding point) point (all_begin_well point) plain

-- ---- a code point

folded_surrogate : (point : ℕ) → is_surrogate point ≡ true → folded_point point ≡ point
unfolding folded_point
folded_surrogate point surrogate = cond-true (is_surrogate point) point (simple_fold point) surrogate

folded_plain : (point : ℕ) → is_surrogate point ≡ false → folded_point point ≡ simple_fold point
unfolding folded_point
folded_plain point plain = cond-false (is_surrogate point) point (simple_fold point) plain

folded_is_plain : (point : ℕ) → IsPlain point → IsPlain (folded_point point)
folded_is_plain point plain = subst IsPlain (sym (folded_plain point plain.1)) (simple_fold_is_plain point plain)

folded_fits : (point : ℕ) → point < 0x11_0000 → folded_point point < 0x11_0000
folded_fits point fits =
    elim (cases_Bool (is_surrogate point)) [
      | inl surrogate ↦ subst (λ p. p < 0x11_0000) (sym (folded_surrogate point surrogate)) fits
      | inr plain ↦ (folded_is_plain point (fits, plain)).0
    ]

folded_once : (point : ℕ) → point < 0x11_0000 → folded_point (folded_point point) ≡ folded_point point
folded_once point fits =
    elim (cases_Bool (is_surrogate point)) [
      | inl surrogate ↦ ap folded_point (folded_surrogate point surrogate)
      | inr plain ↦
          folded_plain (folded_point point) (folded_is_plain point (fits, plain)).1
          ∙ ap simple_fold (folded_plain point plain)
          ∙ simple_fold_idem point
          ∙ sym (folded_plain point plain)
    ]

plain_is_not_high : (point : ℕ) → is_surrogate point ≡ false → is_high_surrogate point ≡ false
plain_is_not_high point plain = grind (arith, nat_tests)

plain_is_not_low : (point : ℕ) → is_surrogate point ≡ false → is_low_surrogate point ≡ false
plain_is_not_low point plain = grind (arith, nat_tests)

folded_high : (point : ℕ) → point < 0x11_0000 → is_high_surrogate (folded_point point) ≡ is_high_surrogate point
folded_high point fits =
    elim (cases_Bool (is_surrogate point)) [
      | inl surrogate ↦ ap is_high_surrogate (folded_surrogate point surrogate)
      | inr plain ↦
          plain_is_not_high (folded_point point) (folded_is_plain point (fits, plain)).1
          ∙ sym (plain_is_not_high point plain)
    ]

folded_low : (point : ℕ) → point < 0x11_0000 → is_low_surrogate (folded_point point) ≡ is_low_surrogate point
folded_low point fits =
    elim (cases_Bool (is_surrogate point)) [
      | inl surrogate ↦ ap is_low_surrogate (folded_surrogate point surrogate)
      | inr plain ↦
          plain_is_not_low (folded_point point) (folded_is_plain point (fits, plain)).1
          ∙ sym (plain_is_not_low point plain)
    ]

-- ---- lists of code points

starts_low-map : (points : List ℕ) → Apart points → starts_low (map folded_point points) ≡ starts_low points
starts_low-map [] apart = refl
starts_low-map (point ∷ points) apart = folded_low point apart.0

Apart-map : (points : List ℕ) → Apart points → Apart (map folded_point points)
Apart-map [] apart = tt
Apart-map (point ∷ points) apart = (
  folded_fits point apart.0,
  (λ i. folded_high point apart.0 i && starts_low-map points apart.2 i) ∙ apart.1,
  Apart-map points apart.2,
)

map_once : (points : List ℕ) → Apart points → map folded_point (map folded_point points) ≡ map folded_point points
map_once [] apart = refl
map_once (point ∷ points) apart = λ i. folded_once point apart.0 i ∷ map_once points apart.2 i

-- ---- names

pub folded_points-folded : (units : List ℕ) → AreUnits units → folded_points (folded units) ≡ folded_points units
unfolding folded_points folded
folded_points-folded units fit =
    let apart = Apart-code_points units (Fits-from units fit) in
    ap (map folded_point) (code_points-units_of (map folded_point (code_points units))
    (Apart-map (code_points units) apart))
    ∙ map_once (code_points units) apart

pub folded-folded : (units : List ℕ) → AreUnits units → folded (folded units) ≡ folded units
unfolding folded
folded-folded units fit = ap units_of (folded_points-folded units fit)

pub is_same_decides : (left right : List ℕ) → Decides (is_same left right) (AreSame left right)
unfolding is_same
is_same_decides left right = bytes_eq-Decides (folded_points left) (folded_points right)

pub tells_same : (left right : List ℕ) → (is_same left right ≡ true) ↔ AreSame left right
tells_same left right = let tells = is_same_decides left right in (tells.0, tells.1)

pub equivalence : IsEquivalence
equivalence = record {
  reflexive = λ name. (is_same_decides name name).1 refl;
  symmetric = λ left right. same_from_decides (is_same left right) (is_same right left) (is_same_decides left right)
      (Decides-like (is_same right left) sym sym (is_same_decides right left));
  transitive = λ left middle right first second.
      (is_same_decides left right).1 ((is_same_decides left middle).0 first ∙ (is_same_decides middle right).0 second);
}

pub folded_same : (units : List ℕ) → AreUnits units → is_same (folded units) units ≡ true
folded_same units fit = (is_same_decides (folded units) units).1 (folded_points-folded units fit)

alike_folded : (left right : List ℕ) → folded_points left ≡ folded_points right → folded left ≡ folded right
unfolding folded
alike_folded left right same = ap units_of same

pub same_alike : (left right : List ℕ) → AreUnits left → AreUnits right → (is_same left right ≡ true)
    ↔ (folded left ≡ folded right)
same_alike left right left_fits right_fits =
    let tells = is_same_decides left right in (
      λ same. alike_folded left right (tells.0 same),
      λ alike. tells.1 (sym (folded_points-folded left left_fits) ∙ ap folded_points alike
          ∙ folded_points-folded right right_fits),
    )

-- ---- steps of the loops

pub folded-nil : folded [] ≡ []
unfolding folded folded_points
folded-nil = ap (λ points. units_of (map folded_point points)) code_points-nil ∙ units_of-nil

pub folded-first : (units rest : List ℕ) (point : ℕ) → code_points units ≡ point ∷ code_points rest → folded units
    ≡ encode_utf16 (folded_point point) ++ folded rest
unfolding folded folded_points
folded-first units rest point first =
    ap (λ points. units_of (map folded_point points)) first
    ∙ units_of-cons (folded_point point) (map folded_point (code_points rest))

pub is_same-first : (left right left_rest right_rest : List ℕ) (left_point right_point : ℕ) → code_points left
    ≡ left_point ∷ code_points left_rest
    → code_points right ≡ right_point ∷ code_points right_rest → is_same left right
    ≡ ((folded_point left_point == folded_point right_point) && is_same left_rest right_rest)
unfolding is_same folded_points
is_same-first left right left_rest right_rest left_point right_point left_first right_first =
    λ i. bytes_eq (map folded_point (left_first i)) (map folded_point (right_first i))

pub is_same-longer : (left left_rest : List ℕ) (left_point : ℕ) → code_points left ≡ left_point ∷ code_points left_rest
    → is_same left [] ≡ false
unfolding is_same folded_points
is_same-longer left left_rest left_point left_first =
    λ i. bytes_eq (map folded_point (left_first i)) (map folded_point (code_points-nil i))

some_point : (units : List ℕ) → 0 < length units → (point : ℕ) × (points : List ℕ)
    × (code_points units ≡ point ∷ points)
some_point [] some = absurd (omega arith)
some_point (unit ∷ []) some = (
  unit,
  code_points [],
  code_points-alone unit [] (and_right (is_high_surrogate unit) false refl),
)
some_point (unit ∷ next ∷ units) some =
    elim (cases_Bool (is_high_surrogate unit && is_low_surrogate next)) [
      | inl pair ↦ (surrogate_pair_char unit next, code_points units, code_points-pair unit next units pair)
      | inr apart ↦ (unit, code_points (next ∷ units), code_points-alone unit (next ∷ units) apart)
    ]

pub is_same_empty : is_same [] [] ≡ true
is_same_empty = (is_same_decides [] []).1 refl

pub is_same-shorter : (right : List ℕ) → 0 < length right → is_same [] right ≡ false
unfolding is_same folded_points
is_same-shorter right some =
    let first = some_point right some in
    λ i. bytes_eq (map folded_point (code_points-nil i)) (map folded_point (first.2 i))

-- the empty name is one with empty names alone
pub is_same_over_nothing : (units : List ℕ) → is_same [] units ≡ (length units == 0)
is_same_over_nothing [] = is_same_empty
is_same_over_nothing (unit ∷ units) = is_same-shorter (unit ∷ units) (omega arith)
    ∙ sym (ne_eqb _ _ (λ none. omega arith))
