-- Equality and order of SIDs tell their values apart
use Rattle.std.proofs.Common.{◌≡◌, ℕ, List, refl, sym, ap, ◌∙◌, arith, true, Decides}
use Rattle.std.specs.Prelude.{◌==◌, ◌&&◌, ◌↔◌}
use Rattle.std.specs.Str.{bytes_eq}
use Rattle.std.specs.Ordering.{nat_cmp, is_eq, ordering_then}
use Rattle.std.specs.Cmp.Lexicographic.{slice_cmp}
use Rattle.std.specs.Cmp.{Equal-is}
use Rattle.std.specs.declared.cmp.Ordering.{Ordering}
use Rattle.std.specs.declared.cmp.Ordering.TheVariants.{Less, Equal, Greater}
use Rattle.std.proofs.lemmas.Slice.Eq.{bytes_eq-Decides}
use Rattle.std.proofs.lemmas.Map.Text.{is_eq-slice_cmp}
use Rattle.std.proofs.lemmas.Bool.Decides.{Decides-and, Decides-eqb, Decides-like, nat_tests}
use Rattle.dtyp_sid.specs.Sids.{SidValue, sid_eq, sid_cmp}

abbrev made : ℕ → List ℕ → SidValue
made authority subs = record { authority = authority; subs = subs }

same_parts : (left right : SidValue) → (left.authority ≡ right.authority) × (left.subs ≡ right.subs) → left ≡ right
same_parts left right (authority, subs) =
    let e : made left.authority left.subs ≡ made right.authority right.subs = cc in e

parts_same : (left right : SidValue) → left ≡ right → (left.authority ≡ right.authority) × (left.subs ≡ right.subs)
parts_same left right same = (ap (λ (sid : SidValue). sid.authority) same, ap (λ (sid : SidValue). sid.subs) same)

sid_eq-decides : (left right : SidValue) → Decides (sid_eq left right) (left ≡ right)
sid_eq-decides left right =
    Decides-like (sid_eq left right) (same_parts left right) (parts_same left right)
    (Decides-and (left.authority == right.authority) (bytes_eq left.subs right.subs)
    (Decides-eqb left.authority right.authority) (bytes_eq-Decides left.subs right.subs))

is_eq-then : (o p : Ordering) → is_eq (ordering_then o p) ≡ (is_eq o && is_eq p)
is_eq-then Less p = refl
is_eq-then Equal p = refl
is_eq-then Greater p = refl

is_eq-nat_cmp : (a b : ℕ) → is_eq (nat_cmp a b) ≡ (a == b)
is_eq-nat_cmp a b = grind (arith, nat_tests)

is_eq-sid_cmp : (left right : SidValue) → is_eq (sid_cmp left right) ≡ sid_eq left right
is_eq-sid_cmp left right =
    is_eq-then (nat_cmp left.authority right.authority) (slice_cmp nat_cmp left.subs right.subs)
    ∙ ap (λ b. b && is_eq (slice_cmp nat_cmp left.subs right.subs)) (is_eq-nat_cmp left.authority right.authority)
    ∙ ap (λ b. (left.authority == right.authority) && b) (is_eq-slice_cmp left.subs right.subs)

pub equal_sids : (left right : SidValue) → ((sid_eq left right ≡ true) ↔ (left ≡ right))
    × ((sid_cmp left right ≡ Equal) ↔ (left ≡ right))
equal_sids left right =
    let same = sid_eq-decides left right in
    let equal = Equal-is (sid_cmp left right) in
    let tests = is_eq-sid_cmp left right in
    ((same.0, same.1), (λ is. same.0 (sym tests ∙ equal.1 is), λ is. equal.0 (tests ∙ same.1 is)))
