-- What is displayed goes on after a page with what the page didn't give.
use Rattle.std.proofs.Common.{◌≡◌, ℕ, ◌+◌, ◌-◌, Bool, true, false, cond, List, [], ◌∷◌, ◌++◌, length, take, drop}
use Rattle.std.proofs.Common.{refl, ap, ◌∙◌}
use Rattle.std.specs.Prelude.{zero, suc, min, nat_le, nat_lt}
use Rattle.std.proofs.lemmas.List.{drop-drop}
use Rattle.acct_calls.specs.declared.lists.DisplayRow.{DisplayRow}
use Rattle.acct_codes.specs.Limits.{most_page}
use Rattle.acct_rules.specs.Pages.{within, page}
use Rattle.samr_objects.specs.Enumerations.{display_cost}
use Rattle.samr_objects.specs.Laws.{display_page, DisplayGoesOn}

abbrev lefts : ℕ → ℕ → List DisplayRow → List DisplayRow
lefts left count xs = within display_cost left (take count xs)

parts-one : (b : Bool) (x : DisplayRow) (xs given : List DisplayRow) → xs ≡ given ++ drop (length given) xs
    → x ∷ xs ≡ cond b (x ∷ given) [] ++ drop (length (cond b (x ∷ given) [])) (x ∷ xs)
parts-one true x xs given rest = ap (λ (ys : List DisplayRow). x ∷ ys) rest
parts-one false x xs given rest = refl

parts : (left count : ℕ) (xs : List DisplayRow) → xs ≡ lefts left count xs ++ drop (length (lefts left count xs)) xs
parts left zero xs = refl
parts left (suc count) [] = refl
parts left (suc count) (x ∷ xs) =
    parts-one (nat_le (display_cost x) left) x xs (lefts (left - display_cost x) count xs)
    (parts (left - display_cost x) count xs)

abbrev paged : ℕ → ℕ → List DisplayRow → List DisplayRow
paged preferred count xs = page display_cost preferred (take count xs)

page-parts : (preferred count : ℕ) (xs : List DisplayRow)
    → xs ≡ paged preferred count xs ++ drop (length (paged preferred count xs)) xs
page-parts preferred zero xs = refl
page-parts preferred (suc count) [] = refl
page-parts preferred (suc count) (x ∷ xs) =
    ap (λ (ys : List DisplayRow). x ∷ ys) (parts (min preferred most_page - display_cost x) count xs)

none-left : (preferred count : ℕ) (xs : List DisplayRow) → nat_lt 0 count ≡ true → paged preferred count xs ≡ [] →
    xs ≡ []
none-left preferred zero xs some none = cc
none-left preferred (suc count) [] some none = refl
none-left preferred (suc count) (x ∷ xs) some none = cc

pub goes-on : (all : List DisplayRow) → DisplayGoesOn all
goes-on all = record {
  once = λ index count preferred.
      page-parts preferred count (drop index all)
      ∙ ap (λ ys. display_page all index count preferred ++ ys)
      (drop-drop (length (display_page all index count preferred)) index all);
  empty = λ index count preferred some none. none-left preferred count (drop index all) some none;
}
