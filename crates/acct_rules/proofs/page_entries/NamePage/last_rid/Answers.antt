-- The last entry's number is the last one.
use Rattle.std.proofs.Common.{◌≡◌, ℕ, ◌-◌, List, [], ◌∷◌, length, Some, slice_get, suc, zero, sym, ap, ◌∙◌, arith}
use Rattle.acct_calls.specs.declared.lists.RidName.{RidName}
use Rattle.acct_rules.specs.Pages.{last_rid}
use Rattle.acct_rules.proofs.page_entries.NamePage.last_rid.Goals as goal

last-at : (before n : ℕ) (entries : List RidName) (last : RidName) → length entries ≡ suc n
    → slice_get entries n ≡ Some last → last_rid before entries ≡ last.rid
last-at before n [] last count at = absurd (omega arith)
last-at before zero (x ∷ []) last count at = let e : x ≡ last = cc in ap (λ (y : RidName). y.rid) e
last-at before (suc n) (x ∷ []) last count at = absurd (omega arith)
last-at before zero (x ∷ y ∷ ys) last count at = absurd (omega arith)
last-at before (suc n) (x ∷ y ∷ ys) last count at =
    last-at x.rid n (y ∷ ys) last (omega arith) at

last-is : (before : ℕ) (entries : List RidName) (last : RidName)
    → slice_get entries (length entries - 1) ≡ Some last → last_rid before entries ≡ last.rid
last-is before [] last at = cc
last-is before (x ∷ xs) last at =
    last-at before (length xs) (x ∷ xs) last (omega arith)
    (let e : length (x ∷ xs) - 1 ≡ length xs = omega arith in cc)

pub returns-in-Some : goal.returns-in-Some
returns-in-Some c =
    let entries = c.as_slice.result.now in
    sym (ap (λ (es : List RidName). last_rid c.args.before es) (sym c.as_slice.ensures)
    ∙ last-is c.args.before entries c.in-Some.entry.now (sym c.in-Some.ensures.value))
