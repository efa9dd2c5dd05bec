-- The accounts that are wanted stand after the RID.
use Rattle.std.proofs.Common.{◌≡◌, ◌==◌, nat_lt, Bool, true, false, ◌&&◌, cond, List, [], ◌∷◌, refl, sym, ap, ◌∙◌}
use Rattle.std.specs.List.{filter}
use Rattle.acct_tables.specs.Ranges.{is_behind}
use Rattle.acct_tables.specs.Selected.{same_kind}
use Rattle.acct_tables.specs.declared.row.AccountRow.{AccountRow}
use Rattle.samr_objects.specs.Enumerations.{has_one_of, is_wanted}
use Rattle.samr_objects.specs.declared.enumerations.Wanted.{Wanted}

-- what fails two of four tests fails all
some_fails : (a b c d : Bool) → (a && c) ≡ false → (a && b && c && d) ≡ false
some_fails false b c d e = refl
some_fails true false c d e = refl
some_fails true true false d e = refl
some_fails true true true d e = cc

-- of those that are filtered already the same are wanted
pub wanted_behind : (w : Wanted) (xs : List AccountRow)
    → filter (is_wanted w) (filter (is_behind w.domain w.behind) xs) ≡ filter (is_wanted w) xs
wanted_behind w [] = refl
wanted_behind w (x ∷ xs) =
    elim (is_behind w.domain w.behind x) as
    (λ b. is_behind w.domain w.behind x ≡ b
    → filter (is_wanted w)
    (cond b (x ∷ filter (is_behind w.domain w.behind) xs) (filter (is_behind w.domain w.behind) xs))
    ≡ cond (is_wanted w x) (x ∷ filter (is_wanted w) xs) (filter (is_wanted w) xs)) [
      | true ↦ λ e. ap (λ ys. cond (is_wanted w x) (x ∷ ys) ys) (wanted_behind w xs)
      | false ↦ λ e.
          let not : is_wanted w x ≡ false =
          some_fails (x.domain == w.domain) (same_kind w.kind x.kind) (nat_lt w.behind x.rid)
          (has_one_of w.filter x.bits) e in
          wanted_behind w xs ∙ sym (ap (λ b. cond b (x ∷ filter (is_wanted w) xs) (filter (is_wanted w) xs)) not)
    ] refl
