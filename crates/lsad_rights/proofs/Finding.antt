-- The privileges stand by their LUIDs without a gap, so that the place in the table finds one.
use Rattle.std.proofs.Common.{◌≡◌, ℕ, ◌+◌, ◌-◌, ◌<◌, ◌≤◌, ◌==◌, Bool, true, false, cond, List, [], ◌∷◌}
use Rattle.std.proofs.Common.{Option, Some, None, slice_get, suc, zero, length, get_or, Bor, is_some, nat_lt, refl}
use Rattle.std.proofs.Common.{sym, ap, ◌∙◌, arith}
use Rattle.std.specs.Prelude.{◌&&◌}
use Rattle.std.specs.List.{find}
use Rattle.std.specs.Option.{IfSome, option_copied}
use Rattle.std.specs.Cmp.{first_so, second_so}
use Rattle.std.proofs.lemmas.Bool.Decides.{nat_tests}
use Rattle.std.proofs.lemmas.Option.{slice_get_past, slice_get_read}
use Rattle.acct_codes.specs.Privileges.{se_create_token}
use Rattle.lsad_rights.specs.Rights.{privilege_row, low_of, privileges, has_low, privilege_of}
use Rattle.lsad_rights.specs.declared.privileges.KnownPrivilege.{KnownPrivilege}

-- each has the next LUID, from one on
abbrev stand_from : ℕ → List KnownPrivilege → Bool
stand_from low [] = true
stand_from low (p ∷ ps) = (low_of p == low) && stand_from (low + 1) ps

privileges-stand : stand_from se_create_token privileges ≡ true
unfolding privileges privilege_row
privileges-stand = refl

-- none has a LUID before the first
none-before : (first low : ℕ) (ps : List KnownPrivilege) → stand_from first ps ≡ true → low < first
    → find (has_low low) ps ≡ None
none-before first low [] stand before = refl
none-before first low (p ∷ ps) stand before =
    let is : (low_of p == first) ≡ true = first_so _ _ stand in
    let other : (low_of p == low) ≡ false = grind (arith, nat_tests) in
    ap (λ b. cond b (Some p) (find (has_low low) ps)) other
    ∙ none-before (first + 1) low ps (second_so _ _ stand) (omega arith)

-- the privilege at a place of the table, whose first LUID is known
at : (first low place : ℕ) (p : KnownPrivilege) (ps : List KnownPrivilege) → low - first ≡ place → first ≤ low
    → (low_of p == first) ≡ true → (first + 1 ≤ low → find (has_low low) ps ≡ slice_get ps (low - (first + 1)))
    → find (has_low low) (p ∷ ps) ≡ slice_get (p ∷ ps) place
at first low zero p ps is from stands rest =
    let same : (low_of p == low) ≡ true = grind (arith, nat_tests) in
    ap (λ b. cond b (Some p) (find (has_low low) ps)) same
at first low (suc place) p ps is from stands rest =
    let other : (low_of p == low) ≡ false = grind (arith, nat_tests) in
    let next : low - (first + 1) ≡ place = omega arith in
    ap (λ b. cond b (Some p) (find (has_low low) ps)) other ∙ rest (omega arith) ∙ ap (slice_get ps) next

-- so it is with every list of privileges that stand without a gap
at-place : (first low : ℕ) (ps : List KnownPrivilege) → stand_from first ps ≡ true → first ≤ low
    → find (has_low low) ps ≡ slice_get ps (low - first)
at-place first low [] stand from = refl
at-place first low (p ∷ ps) stand from =
    at first low (low - first) p ps refl from (first_so _ _ stand)
    (λ above. at-place (first + 1) low ps (second_so _ _ stand) above)

pub low-found : (low : ℕ) → se_create_token ≤ low → privilege_of low ≡ slice_get privileges (low - se_create_token)
low-found low from = at-place se_create_token low privileges privileges-stand from

pub low-missing : (low : ℕ) → low < se_create_token → privilege_of low ≡ None
low-missing low below = none-before se_create_token low privileges privileges-stand below

-- what `get` and `copied` give is the element at the place
pub got : {A : Type 0} (found : Option (Bor A)) (xs : List A) (place : ℕ) → is_some found ≡ nat_lt place (length xs)
    → IfSome found (λ x. x.now ≡ get_or xs place x.now) → option_copied found ≡ slice_get xs place
got None xs place there value = sym (slice_get_past xs place (grind (arith, nat_tests)))
got (Some x) xs place there value =
    sym (slice_get_read xs (length xs) place x.now refl (grind (arith, nat_tests)) value)
