-- The walk over a list of entries, one right at a time
use Rattle.std.proofs.Common.{◌≡◌, ℕ, List, [], ◌∷◌, ◌++◌, refl, sym, ap, ◌∙◌, Bool, true, false, find, Option, Some}
use Rattle.std.proofs.Common.{None}
use Rattle.std.specs.Prelude.{not, ◌&&◌, ◌||◌, ◌==◌, is_none, if◌then◌else◌}
use Rattle.std.specs.Option.{option_or, option_map_or}
use Rattle.std.proofs.lemmas.List.Folds.{find-append}
use Rattle.dtyp_sid.specs.Sids.{SidValue}
use Rattle.acct_codes.specs.Rights.{maximum_allowed}
use Rattle.dtyp_access.specs.declared.ace.Ace.{Ace}
use Rattle.dtyp_access.specs.Granted.{shares, is_generic, names, applies, is_allow, is_inherit_only, has_sid}
use Rattle.dtyp_access.specs.Granted.{acl_grants, is_owners}

-- whether entries may name the right
abbrev pub is_named : ℕ → Bool
is_named right = not (is_generic right || right == maximum_allowed)

-- after some entries: whether the right is granted so far, and whether it is still undecided
pub record IsWalked (token : List SidValue) (owner : SidValue) (right : ℕ) (aces : List Ace)
    (granted undecided : Bool) : Type 0 where
  pub so_far : granted ≡ (is_owners token owner right || acl_grants token right aces)
  pub open' : undecided ≡ (is_named right && not (is_owners token owner right)
      && is_none (find (applies token right) aces))

pub or_false : (b : Bool) → (b || false) ≡ b
or_false true = refl
or_false false = refl

and_true : (b : Bool) → (b && true) ≡ b
and_true true = refl
and_true false = refl

and_false : (b : Bool) → (b && false) ≡ false
and_false true = refl
and_false false = refl

pub and_swapped : (a b : Bool) → (a && b) ≡ (b && a)
and_swapped true true = refl
and_swapped true false = refl
and_swapped false true = refl
and_swapped false false = refl

-- the walk begins with the owner's rights
pub walked_none : (token : List SidValue) (owner : SidValue) (right : ℕ) (granted undecided : Bool)
    → granted ≡ is_owners token owner right → undecided ≡ (is_named right && not (is_owners token owner right)) →
    IsWalked token owner right [] granted undecided
unfolding acl_grants
walked_none token owner right granted undecided is_granted is_open = record {
  so_far = is_granted ∙ sym (or_false (is_owners token owner right));
  open' = is_open ∙ sym (and_true (is_named right && not (is_owners token owner right)));
}

-- the first of one entry
find_one : (p : Ace → Bool) (ace : Ace) → find p (ace ∷ []) ≡ (if p ace then Some ace else None)
find_one p ace = elim (p ace) as
    (λ b. (if b then Some ace else None) ≡ (if b then Some ace else None)) [ true ↦ refl | false ↦ refl ]

shuffled : (a b c : Bool) → (a && c && b) ≡ (a && b && c)
shuffled true true true = refl
shuffled true true false = refl
shuffled true false true = refl
shuffled true false false = refl
shuffled false b c = refl

-- an entry applies where it speaks of the token and names the right
applies_if : (token : List SidValue) (right : ℕ) (ace : Ace) (speaks : Bool) →
    (not (is_inherit_only ace) && has_sid token ace.sid) ≡ speaks
    → applies token right ace ≡ (speaks && (shares ace.mask right && is_named right))
unfolding applies names
applies_if token right ace speaks is =
    shuffled (not (is_inherit_only ace)) (has_sid token ace.sid) (shares ace.mask right && is_named right)
    ∙ ap (λ b. b && (shares ace.mask right && is_named right)) is

-- the first of the entries and one more
find_more : (token : List SidValue) (right : ℕ) (aces : List Ace) (ace : Ace) (speaks : Bool) →
    (not (is_inherit_only ace) && has_sid token ace.sid) ≡ speaks
    → find (applies token right) (aces ++ ace ∷ [])
    ≡ option_or (find (applies token right) aces)
    (if speaks && (shares ace.mask right && is_named right) then Some ace else None)
find_more token right aces ace speaks is =
    find-append (applies token right) aces (ace ∷ [])
    ∙ ap (option_or (find (applies token right) aces))
    (find_one (applies token right) ace
    ∙ ap (λ b. if b then Some ace else None) (applies_if token right ace speaks is))

or_none : (o : Option Ace) → option_or o None ≡ o
or_none None = refl
or_none (Some ace) = refl

-- one entry more that doesn't speak of the token
pub walked_past : (token : List SidValue) (owner : SidValue) (right : ℕ) (aces : List Ace) (ace : Ace)
    (granted undecided : Bool)
    → (not (is_inherit_only ace) && has_sid token ace.sid) ≡ false → IsWalked token owner right aces granted undecided →
    IsWalked token owner right (aces ++ ace ∷ []) granted undecided
unfolding acl_grants
walked_past token owner right aces ace granted undecided silent walked =
    let same : find (applies token right) (aces ++ ace ∷ []) ≡ find (applies token right) aces =
    find_more token right aces ace false silent ∙ or_none (find (applies token right) aces) in
    record {
      so_far = walked.so_far ∙ ap (λ found. is_owners token owner right || option_map_or is_allow found false)
          (sym same);
      open' = walked.open' ∙ ap (λ found. is_named right && not (is_owners token owner right) && is_none found)
          (sym same);
    }

allow_if : (b : Bool) (ace : Ace) → option_map_or is_allow (if b then Some ace else None) false ≡ (b && is_allow ace)
allow_if true ace = refl
allow_if false ace = refl

none_if : (b : Bool) (ace : Ace) → is_none (if b then Some ace else None) ≡ not b
none_if true ace = refl
none_if false ace = refl

and_false_right : (l s n : Bool) → (true || (l && s && (n && false && true))) ≡ true
and_false_right l s n = refl

-- the tests, where no entry has decided: w says that the right is the owner's, n that entries may name it, s that this
-- one does, l that it allows
granted_first : (w n s l : Bool) → ((w || false) || (l && s && (n && not w && true))) ≡ (w || ((s && n) && l))
granted_first true n s l = and_false_right l s n
granted_first false true true true = refl
granted_first false true true false = refl
granted_first false true false true = refl
granted_first false true false false = refl
granted_first false false true true = refl
granted_first false false true false = refl
granted_first false false false true = refl
granted_first false false false false = refl

open_first : (w n s : Bool) → ((n && not w && true) && not s) ≡ (n && not w && not (s && n))
open_first w false s = refl
open_first true true s = refl
open_first false true true = refl
open_first false true false = refl

-- one entry more that speaks of the token
pub walked_by : (token : List SidValue) (owner : SidValue) (right : ℕ) (aces : List Ace) (ace : Ace)
    (granted undecided : Bool)
    → (not (is_inherit_only ace) && has_sid token ace.sid) ≡ true → IsWalked token owner right aces granted undecided
    → IsWalked token owner right (aces ++ ace ∷ []) (granted || (is_allow ace && shares ace.mask right && undecided))
    (undecided && not (shares ace.mask right))
unfolding acl_grants
walked_by token owner right aces ace granted undecided speaks walked =
    let w = is_owners token owner right in
    let n = is_named right in
    let s = shares ace.mask right in
    let l = is_allow ace in
    let next : Option Ace = if s && n then Some ace else None in
    let found : find (applies token right) (aces ++ ace ∷ []) ≡ option_or (find (applies token right) aces) next =
    find_more token right aces ace true speaks in
    record {
      so_far =
          ap (λ g. g || (l && s && undecided)) walked.so_far
          ∙ ap (λ u. (w || option_map_or is_allow (find (applies token right) aces) false)
          || (l && s && u)) walked.open'
          ∙ (elim (find (applies token right) aces) as
          (λ o. ((w || option_map_or is_allow o false) || (l && s && (n && not w && is_none o)))
          ≡ (w || option_map_or is_allow (option_or o next) false)) [
            | None ↦ granted_first w n s l ∙ ap (λ b. w || b) (sym (allow_if (s && n) ace))
            | Some first ↦ ap (λ b. (w || is_allow first) || (l && s && b)) (and_false (n && not w))
                ∙ ap (λ b. (w || is_allow first) || b) (and_false (l && s)) ∙ or_false (w || is_allow first)
          ])
          ∙ ap (λ o. w || option_map_or is_allow o false) (sym found);
      open' =
          ap (λ u. u && not s) walked.open'
          ∙ (elim (find (applies token right) aces) as
          (λ o. ((n && not w && is_none o) && not s) ≡ (n && not w && is_none (option_or o next))) [
            | None ↦ open_first w n s ∙ ap (λ b. n && not w && b) (sym (none_if (s && n) ace))
            | Some first ↦ ap (λ b. b && not s) (and_false (n && not w)) ∙ sym (and_false (n && not w))
          ])
          ∙ ap (λ o. n && not w && is_none o) (sym found);
    }

-- the same walk, with its answers given otherwise
pub walked_as : (token : List SidValue) (owner : SidValue) (right : ℕ) (aces : List Ace)
    (granted granted' undecided undecided' : Bool)
    → granted' ≡ granted → undecided' ≡ undecided → IsWalked token owner right aces granted undecided →
    IsWalked token owner right aces granted' undecided'
walked_as token owner right aces granted granted' undecided undecided' same_granted same_undecided walked = record {
  so_far = same_granted ∙ walked.so_far;
  open' = same_undecided ∙ walked.open';
}
