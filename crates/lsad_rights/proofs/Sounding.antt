-- Changes of an account of the policy keep its rules.
use Rattle.std.proofs.Common.{◌≡◌, ℕ, ◌==◌, Bool, true, false, not, cond, All, List, [], ◌∷◌, Option, Some, None}
use Rattle.std.proofs.Common.{is_some, refl, arith, lit<}
use Rattle.std.specs.Prelude.{◌||◌, bit_and, bit_or}
use Rattle.std.specs.Int.{bit_not, w32}
use Rattle.std.specs.Cmp.{second_so}
use Rattle.std.specs.List.{filter, list_any}
use Rattle.std.proofs.lemmas.Bool.Decides.{nat_tests}
use Rattle.std.proofs.lemmas.List.Elements.{All-nil, All-cons, All-head, All-tail, All-filter}
use Rattle.acct_calls.specs.declared.calls.Args.{Args}
use Rattle.acct_calls.specs.declared.lists.Privilege.{Privilege}
use Rattle.acct_codes.specs.Privileges.{known_system_access}
use Rattle.acct_layouts.specs.Values.{IsPrivilege}
use Rattle.acct_tables.specs.Good.{are_above, IsKnown, IsGoodLsa}
use Rattle.acct_tables.specs.declared.row.Held.{Held}
use Rattle.acct_tables.specs.declared.row.LsaRow.{LsaRow}
use Rattle.dtyp_sid.specs.Sids.{SidValue, IsSid}
use Rattle.lsad_rights.specs.Accounts.{new_account}
use Rattle.lsad_rights.specs.RightsChanges.{with_right, with_rights, without_right, without_rights, left_of}
use Rattle.lsad_rights.specs.RightsChanges.{brought_names}
use Rattle.lsad_rights.specs.Holdings.{is_known, is_unknown, held_of, scalar_held, with_held, with_missing, with_each}
use Rattle.lsad_rights.specs.Holdings.{without_held, without_each, is_among, brought_privileges, takes_all}
use Rattle.lsad_rights.specs.Holdings.{brought_access, has_unknown_bits, with_privileges, without_privileges}
use Rattle.lsad_rights.specs.Holdings.{with_access}
use Rattle.lsad_rights.specs.Holdings as holdings
use Rattle.lsad_rights.specs.Rights.{bit_of, low_of, privilege_of, has_privilege, right_named}
use Rattle.lsad_rights.specs.declared.rights.AccountRight.{AccountRight}
use Rattle.lsad_rights.specs.declared.rights.AccountRight.TheVariants.{Privilege as APrivilege, Logon}
use Rattle.lsad_rights.proofs.AccessBits.{or-within, and-within}
use Rattle.lsad_rights.proofs.Ascending.{with-ascends, filter-ascends, with-known}
use Rattle.lsad_rights.proofs.Numbers.{low-between, known-between, bit-known}

-- ---- a new account

pub new-good : (sid : SidValue) → IsSid sid → IsGoodLsa (new_account sid)
new-good sid whole = record {
  sid_whole = whole;
  access_known = refl;
  privileges_ascend = refl;
  privileges_known = All-nil IsKnown;
}

-- ---- its privileges

-- the two rules of the privileges that an account holds
pub record AreGood (held : List Held) : Type 0 where
  pub ascend : are_above 0 held ≡ true
  pub known : All IsKnown held

pub with-good : (p : Held) (held : List Held) → IsKnown p → AreGood held → AreGood (with_held p held)
with-good p held known good = record {
  ascend = with-ascends 0 p held (omega (arith, known.0)) good.ascend;
  known = with-known p held known good.known;
}

pub filter-good : (q : Held → Bool) (held : List Held) → AreGood held → AreGood (filter q held)
filter-good q held good = record {
  ascend = filter-ascends 0 q held good.ascend;
  known = All-filter q IsKnown held good.known;
}

pub missing-good : (low : ℕ) (held : List Held) → IsKnown (scalar_held low) → AreGood held
    → AreGood (with_missing low held)
missing-good low held known good =
    elim (has_privilege low held) as (λ b. AreGood (cond b held (with_held (scalar_held low) held))) [
      | true ↦ good
      | false ↦ with-good (scalar_held low) held known good
    ]

pub each-good : (ps : List Privilege) (held : List Held) → All (λ p. IsKnown (held_of p)) ps → AreGood held
    → AreGood (with_each ps held)
each-good [] held known good = good
each-good (p ∷ ps) held known good =
    each-good ps (with_held (held_of p) held) (All-tail (λ p. IsKnown (held_of p)) p ps known)
    (with-good (held_of p) held (All-head (λ p. IsKnown (held_of p)) p ps known) good)

-- those that are brought are known, where none of them is unknown
none-unknown : (a b : Bool) → (not a || b) ≡ false → a ≡ true
none-unknown true b h = refl
none-unknown false b h = cc

second-none : (a b : Bool) → (a || b) ≡ false → b ≡ false
second-none true b h = cc
second-none false b h = h

pub brought-known : (ps : List Privilege) → All IsPrivilege ps → list_any is_unknown ps ≡ false
    → All (λ p. IsKnown (held_of p)) ps
brought-known [] whole none = All-nil (λ p. IsKnown (held_of p))
brought-known (p ∷ ps) whole none =
    let is : is_known p ≡ true = none-unknown (is_known p) (list_any is_unknown ps) none in
    let found : is_some (privilege_of p.low) ≡ true = second_so _ _ is in
    let bounds = known-between p.low found in
    let one : IsPrivilege p = All-head IsPrivilege p ps whole in
    All-cons (λ p. IsKnown (held_of p)) p ps (bounds.0, bounds.1, one.2)
    (brought-known ps (All-tail IsPrivilege p ps whole) (second-none (is_unknown p) (list_any is_unknown ps) none))

-- ---- an account with other privileges, or another access

goods : (l : LsaRow) → IsGoodLsa l → AreGood l.privileges
goods l good = record { ascend = good.privileges_ascend; known = good.privileges_known }

holds-good : (l : LsaRow) (held : List Held) → IsGoodLsa l → AreGood held → IsGoodLsa (record l { privileges = held })
holds-good l held good these = record {
  sid_whole = good.sid_whole;
  access_known = good.access_known;
  privileges_ascend = these.ascend;
  privileges_known = these.known;
}

accesses-good : (l : LsaRow) (access : ℕ) → IsGoodLsa l → bit_and access known_system_access ≡ access
    → IsGoodLsa (record l { access = access })
accesses-good l access good known = record {
  sid_whole = good.sid_whole;
  access_known = known;
  privileges_ascend = good.privileges_ascend;
  privileges_known = good.privileges_known;
}

pub adds-good : (asked : Args) (l : LsaRow) → IsGoodLsa l → All IsPrivilege (brought_privileges asked)
    → list_any is_unknown (brought_privileges asked) ≡ false → IsGoodLsa (with_privileges asked l)
adds-good asked l good whole none =
    holds-good l (with_each (brought_privileges asked) l.privileges) good
    (each-good (brought_privileges asked) l.privileges (brought-known (brought_privileges asked) whole none)
    (goods l good))

pub removes-good : (asked : Args) (l : LsaRow) → IsGoodLsa l → IsGoodLsa (without_privileges asked l)
removes-good asked l good =
    holds-good l (holdings.left_of asked l.privileges) good
    (elim (takes_all asked) as
    (λ b. AreGood (cond b [] (without_each (brought_privileges asked) l.privileges))) [
      | true ↦ record { ascend = refl; known = All-nil IsKnown }
      | false ↦ filter-good (λ h. not (is_among (brought_privileges asked) h)) l.privileges (goods l good)
    ])

pub sets-good : (asked : Args) (l : LsaRow) → IsGoodLsa l → has_unknown_bits (brought_access asked) ≡ false
    → IsGoodLsa (with_access asked l)
sets-good asked l good none =
    accesses-good l (brought_access asked) good (known-bits (brought_access asked) none)
  where
    known-bits : (access : ℕ) → has_unknown_bits access ≡ false → bit_and access known_system_access ≡ access
    known-bits access none = grind (arith, nat_tests)

-- ---- rights

one-good : (right : Option AccountRight) (l : LsaRow) → IsGoodLsa l → IsGoodLsa (with_right right l)
one-good None l good = good
one-good (Some (APrivilege p)) l good =
    let bounds = low-between p in
    holds-good l (with_missing (low_of p) l.privileges) good
    (missing-good (low_of p) l.privileges (bounds.0, bounds.1, lit< tt) (goods l good))
one-good (Some (Logon right)) l good =
    accesses-good l (bit_or l.access (bit_of right)) good
    (or-within known_system_access l.access (bit_of right) good.access_known (bit-known right))

pub rights-good : (names : List (List ℕ)) (l : LsaRow) → IsGoodLsa l → IsGoodLsa (with_rights names l)
rights-good [] l good = good
rights-good (name ∷ names) l good =
    rights-good names (with_right (right_named name) l) (one-good (right_named name) l good)

one-less-good : (right : Option AccountRight) (l : LsaRow) → IsGoodLsa l → IsGoodLsa (without_right right l)
one-less-good None l good = good
one-less-good (Some (APrivilege p)) l good =
    holds-good l (without_held (low_of p) l.privileges) good
    (filter-good (λ h. not (h.low == low_of p)) l.privileges (goods l good))
one-less-good (Some (Logon right)) l good =
    accesses-good l (bit_and l.access (bit_not w32 (bit_of right))) good
    (and-within known_system_access l.access (bit_not w32 (bit_of right)) good.access_known)

less-good : (names : List (List ℕ)) (l : LsaRow) → IsGoodLsa l → IsGoodLsa (without_rights names l)
less-good [] l good = good
less-good (name ∷ names) l good =
    less-good names (without_right (right_named name) l) (one-less-good (right_named name) l good)

pub left-good : (asked : Args) (l : LsaRow) → IsGoodLsa l → IsGoodLsa (left_of asked l)
left-good asked l good =
    elim (takes_all asked) as (λ b. IsGoodLsa (cond b (new_account l.sid) (without_rights (brought_names asked) l))) [
      | true ↦ new-good l.sid good.sid_whole
      | false ↦ less-good (brought_names asked) l good
    ]
