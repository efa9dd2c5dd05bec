-- An account holds the rights that were added to it, those that it held before, and no other.
use Rattle.std.proofs.Common.{◌≡◌, ℕ, ◌^◌, ◌==◌, Bool, true, false, not, cond, List, [], ◌∷◌, Option, Some}
use Rattle.std.proofs.Common.{None, is_some, refl, sym, ap, subst, ◌∙◌, arith}
use Rattle.std.specs.Prelude.{◌&&◌, ◌||◌, bit_and, bit_or}
use Rattle.std.specs.Int.{bit_not, w32}
use Rattle.std.specs.Int.Bits.{and_zero_l}
use Rattle.std.specs.List.{list_any}
use Rattle.std.proofs.lemmas.Bool.Decides.{nat_tests}
use Rattle.acct_calls.specs.declared.calls.Args.{Args}
use Rattle.acct_tables.specs.declared.row.Held.{Held}
use Rattle.acct_tables.specs.declared.row.LsaRow.{LsaRow}
use Rattle.dtyp_sid.specs.Sids.{SidValue}
use Rattle.lsad_rights.specs.Accounts.{new_account}
use Rattle.lsad_rights.specs.Holdings.{scalar_held, with_held, with_missing, without_held, held_at, takes_all}
use Rattle.lsad_rights.specs.ChangeLaws.{is_right, names_right}
use Rattle.lsad_rights.specs.Rights.{bit_of, has_right, low_of, has_privilege, holds, right_named}
use Rattle.lsad_rights.specs.RightsChanges.{with_right, with_rights, without_right, without_rights, left_of}
use Rattle.lsad_rights.specs.RightsChanges.{brought_names}
use Rattle.lsad_rights.specs.declared.logon_rights.LogonRight.{LogonRight}
use Rattle.lsad_rights.specs.declared.rights.AccountRight.{AccountRight}
use Rattle.lsad_rights.specs.declared.rights.AccountRight.TheVariants.{Privilege, Logon}
use Rattle.lsad_rights.proofs.AccessBits.{has_bit, bit-set, bit-cleared}
use Rattle.lsad_rights.proofs.Ascending.{held-with, has-held, held-without, held-left}
use Rattle.lsad_rights.proofs.Numbers.{place_of, bit-at-place, place-fits, bit-fits}

equal : (m n : ℕ) → (m == n) ≡ true → m ≡ n
equal m n e = grind (arith, nat_tests)

-- ---- privileges

some-either : (b : Bool) (p : Held) (o : Option Held) → is_some (cond b (Some p) o) ≡ (b || is_some o)
some-either true p o = refl
some-either false p o = refl

has-with : (low : ℕ) (p : Held) (held : List Held)
    → has_privilege low (with_held p held) ≡ ((p.low == low) || has_privilege low held)
has-with low p held =
    has-held low (with_held p held) ∙ ap is_some (held-with low p held)
    ∙ some-either (p.low == low) p (held_at low held) ∙ ap (λ b. (p.low == low) || b) (sym (has-held low held))

has-missing : (low q : ℕ) (held : List Held)
    → has_privilege low (with_missing q held) ≡ ((q == low) || has_privilege low held)
has-missing low q held = elim (has_privilege q held) as
    (λ b. has_privilege q held ≡ b → has_privilege low (cond b held (with_held (scalar_held q) held))
    ≡ ((q == low) || has_privilege low held)) [
      | true ↦ λ is. elim (q == low) as
          (λ e. (q == low) ≡ e → has_privilege low held ≡ (e || has_privilege low held)) [
            | true ↦ λ same. subst (λ n. has_privilege n held ≡ true) (equal q low same) is
            | false ↦ λ other. refl
          ] refl
      | false ↦ λ is. has-with low (scalar_held q) held
    ] refl

-- what was taken away isn't held; each other privilege is
pub held-removed : (gone low : ℕ) (held : List Held)
    → held_at low (without_held gone held) ≡ cond (gone == low) None (held_at low held)
held-removed gone low held = elim (gone == low) as
    (λ b. (gone == low) ≡ b → held_at low (without_held gone held) ≡ cond b None (held_at low held)) [
      | true ↦ λ same. held-without low (λ h. not (h.low == gone)) held
          (λ x e. this-goes x e (equal gone low same))
      | false ↦ λ other. held-left low (λ h. not (h.low == gone)) held (λ x e. other-stays x e other)
    ] refl
  where
    this-goes : (x : Held) → (x.low == low) ≡ true → gone ≡ low → not (x.low == gone) ≡ false
    this-goes x e same = subst (λ n. not (x.low == n) ≡ false) (sym same) (ap not e)

    other-stays : (x : Held) → (x.low == low) ≡ true → (gone == low) ≡ false → not (x.low == gone) ≡ true
    other-stays x e other = grind (arith, nat_tests)

none-either : (b : Bool) (o : Option Held) → is_some (cond b None o) ≡ (not b && is_some o)
none-either true o = refl
none-either false o = refl

has-removed : (low gone : ℕ) (held : List Held)
    → has_privilege low (without_held gone held) ≡ (not (gone == low) && has_privilege low held)
has-removed low gone held =
    has-held low (without_held gone held) ∙ ap is_some (held-removed gone low held)
    ∙ none-either (gone == low) (held_at low held) ∙ ap (λ b. not (gone == low) && b) (sym (has-held low held))

-- ---- rights to log on

has-set : (access : ℕ) (a b : LogonRight)
    → has_right (bit_or access (bit_of b)) a ≡ ((bit_of b == bit_of a) || has_right access a)
has-set access a b =
    subst (λ m. has_bit (bit_or access m) (bit_of a) ≡ ((m == bit_of a) || has_bit access (bit_of a)))
    (sym (bit-at-place b))
    (subst (λ n. has_bit (bit_or access (2 ^ place_of b)) n ≡ ((2 ^ place_of b == n) || has_bit access n))
    (sym (bit-at-place a)) (bit-set access (place_of a) (place_of b)))

has-cleared : (access : ℕ) (a b : LogonRight)
    → has_right (bit_and access (bit_not w32 (bit_of b))) a ≡ (not (bit_of b == bit_of a) && has_right access a)
has-cleared access a b =
    subst (λ m. has_bit (bit_and access (bit_not w32 m)) (bit_of a) ≡
    (not (m == bit_of a) && has_bit access (bit_of a)))
    (sym (bit-at-place b))
    (subst (λ n. has_bit (bit_and access (bit_not w32 (2 ^ place_of b))) n
    ≡ (not (2 ^ place_of b == n) && has_bit access n))
    (sym (bit-at-place a)) (bit-cleared access (place_of a) (place_of b) (place-fits a) (bit-fits b)))

-- ---- one right

one-added : (right : AccountRight) (o : Option AccountRight) (l : LsaRow)
    → holds right (with_right o l) ≡ (is_right right o || holds right l)
one-added right None l = refl
one-added (Privilege p) (Some (Privilege q)) l = has-missing (low_of p) (low_of q) l.privileges
one-added (Privilege p) (Some (Logon b)) l = refl
one-added (Logon a) (Some (Privilege q)) l = refl
one-added (Logon a) (Some (Logon b)) l = has-set l.access a b

one-taken : (right : AccountRight) (o : Option AccountRight) (l : LsaRow)
    → holds right (without_right o l) ≡ (not (is_right right o) && holds right l)
one-taken right None l = refl
one-taken (Privilege p) (Some (Privilege q)) l = has-removed (low_of p) (low_of q) l.privileges
one-taken (Privilege p) (Some (Logon b)) l = refl
one-taken (Logon a) (Some (Privilege q)) l = refl
one-taken (Logon a) (Some (Logon b)) l = has-cleared l.access a b

-- ---- each of some rights

either-way : (a b c : Bool) → (a || (b || c)) ≡ ((b || a) || c)
either-way true true c = refl
either-way true false c = refl
either-way false true c = refl
either-way false false c = refl

pub rights-added : (right : AccountRight) (names : List (List ℕ)) (l : LsaRow)
    → holds right (with_rights names l) ≡ (list_any (names_right right) names || holds right l)
rights-added right [] l = refl
rights-added right (name ∷ names) l =
    rights-added right names (with_right (right_named name) l)
    ∙ ap (λ b. list_any (names_right right) names || b) (one-added right (right_named name) l)
    ∙ either-way (list_any (names_right right) names) (names_right right name) (holds right l)

neither-way : (a b c : Bool) → (not a && (not b && c)) ≡ (not (b || a) && c)
neither-way true true c = refl
neither-way true false c = refl
neither-way false true c = refl
neither-way false false c = refl

rights-taken : (right : AccountRight) (names : List (List ℕ)) (l : LsaRow)
    → holds right (without_rights names l) ≡ (not (list_any (names_right right) names) && holds right l)
rights-taken right [] l = refl
rights-taken right (name ∷ names) l =
    rights-taken right names (without_right (right_named name) l)
    ∙ ap (λ b. not (list_any (names_right right) names) && b) (one-taken right (right_named name) l)
    ∙ neither-way (list_any (names_right right) names) (names_right right name) (holds right l)

-- a new account holds none
pub new-holds : (right : AccountRight) (sid : SidValue) → holds right (new_account sid) ≡ false
new-holds (Privilege p) sid = refl
new-holds (Logon a) sid = ap (λ n. not (n == 0)) (and_zero_l (bit_of a))

pub rights-left : (right : AccountRight) (asked : Args) (l : LsaRow)
    → holds right (left_of asked l)
    ≡ (not (takes_all asked || list_any (names_right right) (brought_names asked)) && holds right l)
rights-left right asked l = elim (takes_all asked) as
    (λ b. holds right (cond b (new_account l.sid) (without_rights (brought_names asked) l))
    ≡ (not (b || list_any (names_right right) (brought_names asked)) && holds right l)) [
      | true ↦ new-holds right l.sid
      | false ↦ rights-taken right (brought_names asked) l
    ]

-- ---- attributes

kept-missing : (low q : ℕ) (h : Held) (held : List Held) → held_at low held ≡ Some h
    → held_at low (with_missing q held) ≡ Some h
kept-missing low q h held was = elim (has_privilege q held) as
    (λ b. has_privilege q held ≡ b → held_at low (cond b held (with_held (scalar_held q) held)) ≡ Some h) [
      | true ↦ λ is. was
      | false ↦ λ is. held-with low (scalar_held q) held ∙ elim (q == low) as
          (λ e. (q == low) ≡ e → cond e (Some (scalar_held q)) (held_at low held) ≡ Some h) [
            | true ↦ λ same. cc (here (equal q low same), is)
            | false ↦ λ other. was
          ] refl
    ] refl
  where
    here : q ≡ low → has_privilege q held ≡ true
    here same = subst (λ n. has_privilege n held ≡ true) (sym same) (has-held low held ∙ ap is_some was)

one-keeps : (low : ℕ) (h : Held) (o : Option AccountRight) (l : LsaRow) → held_at low l.privileges ≡ Some h
    → held_at low (with_right o l).privileges ≡ Some h
one-keeps low h None l was = was
one-keeps low h (Some (Privilege q)) l was = kept-missing low (low_of q) h l.privileges was
one-keeps low h (Some (Logon b)) l was = was

pub attributes-kept : (low : ℕ) (h : Held) (names : List (List ℕ)) (l : LsaRow) → held_at low l.privileges ≡ Some h
    → held_at low (with_rights names l).privileges ≡ Some h
attributes-kept low h [] l was = was
attributes-kept low h (name ∷ names) l was =
    attributes-kept low h names (with_right (right_named name) l) (one-keeps low h (right_named name) l was)

-- ---- the SID

one-sid-with : (o : Option AccountRight) (l : LsaRow) → (with_right o l).sid ≡ l.sid
one-sid-with None l = refl
one-sid-with (Some (Privilege p)) l = refl
one-sid-with (Some (Logon b)) l = refl

pub sid-with : (names : List (List ℕ)) (l : LsaRow) → (with_rights names l).sid ≡ l.sid
sid-with [] l = refl
sid-with (name ∷ names) l =
    sid-with names (with_right (right_named name) l) ∙ one-sid-with (right_named name) l

one-sid-without : (o : Option AccountRight) (l : LsaRow) → (without_right o l).sid ≡ l.sid
one-sid-without None l = refl
one-sid-without (Some (Privilege p)) l = refl
one-sid-without (Some (Logon b)) l = refl

sid-without : (names : List (List ℕ)) (l : LsaRow) → (without_rights names l).sid ≡ l.sid
sid-without [] l = refl
sid-without (name ∷ names) l =
    sid-without names (without_right (right_named name) l) ∙ one-sid-without (right_named name) l

pub sid-left : (asked : Args) (l : LsaRow) → (left_of asked l).sid ≡ l.sid
sid-left asked l = elim (takes_all asked) as
    (λ b. (cond b (new_account l.sid) (without_rights (brought_names asked) l)).sid ≡ l.sid) [
      | true ↦ refl
      | false ↦ sid-without (brought_names asked) l
    ]
