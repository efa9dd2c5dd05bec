-- The operations that change what an account of the policy holds.
use Rattle.std.specs.Prelude.{ℕ, ◌==◌, nat_lt, Bool, ◌&&◌, not, List, [], ◌∷◌, Option, is_some, if◌then◌else◌, false}
use Rattle.std.specs.Prelude.{bit_and, Some, None}
use Rattle.std.specs.List.{filter, find, list_any}
use Rattle.acct_codes.specs.Statuses.{status_invalid_parameter, status_no_such_privilege}
use Rattle.acct_codes.specs.Privileges.{known_system_access}
use Rattle.acct_calls.specs.declared.calls.Args.{Args}
use Rattle.acct_calls.specs.declared.calls.Args.TheVariants as args
use Rattle.acct_calls.specs.declared.lists.Privilege.{Privilege}
use Rattle.acct_rows.specs.Rows.{Lists}
use Rattle.acct_tables.specs.declared.object.Object.{Object}
use Rattle.acct_tables.specs.declared.row.Held.{Held}
use Rattle.acct_tables.specs.declared.row.LsaRow.{LsaRow}
use Rattle.acct_tables.specs.declared.row.Row.{Row}
use Rattle.acct_tables.specs.declared.row.Row.TheVariants as rows
use Rattle.acct_rules.specs.Planned.{Ruled, when, puts}
use Rattle.lsad_rights.specs.Accounts.{account_of}
use Rattle.lsad_rights.specs.Rights.{privilege_of, has_privilege}

-- ======== the privileges that an account of the policy holds: a set by the low parts of their LUIDs, which stand
-- ascending (MS-LSAD 3.1.1.3)

-- ---- what is brought

-- it is a privilege of the policy: the high parts of their LUIDs are 0
abbrev pub is_known : Privilege → Bool
is_known p = (p.high == 0) && is_some (privilege_of p.low)

abbrev pub is_unknown : Privilege → Bool
is_unknown p = not (is_known p)

-- as an account holds it
abbrev pub held_of : Privilege → Held
held_of p = record { low = p.low; attributes = p.attributes }

-- without attributes
abbrev pub scalar_held : ℕ → Held
scalar_held low = record { low = low; attributes = 0 }

-- ---- the set

-- with a privilege, in its place; it takes the place of the same privilege with other attributes
abbrev pub with_held : Held → List Held → List Held
with_held p [] = p ∷ []
with_held p (h ∷ hs) =
    if nat_lt h.low p.low then h ∷ with_held p hs else (if h.low == p.low then p ∷ hs else p ∷ h ∷ hs)

-- with a privilege, which stays as it is where it is held already
abbrev pub with_missing : ℕ → List Held → List Held
with_missing low held = if has_privilege low held then held else with_held (scalar_held low) held

-- with each of some privileges, in order
abbrev pub with_each : List Privilege → List Held → List Held
with_each [] held = held
with_each (p ∷ ps) held = with_each ps (with_held (held_of p) held)

abbrev pub without_held : ℕ → List Held → List Held
without_held low held = filter (λ h. not (h.low == low)) held

-- without any of some privileges
abbrev pub is_among : List Privilege → Held → Bool
is_among ps h = list_any (λ p. p.low == h.low) ps

abbrev pub without_each : List Privilege → List Held → List Held
without_each ps held = filter (λ h. not (is_among ps h)) held

-- the privilege of a LUID, where it is held
abbrev pub held_at : ℕ → List Held → Option Held
held_at low held = find (λ (h : Held). h.low == low) held

-- ---- its places

-- it stands before the privilege of a LUID
abbrev pub is_below : ℕ → Held → Bool
is_below low h = nat_lt h.low low

-- ======== the operations that change what an account of the policy holds, by a handle to it: its privileges, and its
-- system access

-- ---- what is brought

-- the set of privileges, where one was brought
abbrev pub brought_set : Args → Option (List Privilege)
brought_set (args.Privileges all set) = set
brought_set _ = None

abbrev pub or_none : Option (List Privilege) → List Privilege
or_none None = []
or_none (Some set) = set

-- its privileges; none where none was brought
abbrev pub brought_privileges : Args → List Privilege
brought_privileges asked = or_none (brought_set asked)

-- every privilege, or every right, is taken away
abbrev pub takes_all : Args → Bool
takes_all (args.Privileges all set) = all
takes_all (args.Rights sid all names) = all
takes_all _ = false

-- the system access that is set; 0 where none was brought
abbrev pub brought_access : Args → ℕ
brought_access (args.Bits bits) = bits
brought_access _ = 0

-- ---- changes

-- the account's row with a change
abbrev pub changed : (LsaRow → LsaRow) → Option LsaRow → List Row
changed change None = []
changed change (Some l) = rows.Lsa (change l) ∷ []

-- LsarAddPrivilegesToAccount (MS-LSAD 3.1.4.5.5): each is added, or its attributes are replaced
abbrev pub with_privileges : Args → LsaRow → LsaRow
with_privileges asked l = record l { privileges = with_each (brought_privileges asked) l.privileges }

abbrev pub add_privileges : Lists → Object → Args → Ruled
add_privileges r account asked = record {
  conditions = when (list_any is_unknown (brought_privileges asked)) status_no_such_privilege ∷ [];
  planned = puts (changed (with_privileges asked) (account_of r account));
}

-- LsarRemovePrivilegesFromAccount (MS-LSAD 3.1.4.5.6): every privilege without a set, or those of the set that are held
abbrev pub left_of : Args → List Held → List Held
left_of asked held = if takes_all asked then [] else without_each (brought_privileges asked) held

abbrev pub without_privileges : Args → LsaRow → LsaRow
without_privileges asked l = record l { privileges = left_of asked l.privileges }

abbrev pub bool_eq : Bool → Bool → Bool
bool_eq a b = if a then b else not b

abbrev pub remove_privileges : Lists → Object → Args → Ruled
remove_privileges r account asked = record {
  conditions =
      when (bool_eq (takes_all asked) (is_some (brought_set asked))) status_invalid_parameter
      ∷ when (list_any is_unknown (brought_privileges asked)) status_no_such_privilege
      ∷ [];
  planned = puts (changed (without_privileges asked) (account_of r account));
}

-- LsarSetSystemAccessAccount (MS-LSAD 3.1.4.5.8)
abbrev pub has_unknown_bits : ℕ → Bool
has_unknown_bits access = not (bit_and access known_system_access == access)

abbrev pub with_access : Args → LsaRow → LsaRow
with_access asked l = record l { access = brought_access asked }

abbrev pub set_system_access : Lists → Object → Args → Ruled
set_system_access r account asked = record {
  conditions = when (has_unknown_bits (brought_access asked)) status_invalid_parameter ∷ [];
  planned = puts (changed (with_access asked) (account_of r account));
}
