-- The operations that add rights to an account of the policy, by its SID, and take them away. A right is a privilege,
-- or a right to log on, which is a bit of the system access.
use Rattle.std.specs.Prelude.{ℕ, ◌+◌, Bool, not, bit_and, bit_or, List, [], ◌∷◌, Option, Some, None, is_some}
use Rattle.std.specs.Prelude.{if◌then◌else◌}
use Rattle.std.specs.Int.{bit_not, w32}
use Rattle.std.specs.List.{list_any}
use Rattle.acct_calls.specs.declared.calls.Args.{Args}
use Rattle.acct_calls.specs.declared.calls.Args.TheVariants as args
use Rattle.acct_codes.specs.Rights.{account_adjust_privileges, account_adjust_system_access}
use Rattle.acct_codes.specs.Statuses.{status_object_name_not_found, status_no_such_privilege}
use Rattle.acct_rows.specs.Rows.{Lists, lsa_at}
use Rattle.acct_tables.specs.declared.object.Object.{Object}
use Rattle.acct_tables.specs.declared.row.LsaRow.{LsaRow}
use Rattle.acct_tables.specs.declared.row.Row.{Row}
use Rattle.acct_tables.specs.declared.row.Row.TheVariants as rows
use Rattle.acct_rules.specs.Planned.{Ruled, when, puts}
use Rattle.acct_rules.specs.declared.planned.Planned.{Planned}
use Rattle.dtyp_sid.specs.Sids.{SidValue}
use Rattle.lsad_rights.specs.Accounts.{new_account, account_of_sid, object_of_sid, guarded}
use Rattle.lsad_rights.specs.Holdings.{with_missing, without_held, takes_all}
use Rattle.lsad_rights.specs.Rights.{bit_of, low_of, right_named}
use Rattle.lsad_rights.specs.declared.rights.AccountRight.{AccountRight}
use Rattle.lsad_rights.specs.declared.rights.AccountRight.TheVariants.{Privilege, Logon}

-- ---- what is brought

abbrev pub brought_sid : Args → Option SidValue
brought_sid (args.Rights sid all names) = Some sid
brought_sid _ = None

abbrev pub brought_names : Args → List (List ℕ)
brought_names (args.Rights sid all names) = names
brought_names _ = []

-- no right has the name
abbrev pub is_no_right : List ℕ → Bool
is_no_right name = not (is_some (right_named name))

-- ---- changes of an account

-- with a right: a privilege that is held already keeps its attributes
abbrev pub with_right : Option AccountRight → LsaRow → LsaRow
with_right None l = l
with_right (Some (Privilege p)) l = record l { privileges = with_missing (low_of p) l.privileges }
with_right (Some (Logon right)) l = record l { access = bit_or l.access (bit_of right) }

abbrev pub with_rights : List (List ℕ) → LsaRow → LsaRow
with_rights [] l = l
with_rights (name ∷ names) l = with_rights names (with_right (right_named name) l)

abbrev pub without_right : Option AccountRight → LsaRow → LsaRow
without_right None l = l
without_right (Some (Privilege p)) l = record l { privileges = without_held (low_of p) l.privileges }
without_right (Some (Logon right)) l = record l { access = bit_and l.access (bit_not w32 (bit_of right)) }

abbrev pub without_rights : List (List ℕ) → LsaRow → LsaRow
without_rights [] l = l
without_rights (name ∷ names) l = without_rights names (without_right (right_named name) l)

-- ---- operations

-- both kinds of rights are adjusted
abbrev pub adjusting : ℕ
adjusting = account_adjust_privileges + account_adjust_system_access

-- some rows are put, where the opening of the account is granted that adjusts them
abbrev pub adjusts : Option SidValue → List Row → Planned
adjusts sid put = guarded (object_of_sid sid) adjusting (puts put)

-- the account of a SID, or a new one
abbrev pub account_or_new : SidValue → Option LsaRow → LsaRow
account_or_new sid None = new_account sid
account_or_new sid (Some l) = l

abbrev pub added_rows : Lists → Option SidValue → List (List ℕ) → List Row
added_rows r None names = []
added_rows r (Some sid) names = rows.Lsa (with_rights names (account_or_new sid (lsa_at r sid))) ∷ []

-- LsarAddAccountRights (MS-LSAD 3.1.4.5.11): the account is made where there is none
abbrev pub add_rights : Lists → Object → Args → Ruled
add_rights r object asked = record {
  conditions = when (list_any is_no_right (brought_names asked)) status_no_such_privilege ∷ [];
  planned = adjusts (brought_sid asked) (added_rows r (brought_sid asked) (brought_names asked));
}

-- an account without any right
abbrev pub without_all : LsaRow → LsaRow
without_all l = new_account l.sid

abbrev pub left_of : Args → LsaRow → LsaRow
left_of asked l = if takes_all asked then without_all l else without_rights (brought_names asked) l

abbrev pub left_rows : Args → Option LsaRow → List Row
left_rows asked None = []
left_rows asked (Some l) = rows.Lsa (left_of asked l) ∷ []

-- LsarRemoveAccountRights (MS-LSAD 3.1.4.5.12): every right, or those that are named; the account stays
abbrev pub remove_rights : Lists → Object → Args → Ruled
remove_rights r object asked = record {
  conditions =
      when (not (is_some (account_of_sid r (brought_sid asked)))) status_object_name_not_found
      ∷ when (list_any is_no_right (brought_names asked)) status_no_such_privilege
      ∷ [];
  planned = adjusts (brought_sid asked) (left_rows asked (account_of_sid r (brought_sid asked)));
}
