-- The operations that list privileges, accounts and rights, and that look for a privilege.
use Rattle.std.specs.Prelude.{ℕ, ◌+◌, ◌==◌, Bool, nat_lt, List, [], length, map, drop, if◌then◌else◌, not, ◌∷◌, Option}
use Rattle.std.specs.Prelude.{Some, None, is_some, ◌++◌, true}
use Rattle.std.specs.List.{filter}
use Rattle.std.specs.Option.{option_map}
use Rattle.acct_codes.specs.Limits.{page_entry_cost}
use Rattle.acct_codes.specs.Rights.{account_view}
use Rattle.acct_codes.specs.Statuses.{status_no_more_entries, status_success, status_no_such_privilege}
use Rattle.acct_codes.specs.Statuses.{status_object_name_not_found}
use Rattle.dtyp_sid.specs.Sids.{bytes_of, SidValue}
use Rattle.acct_calls.specs.declared.calls.Args.{Args}
use Rattle.acct_calls.specs.declared.calls.Args.TheVariants as args
use Rattle.acct_calls.specs.declared.lists.RidName.{RidName}
use Rattle.acct_calls.specs.declared.replies.Outs.TheVariants as outs
use Rattle.acct_rows.specs.Rows.{Lists}
use Rattle.acct_tables.specs.declared.object.Object.{Object}
use Rattle.acct_tables.specs.declared.row.Held.{Held}
use Rattle.acct_tables.specs.declared.row.LsaRow.{LsaRow}
use Rattle.acct_rules.specs.Asked.{asked_context, asked_length, asked_name, asked_sid}
use Rattle.acct_rules.specs.Pages.{entry, entry_cost, last_rid, page, page_status, leaves_some}
use Rattle.acct_rules.specs.Planned.{Ruled, answers, when}
use Rattle.lsad_rights.specs.Accounts.{account_of_sid, object_of_sid, guarded}
use Rattle.lsad_rights.specs.Rights.{right_name, rights_of, low_of, name_of, privileges, privilege_of, privilege_named}
use Rattle.lsad_rights.specs.Rights.{right_named, holds}
use Rattle.lsad_rights.specs.declared.holders.Wanted.{Wanted}
use Rattle.lsad_rights.specs.declared.holders.Wanted.TheVariants.{Each, Holders}
use Rattle.lsad_rights.specs.declared.privileges.KnownPrivilege.{KnownPrivilege}

-- ======== the operations that list the privileges and the accounts of the policy page by page

-- The status of a page, by how many entries were left before it, and whether some are left after it: none was left, or
-- there are more, or these were the last (MS-LSAD 3.1.4.5.2).
abbrev pub given_status : ℕ → Bool → ℕ
given_status count more = if count == 0 then status_no_more_entries else page_status more

abbrev pub listed_status : {A : Type 0} → List A → List A → ℕ
listed_status given left = given_status (length left) (leaves_some given left)

-- ---- privileges

-- a privilege is listed by the low part of its LUID and its name
abbrev pub entry_of : KnownPrivilege → RidName
entry_of privilege = entry (low_of privilege) (name_of privilege)

-- the privileges after the one that was given last, by the low parts of their LUIDs
abbrev pub is_behind : ℕ → KnownPrivilege → Bool
is_behind context privilege = nat_lt context (low_of privilege)

abbrev pub privileges_left : ℕ → List RidName
privileges_left context = map entry_of (filter (is_behind context) privileges)

-- LsarEnumeratePrivileges (MS-LSAD 3.1.4.8.1): the context is the last low part that was given.
abbrev pub list_privileges : Lists → Object → Args → Ruled
list_privileges r object asked =
    let left = privileges_left (asked_context asked) in
    let given = page entry_cost (asked_length asked) left in
    record {
      conditions = [];
      planned = answers (listed_status given left) (outs.PrivilegePage (last_rid (asked_context asked) given) given);
    }

-- ---- accounts

abbrev pub sid_of_row : LsaRow → SidValue
sid_of_row account = account.sid

-- an account costs its SID's bytes, and some more
abbrev pub sid_cost : SidValue → ℕ
sid_cost sid = page_entry_cost + length (bytes_of sid)

-- the accounts after those that were given before, in the order of their SIDs
abbrev pub accounts_left : ℕ → Lists → List SidValue
accounts_left context r = map sid_of_row (drop context r.lsa)

-- LsarEnumerateAccounts (MS-LSAD 3.1.4.5.2): the context counts the accounts that were given so far.
abbrev pub list_accounts : Lists → Object → Args → Ruled
list_accounts r object asked =
    let left = accounts_left (asked_context asked) r in
    let given = page sid_cost (asked_length asked) left in
    record {
      conditions = [];
      planned = answers (listed_status given left) (outs.SidPage (asked_context asked + length given) given);
    }

-- ======== the operations that look for a privilege by its name, and by its LUID

-- the privilege of a name that was brought
abbrev pub privilege_asked : Option (List ℕ) → Option KnownPrivilege
privilege_asked None = None
privilege_asked (Some name) = privilege_named name

-- the low part of its LUID; 0 where there is none
abbrev pub low_in : Option KnownPrivilege → ℕ
low_in None = 0
low_in (Some privilege) = low_of privilege

-- LsarLookupPrivilegeValue (MS-LSAD 3.1.4.8.2)
abbrev pub privilege_value : Lists → Object → Args → Ruled
privilege_value r object asked =
    let found = privilege_asked (asked_name asked) in
    record {
      conditions = when (not (is_some found)) status_no_such_privilege ∷ [];
      planned = answers status_success (outs.Luid (low_in found) 0);
    }

-- the privilege of the LUID that is asked for: the high part of each one's LUID is 0
abbrev pub privilege_of_luid : Args → Option KnownPrivilege
privilege_of_luid (args.Luid low high) = if high == 0 then privilege_of low else None
privilege_of_luid _ = None

-- LsarLookupPrivilegeName (MS-LSAD 3.1.4.8.3)
abbrev pub privilege_name : Lists → Object → Args → Ruled
privilege_name r object asked =
    let found = privilege_of_luid asked in
    record {
      conditions = when (not (is_some found)) status_no_such_privilege ∷ [];
      planned = answers status_success (outs.OneName (option_map name_of found));
    }

-- ======== the operation that lists the rights of an account of the policy, by their names

-- the name of a privilege that is held; the empty one where the table has none, which sound rows never hold
abbrev pub name_in : Option KnownPrivilege → List ℕ
name_in None = []
name_in (Some privilege) = name_of privilege

abbrev pub held_name : Held → List ℕ
held_name held = name_in (privilege_of held.low)

-- the names of what an account holds: privileges by ascending LUID, and then rights to log on by ascending bit
abbrev pub privilege_names : LsaRow → List (List ℕ)
privilege_names account = map held_name account.privileges

abbrev pub logon_names : LsaRow → List (List ℕ)
logon_names account = map right_name (rights_of account.access)

abbrev pub names_held : Option LsaRow → List (List ℕ)
names_held None = []
names_held (Some account) = privilege_names account ++ logon_names account

-- LsarEnumerateAccountRights (MS-LSAD 3.1.4.5.10): who asks must be granted to view the account.
abbrev pub account_rights : Lists → Object → Args → Ruled
account_rights r object asked =
    let found = account_of_sid r (asked_sid asked) in
    record {
      conditions = when (not (is_some found)) status_object_name_not_found ∷ [];
      planned =
          guarded (object_of_sid (asked_sid asked)) account_view
          (answers status_success (outs.NameList (names_held found)));
    }

-- ======== the operation that lists the accounts of the policy that hold a right

-- the accounts that are asked for: each, where no name was brought; none, where no right has the name
abbrev pub accounts_asked : Option (List ℕ) → Option Wanted
accounts_asked None = Some Each
accounts_asked (Some name) = option_map Holders (right_named name)

abbrev pub is_wanted : Wanted → LsaRow → Bool
is_wanted Each account = true
is_wanted (Holders right) account = holds right account

-- their SIDs, in the order of SIDs
abbrev pub accounts_wanted : Option Wanted → Lists → List SidValue
accounts_wanted None r = []
accounts_wanted (Some w) r = map sid_of_row (filter (is_wanted w) r.lsa)

abbrev pub holders_status : List SidValue → ℕ
holders_status sids = if length sids == 0 then status_no_more_entries else status_success

-- LsarEnumerateAccountsWithUserRight (MS-LSAD 3.1.4.5.9)
abbrev pub accounts_with_right : Lists → Object → Args → Ruled
accounts_with_right r object asked =
    let found = accounts_asked (asked_name asked) in
    let given = accounts_wanted found r in
    record {
      conditions = when (not (is_some found)) status_no_such_privilege ∷ [];
      planned = answers (holders_status given) (outs.SidList given);
    }
