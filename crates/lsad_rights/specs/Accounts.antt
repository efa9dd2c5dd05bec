-- The operations that create, open, delete and show an account of the policy, and that show the policy.
use Rattle.std.specs.Prelude.{ℕ, Option, Some, None, not, List, [], ◌∷◌, is_some, map, ◌==◌, Bool, ◌||◌}
use Rattle.std.specs.Option.{option_map}
use Rattle.acct_codes.specs.InfoClasses.{policy_primary_domain_information, policy_account_domain_information}
use Rattle.acct_codes.specs.Statuses.{status_success, status_object_name_not_found, status_object_name_collision}
use Rattle.acct_codes.specs.Statuses.{status_invalid_info_class}
use Rattle.dtyp_sid.specs.Sids.{SidValue}
use Rattle.acct_calls.specs.Calls.{zero_handle}
use Rattle.acct_calls.specs.declared.calls.Args.{Args}
use Rattle.acct_calls.specs.declared.info.Info.{Info}
use Rattle.acct_calls.specs.declared.info.Info.TheVariants as info
use Rattle.acct_calls.specs.declared.lists.Privilege.{Privilege}
use Rattle.acct_calls.specs.declared.replies.Outs.TheVariants as outs
use Rattle.acct_rows.specs.Rows.{Lists, lsa_at, domain_at}
use Rattle.acct_tables.specs.Keys.{account_domain}
use Rattle.acct_tables.specs.declared.object.Object.{Object}
use Rattle.acct_tables.specs.declared.object.Object.TheVariants.{Policy, Account}
use Rattle.acct_tables.specs.declared.row.DomainRow.{DomainRow}
use Rattle.acct_tables.specs.declared.row.Held.{Held}
use Rattle.acct_tables.specs.declared.row.LsaRow.{LsaRow}
use Rattle.acct_tables.specs.declared.row.Row.{Row}
use Rattle.acct_tables.specs.declared.row.Row.TheVariants as rows
use Rattle.acct_tables.specs.declared.row.RowKey.{RowKey}
use Rattle.acct_tables.specs.declared.row.RowKey.TheVariants as keys
use Rattle.acct_rules.specs.Asked.{asked_sid, desired_access, class_of}
use Rattle.acct_rules.specs.Planned.{Ruled, when, answers, opens}
use Rattle.acct_rules.specs.declared.planned.Effect.TheVariants as effects
use Rattle.acct_rules.specs.declared.planned.Planned.{Planned}

-- ======== the account of the policy that a call is about, and what an implied opening of it guards

-- the account that the handle stands for
abbrev pub account_of : Lists → Object → Option LsaRow
account_of r (Account sid) = lsa_at r sid
account_of r _ = None

-- the account that is looked for by its SID
abbrev pub account_of_sid : Lists → Option SidValue → Option LsaRow
account_of_sid r None = None
account_of_sid r (Some sid) = lsa_at r sid

-- the object that it is; the policy, where no SID was brought
abbrev pub object_of_sid : Option SidValue → Object
object_of_sid None = Policy
object_of_sid (Some sid) = Account sid

-- what is planned, where an opening of the object is granted too, of which no handle comes
abbrev pub guarded : Object → ℕ → Planned → Planned
guarded object desired planned =
    record planned { effect = effects.Checks (record { object = object; desired = desired }) }

-- ======== the operations that create, open and delete an account of the policy

-- a new account has no system access and no privilege (MS-LSAD 3.1.1.3)
abbrev pub new_account : SidValue → LsaRow
new_account sid = record { sid = sid; access = 0; privileges = [] }

-- ---- operations

abbrev pub new_rows : Option SidValue → List Row
new_rows None = []
new_rows (Some sid) = rows.Lsa (new_account sid) ∷ []

-- LsarCreateAccount (MS-LSAD 3.1.4.5.1)
abbrev pub create_account : Lists → Object → Args → Ruled
create_account r object asked = record {
  conditions = when (is_some (account_of_sid r (asked_sid asked))) status_object_name_collision ∷ [];
  planned =
      record (opens (object_of_sid (asked_sid asked)) (desired_access asked)) {
        plan = record { puts = new_rows (asked_sid asked); removes = [] };
      };
}

-- LsarOpenAccount (MS-LSAD 3.1.4.5.3)
abbrev pub open_account : Lists → Object → Args → Ruled
open_account r object asked = record {
  conditions = when (not (is_some (account_of_sid r (asked_sid asked)))) status_object_name_not_found ∷ [];
  planned = opens (object_of_sid (asked_sid asked)) (desired_access asked);
}

-- the keys of an account and of its security descriptor
abbrev pub keys_of : Object → List RowKey
keys_of (Account sid) = keys.Desc (Account sid) ∷ keys.Lsa sid ∷ []
keys_of _ = []

-- LsarDeleteObject (MS-LSAD 3.1.4.9.3): the account and its descriptor go, and every handle to it; the zero handle goes
-- back in place of the one that was brought
abbrev pub delete_account : Lists → Object → Args → Ruled
delete_account r account asked = record {
  conditions = [];
  planned =
      record (answers status_success (outs.Handle zero_handle)) {
        plan = record { puts = []; removes = keys_of account };
        effect = effects.Deletes account;
      };
}

-- ======== the operations that show what an account of the policy holds, by a handle to it

-- a privilege by its LUID, with its attributes
abbrev pub privilege_shown : Held → Privilege
privilege_shown held = record { low = held.low; high = 0; attributes = held.attributes }

-- the privileges of an account by ascending LUID; none, where there is no account
abbrev pub privileges_shown : Option LsaRow → List Privilege
privileges_shown None = []
privileges_shown (Some account) = map privilege_shown account.privileges

-- LsarEnumeratePrivilegesAccount (MS-LSAD 3.1.4.5.4)
abbrev pub account_privileges : Lists → Object → Args → Ruled
account_privileges r account asked = record {
  conditions = [];
  planned = answers status_success (outs.Privileges (Some (privileges_shown (account_of r account))));
}

-- the system access of an account; 0, where there is no account
abbrev pub access_shown : Option LsaRow → ℕ
access_shown None = 0
access_shown (Some account) = account.access

-- LsarGetSystemAccessAccount (MS-LSAD 3.1.4.5.7)
abbrev pub system_access : Lists → Object → Args → Ruled
system_access r account asked = record {
  conditions = [];
  planned = answers status_success (outs.Bits (access_shown (account_of r account)));
}

-- ======== the operation that shows what the policy is, by information classes

-- the classes that are shown
abbrev pub is_shown : ℕ → Bool
is_shown class = (class == policy_primary_domain_information) || (class == policy_account_domain_information)

-- a domain, by its name and its SID
abbrev pub place_of : DomainRow → Info
place_of d = info.Place d.name d.sid

-- LsarQueryInformationPolicy, LsarQueryInformationPolicy2 (MS-LSAD 3.1.4.4.4, 3.1.4.4.3): the domain that the server is
-- in and the domain of its accounts are one.
abbrev pub query_policy : Lists → Object → Args → Ruled
query_policy r object asked = record {
  conditions = when (not (is_shown (class_of asked))) status_invalid_info_class ∷ [];
  planned =
      answers status_success
      (outs.Shown (class_of asked) (option_map place_of (domain_at r account_domain)));
}
