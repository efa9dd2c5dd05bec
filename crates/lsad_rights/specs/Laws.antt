-- What holds of each operation, and what they leave; how names, LUIDs and bits lead back to each other; and how an
-- enumeration goes on.
use Rattle.std.specs.Prelude.{◌≡◌, ℕ, ◌+◌, ◌^◌, ◌<◌, bit_and, Bool, false, nat_lt, List, [], ◌∷◌, ◌++◌, length}
use Rattle.std.specs.Prelude.{Option, Some, None}
use Rattle.std.specs.List.{list_any}
use Rattle.acct_calls.specs.Names.{is_same}
use Rattle.acct_calls.specs.declared.calls.Args.{Args}
use Rattle.acct_calls.specs.declared.lists.RidName.{RidName}
use Rattle.acct_codes.specs.Privileges.{known_system_access}
use Rattle.acct_rows.specs.Rows.{Lists}
use Rattle.acct_tables.specs.Good.{IsKnown, IsGoodLsa}
use Rattle.acct_tables.specs.declared.object.Object.{Object}
use Rattle.acct_tables.specs.declared.row.Held.{Held}
use Rattle.acct_tables.specs.declared.row.LsaRow.{LsaRow}
use Rattle.acct_rules.specs.Asked.{asked_context, asked_length}
use Rattle.acct_rules.specs.Operations.{IsRight, KeepsRows}
use Rattle.acct_rules.specs.Profiles.{Operation}
use Rattle.acct_rules.specs.Pages.{page, entry_cost, last_rid}
use Rattle.dtyp_sid.specs.Sids.{SidValue}
use Rattle.lsad_rights.specs.Listings.{held_name, names_held, given_status, sid_cost, privileges_left, accounts_left}
use Rattle.lsad_rights.specs.Listings.{list_privileges, list_accounts, low_in}
use Rattle.lsad_rights.specs.Rights.{bit_of, right_name, rights_of, low_of, name_of, privilege_of, privilege_named}
use Rattle.lsad_rights.specs.Rights.{right_named, holds}
use Rattle.lsad_rights.specs.declared.logon_rights.LogonRight.{LogonRight}
use Rattle.lsad_rights.specs.declared.privileges.KnownPrivilege.{KnownPrivilege}
use Rattle.lsad_rights.specs.declared.rights.AccountRight.{AccountRight}
use Rattle.lsad_rights.specs.declared.rights.AccountRight.TheVariants.{Privilege, Logon}
use Rattle.lsad_rights.specs.Table.{enumerate_privileges, query_information_policy, query_information_policy2}
use Rattle.lsad_rights.specs.Table.{enumerate_accounts, lookup_privilege_value, lookup_privilege_name}
use Rattle.lsad_rights.specs.Table.{enumerate_accounts_with_user_right, enumerate_account_rights}
use Rattle.lsad_rights.specs.Table.{enumerate_privileges_account, get_system_access_account}
use Rattle.lsad_rights.specs.Table.{create_account_in_policy, open_account_in_policy, delete_object}
use Rattle.lsad_rights.specs.Table.{add_privileges_to_account, remove_privileges_from_account}
use Rattle.lsad_rights.specs.Table.{set_system_access_account, add_account_rights, remove_account_rights}

-- what holds of each operation
pub record Each (P : Operation → Type 0) : Type 0 where
  pub list_privileges : P enumerate_privileges
  pub query_policy : P query_information_policy
  pub query_policy2 : P query_information_policy2
  pub list_accounts : P enumerate_accounts
  pub privilege_value : P lookup_privilege_value
  pub privilege_name : P lookup_privilege_name
  pub accounts_with_right : P enumerate_accounts_with_user_right
  pub account_rights : P enumerate_account_rights
  pub account_privileges : P enumerate_privileges_account
  pub system_access : P get_system_access_account
  -- those that make, open, change and delete an account
  pub create_account : P create_account_in_policy
  pub open_account : P open_account_in_policy
  pub delete_account : P delete_object
  pub add_privileges : P add_privileges_to_account
  pub remove_privileges : P remove_privileges_from_account
  pub set_system_access : P set_system_access_account
  pub add_rights : P add_account_rights
  pub remove_rights : P remove_account_rights

abbrev pub AreRight : Type 0
AreRight = Each IsRight

abbrev pub KeepRows : Type 0
KeepRows = Each KeepsRows

-- ---- names

-- Each privilege is found by its LUID and by its name, and each right to log on by its name and by its bit. The name of
-- a privilege that an account of sound rows holds leads back to its LUID.
pub record NamesLeadBack : Type 0 where
  pub luid : (privilege : KnownPrivilege) → privilege_of (low_of privilege) ≡ Some privilege
  pub privilege : (privilege : KnownPrivilege) → right_named (name_of privilege) ≡ Some (Privilege privilege)
  pub logon : (right : LogonRight) → right_named (right_name right) ≡ Some (Logon right)
  pub bit : (right : LogonRight) → rights_of (bit_of right) ≡ right ∷ []
  pub held : (held : Held) → IsKnown held → low_in (privilege_named (held_name held)) ≡ held.low

-- Each privilege with some attributes, and each right to log on, is one that an account of sound rows may hold.
pub record RightsMayBeHeld : Type 0 where
  pub privilege : (privilege : KnownPrivilege) (attributes : ℕ) → attributes < 2 ^ 32
      → IsKnown (record { low = low_of privilege; attributes = attributes })
  pub logon : (right : LogonRight) → bit_and (bit_of right) known_system_access ≡ bit_of right

-- the account holds the right, where there is one
abbrev pub holds_some : Option AccountRight → LsaRow → Bool
holds_some None account = false
holds_some (Some right) account = holds right account

-- A name stands among those of an account's rights exactly where the account holds the right of the name.
abbrev pub RightsAgree : Type 0
RightsAgree =
    (name : List ℕ) (account : LsaRow) → IsGoodLsa account
    → list_any (is_same name) (names_held (Some account)) ≡ holds_some (right_named name) account

-- ---- enumerations of privileges

-- the entries of a page after a context, and the context after it
abbrev pub privileges_given : ℕ → ℕ → List RidName
privileges_given context preferred = page entry_cost preferred (privileges_left context)

abbrev pub privilege_context : ℕ → ℕ → ℕ
privilege_context context preferred = last_rid context (privileges_given context preferred)

-- the entries of several pages, each with a preferred length of its own, and the context after them
abbrev pub privileges_given_of_all : ℕ → List ℕ → List RidName
privileges_given_of_all context [] = []
privileges_given_of_all context (preferred ∷ rest) =
    privileges_given context preferred ++ privileges_given_of_all (privilege_context context preferred) rest

abbrev pub privilege_context_of_all : ℕ → List ℕ → ℕ
privilege_context_of_all context [] = context
privilege_context_of_all context (preferred ∷ rest) =
    privilege_context_of_all (privilege_context context preferred) rest

-- ---- enumerations of accounts

abbrev pub accounts_given : Lists → ℕ → ℕ → List SidValue
accounts_given r context preferred = page sid_cost preferred (accounts_left context r)

abbrev pub account_context : Lists → ℕ → ℕ → ℕ
account_context r context preferred = context + length (accounts_given r context preferred)

abbrev pub accounts_given_of_all : Lists → ℕ → List ℕ → List SidValue
accounts_given_of_all r context [] = []
accounts_given_of_all r context (preferred ∷ rest) =
    accounts_given r context preferred ++ accounts_given_of_all r (account_context r context preferred) rest

abbrev pub account_context_of_all : Lists → ℕ → List ℕ → ℕ
account_context_of_all r context [] = context
account_context_of_all r context (preferred ∷ rest) =
    account_context_of_all r (account_context r context preferred) rest

-- ---- what is left is given once

-- What is left of an enumeration is given once, whatever lengths are preferred: the entries of its pages, and then what
-- is left after them. A page is empty only where nothing is left, and its status says whether nothing was left before
-- it, or something is left after it.
pub record EnumerationsGoOn : Type 0 where
  pub privileges : (context : ℕ) (preferred : List ℕ)
      → privileges_left context
      ≡ privileges_given_of_all context preferred ++ privileges_left (privilege_context_of_all context preferred)
  pub some_privilege : (context preferred : ℕ) → privileges_given context preferred ≡ [] → privileges_left context ≡ []
  pub more_privileges : (r : Lists) (object : Object) (asked : Args)
      → (list_privileges r object asked).planned.status
      ≡ given_status (length (privileges_left (asked_context asked)))
      (nat_lt 0 (length (privileges_left (privilege_context (asked_context asked) (asked_length asked)))))
  pub accounts : (r : Lists) (context : ℕ) (preferred : List ℕ)
      → accounts_left context r
      ≡ accounts_given_of_all r context preferred ++ accounts_left (account_context_of_all r context preferred) r
  pub some_account : (r : Lists) (context preferred : ℕ) → accounts_given r context preferred ≡ []
      → accounts_left context r ≡ []
  pub more_accounts : (r : Lists) (object : Object) (asked : Args)
      → (list_accounts r object asked).planned.status
      ≡ given_status (length (accounts_left (asked_context asked) r))
      (nat_lt 0 (length (accounts_left (account_context r (asked_context asked) (asked_length asked)) r)))
