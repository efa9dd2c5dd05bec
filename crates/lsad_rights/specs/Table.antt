-- The operations: each one's profile, and its rule.
use Rattle.std.specs.Prelude.{◌+◌}
use Rattle.acct_calls.specs.declared.calls.Face.TheVariants.{Lsa}
use Rattle.acct_codes.specs.Opnums.{lsar_enumerate_privileges, lsar_query_information_policy, lsar_enumerate_accounts}
use Rattle.acct_codes.specs.Opnums.{lsar_enumerate_privileges_account, lsar_get_system_access_account}
use Rattle.acct_codes.specs.Opnums.{lsar_lookup_privilege_value, lsar_lookup_privilege_name}
use Rattle.acct_codes.specs.Opnums.{lsar_enumerate_accounts_with_user_right, lsar_enumerate_account_rights}
use Rattle.acct_codes.specs.Opnums.{lsar_query_information_policy2}
use Rattle.acct_codes.specs.Rights.{policy_view_local_information, policy_lookup_names, account_view, delete}
use Rattle.acct_codes.specs.Rights.{policy_create_account, account_adjust_privileges, account_adjust_system_access}
use Rattle.acct_codes.specs.Opnums.{lsar_create_account, lsar_open_account, lsar_add_privileges_to_account}
use Rattle.acct_codes.specs.Opnums.{lsar_remove_privileges_from_account, lsar_set_system_access_account}
use Rattle.acct_codes.specs.Opnums.{lsar_delete_object, lsar_add_account_rights, lsar_remove_account_rights}
use Rattle.acct_codes.specs.declared.kind.Kind.TheVariants as kind
use Rattle.acct_rules.specs.Profiles.{Operation, undescribed, asking}
use Rattle.acct_rules.specs.declared.profile.Kinds.TheVariants as kinds
use Rattle.acct_rules.specs.declared.profile.Memory.TheVariants as memory
use Rattle.acct_rules.specs.declared.profile.Needs.TheVariants as needs
use Rattle.lsad_rights.specs.Accounts.{create_account, open_account, delete_account, account_privileges, system_access}
use Rattle.lsad_rights.specs.Accounts.{query_policy}
use Rattle.lsad_rights.specs.RightsChanges.{add_rights, remove_rights}
use Rattle.lsad_rights.specs.Holdings.{add_privileges, remove_privileges, set_system_access}
use Rattle.lsad_rights.specs.Listings.{account_rights, accounts_with_right, list_privileges, list_accounts}
use Rattle.lsad_rights.specs.Listings.{privilege_value, privilege_name}

-- ---- by a handle to the policy

abbrev pub enumerate_privileges : Operation
enumerate_privileges = record {
  profile =
      asking Lsa lsar_enumerate_privileges (kinds.Only kind.Policy) policy_view_local_information memory.Anywhere;
  rule = undescribed list_privileges;
}

abbrev pub query_information_policy : Operation
query_information_policy = record {
  profile =
      asking Lsa lsar_query_information_policy (kinds.Only kind.Policy) policy_view_local_information memory.Anywhere;
  rule = undescribed query_policy;
}

abbrev pub query_information_policy2 : Operation
query_information_policy2 = record {
  profile =
      asking Lsa lsar_query_information_policy2 (kinds.Only kind.Policy) policy_view_local_information memory.Anywhere;
  rule = undescribed query_policy;
}

abbrev pub enumerate_accounts : Operation
enumerate_accounts = record {
  profile = asking Lsa lsar_enumerate_accounts (kinds.Only kind.Policy) policy_view_local_information memory.Anywhere;
  rule = undescribed list_accounts;
}

abbrev pub lookup_privilege_value : Operation
lookup_privilege_value = record {
  profile = asking Lsa lsar_lookup_privilege_value (kinds.Only kind.Policy) policy_lookup_names memory.Anywhere;
  rule = undescribed privilege_value;
}

abbrev pub lookup_privilege_name : Operation
lookup_privilege_name = record {
  profile = asking Lsa lsar_lookup_privilege_name (kinds.Only kind.Policy) policy_lookup_names memory.Anywhere;
  rule = undescribed privilege_name;
}

abbrev pub enumerate_accounts_with_user_right : Operation
enumerate_accounts_with_user_right = record {
  profile =
      asking Lsa lsar_enumerate_accounts_with_user_right (kinds.Only kind.Policy)
      (policy_view_local_information + policy_lookup_names) memory.Anywhere;
  rule = undescribed accounts_with_right;
}

abbrev pub enumerate_account_rights : Operation
enumerate_account_rights = record {
  profile = asking Lsa lsar_enumerate_account_rights (kinds.Only kind.Policy) policy_lookup_names memory.Anywhere;
  rule = undescribed account_rights;
}

-- ---- by a handle to an account

abbrev pub enumerate_privileges_account : Operation
enumerate_privileges_account = record {
  profile = asking Lsa lsar_enumerate_privileges_account (kinds.Only kind.Account) account_view memory.Anywhere;
  rule = undescribed account_privileges;
}

abbrev pub get_system_access_account : Operation
get_system_access_account = record {
  profile = asking Lsa lsar_get_system_access_account (kinds.Only kind.Account) account_view memory.Anywhere;
  rule = undescribed system_access;
}

-- ---- changes, by a handle to the policy

abbrev pub create_account_in_policy : Operation
create_account_in_policy = record {
  profile = asking Lsa lsar_create_account (kinds.Only kind.Policy) policy_create_account memory.Anywhere;
  rule = undescribed create_account;
}

abbrev pub open_account_in_policy : Operation
open_account_in_policy = record {
  profile =
      asking Lsa lsar_open_account (kinds.Only kind.Policy) policy_view_local_information memory.Anywhere;
  rule = undescribed open_account;
}

-- An account that is made where there is none needs another right to the policy besides.
abbrev pub add_account_rights : Operation
add_account_rights = record {
  profile =
      record (asking Lsa lsar_add_account_rights (kinds.Only kind.Policy) 0 memory.Anywhere) {
        needs = needs.ByAccount policy_lookup_names (policy_lookup_names + policy_create_account);
      };
  rule = undescribed add_rights;
}

abbrev pub remove_account_rights : Operation
remove_account_rights = record {
  profile = asking Lsa lsar_remove_account_rights (kinds.Only kind.Policy) policy_lookup_names memory.Anywhere;
  rule = undescribed remove_rights;
}

-- ---- changes, by a handle to an account

abbrev pub add_privileges_to_account : Operation
add_privileges_to_account = record {
  profile =
      asking Lsa lsar_add_privileges_to_account (kinds.Only kind.Account) account_adjust_privileges memory.Anywhere;
  rule = undescribed add_privileges;
}

abbrev pub remove_privileges_from_account : Operation
remove_privileges_from_account = record {
  profile =
      asking Lsa lsar_remove_privileges_from_account (kinds.Only kind.Account) account_adjust_privileges
      memory.Anywhere;
  rule = undescribed remove_privileges;
}

abbrev pub set_system_access_account : Operation
set_system_access_account = record {
  profile =
      asking Lsa lsar_set_system_access_account (kinds.Only kind.Account) account_adjust_system_access
      memory.Anywhere;
  rule = undescribed set_system_access;
}

abbrev pub delete_object : Operation
delete_object = record {
  profile = asking Lsa lsar_delete_object (kinds.Only kind.Account) delete memory.Anywhere;
  rule = undescribed delete_account;
}
