-- The rows that a database without rows begins with (the accounts that MS-SAMR 3.1.4.2 makes in every domain)
use Rattle.std.specs.Prelude.{ℕ, ◌+◌, codes, List, [], ◌∷◌, ◌++◌}
use Rattle.acct_codes.specs.declared.kind.Kind.TheVariants.{Group, Alias, User}
use Rattle.acct_codes.specs.Accounts.{user_account_disabled, user_password_not_required, user_normal_account}
use Rattle.acct_codes.specs.Accounts.{new_group_attributes, domain_user_rid_admin, domain_user_rid_guest}
use Rattle.acct_codes.specs.Accounts.{domain_group_rid_admins, domain_group_rid_users, domain_group_rid_guests}
use Rattle.acct_codes.specs.Accounts.{domain_alias_rid_admins, domain_alias_rid_users, domain_alias_rid_guests}
use Rattle.acct_codes.specs.Accounts.{first_created_rid}
use Rattle.acct_calls.specs.Names.{name_of_text, builtin_name, builtin_sid}
use Rattle.dtyp_sid.specs.Sids.{SidValue, with_last}
use Rattle.acct_tables.specs.Keys.{account_domain, builtin_domain}
use Rattle.acct_rows.specs.Rows.{Lists}
use Rattle.acct_tables.specs.declared.row.DomainRow.{DomainRow}
use Rattle.acct_tables.specs.declared.row.AccountRow.{AccountRow}
use Rattle.acct_tables.specs.declared.row.MemberRow.{MemberRow}
use Rattle.acct_tables.specs.declared.row.AliasRow.{AliasRow}

abbrev pub seed_domain : ℕ → SidValue → List ℕ → DomainRow
seed_domain number sid name = record { number = number; sid = sid; name = name; oem = []; next_rid = first_created_rid }

-- a user by RID, name, control and primary group
abbrev pub seed_user : ℕ → List ℕ → ℕ → ℕ → AccountRow
seed_user rid text control primary = record {
  domain = account_domain;
  rid = rid;
  kind = User;
  name = name_of_text text;
  full_name = [];
  comment = [];
  bits = control;
  primary = primary;
}

abbrev pub seed_group : ℕ → List ℕ → AccountRow
seed_group rid text = record {
  domain = account_domain;
  rid = rid;
  kind = Group;
  name = name_of_text text;
  full_name = [];
  comment = [];
  bits = new_group_attributes;
  primary = 0;
}

abbrev pub seed_alias : ℕ → List ℕ → AccountRow
seed_alias rid text = record {
  domain = builtin_domain;
  rid = rid;
  kind = Alias;
  name = name_of_text text;
  full_name = [];
  comment = [];
  bits = 0;
  primary = 0;
}

abbrev pub seed_member : ℕ → ℕ → MemberRow
seed_member group user = record { group = group; user = user; attributes = new_group_attributes }

-- an alias of BUILTIN with an account of a domain
abbrev pub seed_alias_row : ℕ → SidValue → ℕ → AliasRow
seed_alias_row alias sid rid = record { domain = builtin_domain; alias = alias; member = with_last sid rid }

-- the account domain and BUILTIN
abbrev pub seed_domains : List ℕ → SidValue → List DomainRow
seed_domains name sid = seed_domain 0 sid name ∷ seed_domain 1 builtin_sid builtin_name ∷ []

-- a disabled account, for which no password is required
abbrev pub guest_control : ℕ
guest_control = user_normal_account + user_password_not_required + user_account_disabled

abbrev pub seed_users : List AccountRow
seed_users =
    seed_user domain_user_rid_admin (codes "Administrator") user_normal_account domain_group_rid_users
    ∷ seed_user domain_user_rid_guest (codes "Guest") guest_control domain_group_rid_guests
    ∷ []

abbrev pub seed_groups : List AccountRow
seed_groups =
    seed_group domain_group_rid_admins (codes "Domain Admins")
    ∷ seed_group domain_group_rid_users (codes "Domain Users")
    ∷ seed_group domain_group_rid_guests (codes "Domain Guests")
    ∷ []

abbrev pub builtin_aliases : List AccountRow
builtin_aliases =
    seed_alias domain_alias_rid_admins (codes "Administrators")
    ∷ seed_alias domain_alias_rid_users (codes "Users")
    ∷ seed_alias domain_alias_rid_guests (codes "Guests")
    ∷ []

abbrev pub seed_accounts : List AccountRow
seed_accounts = seed_users ++ seed_groups ++ builtin_aliases

-- Administrator is a member of Domain Admins and Domain Users, Guest of Domain Guests
abbrev pub seed_members : List MemberRow
seed_members =
    seed_member domain_group_rid_admins domain_user_rid_admin
    ∷ seed_member domain_group_rid_users domain_user_rid_admin
    ∷ seed_member domain_group_rid_guests domain_user_rid_guest
    ∷ []

-- Administrators has Administrator and Domain Admins, Users has Domain Users, Guests has Guest and Domain Guests
abbrev pub seed_aliases : SidValue → List AliasRow
seed_aliases sid =
    seed_alias_row domain_alias_rid_admins sid domain_user_rid_admin
    ∷ seed_alias_row domain_alias_rid_admins sid domain_group_rid_admins
    ∷ seed_alias_row domain_alias_rid_users sid domain_group_rid_users
    ∷ seed_alias_row domain_alias_rid_guests sid domain_user_rid_guest
    ∷ seed_alias_row domain_alias_rid_guests sid domain_group_rid_guests
    ∷ []

-- the rows for an account domain of that name and SID; the policy has no account, no descriptor was set, and no account
-- was changed
abbrev pub seed_lists : List ℕ → SidValue → Lists
seed_lists name sid = record {
  domains = seed_domains name sid;
  accounts = seed_accounts;
  members = seed_members;
  aliases = seed_aliases sid;
  lsa = [];
  descriptors = [];
  outs = [];
  next_out = 1;
}
