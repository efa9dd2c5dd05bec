-- The operations: each one's profile, and its rule.
use Rattle.std.specs.Prelude.{ℕ}
use Rattle.acct_calls.specs.declared.calls.Face.TheVariants.{Samr}
use Rattle.acct_codes.specs.InfoClasses.{user_control_information}
use Rattle.acct_codes.specs.Opnums.{samr_lookup_domain_in_sam_server, samr_enumerate_domains_in_sam_server}
use Rattle.acct_codes.specs.Opnums.{samr_open_domain, samr_lookup_names_in_domain, samr_lookup_ids_in_domain}
use Rattle.acct_codes.specs.Opnums.{samr_open_group, samr_open_alias, samr_open_user, samr_rid_to_sid}
use Rattle.acct_codes.specs.Opnums.{samr_enumerate_groups_in_domain, samr_enumerate_users_in_domain}
use Rattle.acct_codes.specs.Opnums.{samr_enumerate_aliases_in_domain, samr_delete_group, samr_delete_alias}
use Rattle.acct_codes.specs.Opnums.{samr_delete_user, samr_set_information_domain, samr_set_information_group}
use Rattle.acct_codes.specs.Opnums.{samr_set_information_alias, samr_set_information_user, samr_set_information_user2}
use Rattle.acct_codes.specs.Opnums.{samr_query_information_domain, samr_query_information_domain2}
use Rattle.acct_codes.specs.Opnums.{samr_query_information_group, samr_query_information_alias}
use Rattle.acct_codes.specs.Opnums.{samr_query_information_user, samr_query_information_user2}
use Rattle.acct_codes.specs.Opnums.{samr_create_group_in_domain, samr_create_alias_in_domain}
use Rattle.acct_codes.specs.Opnums.{samr_create_user_in_domain, samr_create_user2_in_domain}
use Rattle.acct_codes.specs.Opnums.{samr_query_display_information}
use Rattle.acct_codes.specs.Rights.{delete, domain_write_other_parameters, group_write_account, alias_write_account}
use Rattle.acct_codes.specs.Rights.{user_write_account, sam_server_lookup_domain, sam_server_enumerate_domains}
use Rattle.acct_codes.specs.Rights.{domain_lookup, domain_list_accounts, domain_read_other_parameters}
use Rattle.acct_codes.specs.Rights.{group_read_information, alias_read_information, user_read_account}
use Rattle.acct_codes.specs.Rights.{user_read_general, domain_create_group, domain_create_alias, domain_create_user}
use Rattle.acct_codes.specs.declared.kind.Kind.TheVariants as kind
use Rattle.acct_rules.specs.Profiles.{Operation, undescribed, asking}
use Rattle.acct_rules.specs.declared.profile.Needs.TheVariants as needs
use Rattle.acct_rules.specs.declared.profile.Profile.{Profile}
use Rattle.acct_rules.specs.declared.profile.Kinds.TheVariants as kinds
use Rattle.acct_rules.specs.declared.profile.Memory.TheVariants as memory
use Rattle.samr_objects.specs.Accounts.{open_group, open_alias, open_user, delete_group, delete_alias, delete_user}
use Rattle.samr_objects.specs.Accounts.{create_group, create_alias, create_user}
use Rattle.samr_objects.specs.Enumerations.{query_display, list_groups, list_aliases, list_users}
use Rattle.samr_objects.specs.Domains.{look_domain, list_domains, open_domain, rid_to_sid, look_names, look_ids}
use Rattle.samr_objects.specs.Settings.{set_domain, set_group, set_alias, set_user, query_domain, query_group}
use Rattle.samr_objects.specs.Settings.{query_alias, query_user}

-- ---- by a handle to the server

abbrev pub lookup_domain_in_sam_server : Operation
lookup_domain_in_sam_server = record {
  profile =
      asking Samr samr_lookup_domain_in_sam_server (kinds.Only kind.Server) sam_server_lookup_domain memory.Anywhere;
  rule = undescribed look_domain;
}

abbrev pub enumerate_domains_in_sam_server : Operation
enumerate_domains_in_sam_server = record {
  profile =
      asking Samr samr_enumerate_domains_in_sam_server (kinds.Only kind.Server) sam_server_enumerate_domains
      memory.Anywhere;
  rule = undescribed list_domains;
}

abbrev pub open_domain_in_sam_server : Operation
open_domain_in_sam_server = record {
  profile =
      asking Samr samr_open_domain (kinds.Only kind.Server) sam_server_lookup_domain memory.Anywhere;
  rule = undescribed open_domain;
}

-- ---- by a handle to a domain

abbrev pub lookup_names_in_domain : Operation
lookup_names_in_domain = record {
  profile = asking Samr samr_lookup_names_in_domain (kinds.Only kind.Domain) domain_lookup memory.Anywhere;
  rule = undescribed look_names;
}

abbrev pub lookup_ids_in_domain : Operation
lookup_ids_in_domain = record {
  profile = asking Samr samr_lookup_ids_in_domain (kinds.Only kind.Domain) domain_lookup memory.Anywhere;
  rule = undescribed look_ids;
}

abbrev pub enumerate_groups_in_domain : Operation
enumerate_groups_in_domain = record {
  profile =
      asking Samr samr_enumerate_groups_in_domain (kinds.Only kind.Domain) domain_list_accounts memory.Anywhere;
  rule = undescribed list_groups;
}

abbrev pub enumerate_aliases_in_domain : Operation
enumerate_aliases_in_domain = record {
  profile =
      asking Samr samr_enumerate_aliases_in_domain (kinds.Only kind.Domain) domain_list_accounts memory.Anywhere;
  rule = undescribed list_aliases;
}

abbrev pub enumerate_users_in_domain : Operation
enumerate_users_in_domain = record {
  profile =
      asking Samr samr_enumerate_users_in_domain (kinds.Only kind.Domain) domain_list_accounts memory.Anywhere;
  rule = undescribed list_users;
}

abbrev pub query_display_information : Operation
query_display_information = record {
  profile =
      asking Samr samr_query_display_information (kinds.Only kind.Domain) domain_list_accounts memory.Anywhere;
  rule = undescribed query_display;
}

abbrev pub open_group_in_domain : Operation
open_group_in_domain = record {
  profile = asking Samr samr_open_group (kinds.Only kind.Domain) domain_lookup memory.Anywhere;
  rule = undescribed open_group;
}

abbrev pub open_alias_in_domain : Operation
open_alias_in_domain = record {
  profile = asking Samr samr_open_alias (kinds.Only kind.Domain) domain_lookup memory.Anywhere;
  rule = undescribed open_alias;
}

abbrev pub open_user_in_domain : Operation
open_user_in_domain = record {
  profile = asking Samr samr_open_user (kinds.Only kind.Domain) domain_lookup memory.Anywhere;
  rule = undescribed open_user;
}

abbrev pub create_group_in_domain : Operation
create_group_in_domain = record {
  profile = asking Samr samr_create_group_in_domain (kinds.Only kind.Domain) domain_create_group memory.Anywhere;
  rule = undescribed create_group;
}

abbrev pub create_alias_in_domain : Operation
create_alias_in_domain = record {
  profile = asking Samr samr_create_alias_in_domain (kinds.Only kind.Domain) domain_create_alias memory.Anywhere;
  rule = undescribed create_alias;
}

abbrev pub create_user_in_domain : Operation
create_user_in_domain = record {
  profile = asking Samr samr_create_user_in_domain (kinds.Only kind.Domain) domain_create_user memory.Anywhere;
  rule = undescribed create_user;
}

abbrev pub create_user2_in_domain : Operation
create_user2_in_domain = record {
  profile = asking Samr samr_create_user2_in_domain (kinds.Only kind.Domain) domain_create_user memory.Anywhere;
  rule = undescribed create_user;
}

-- ---- by a handle to a domain, or to an account of one

abbrev pub sid_of_rid_in_domain : Operation
sid_of_rid_in_domain = record {
  profile = asking Samr samr_rid_to_sid kinds.InDomain 0 memory.Anywhere;
  rule = undescribed rid_to_sid;
}

-- ---- by a handle to an account that is deleted

abbrev pub delete_group_in_domain : Operation
delete_group_in_domain = record {
  profile = asking Samr samr_delete_group (kinds.Only kind.Group) delete memory.Anywhere;
  rule = undescribed delete_group;
}

abbrev pub delete_alias_in_domain : Operation
delete_alias_in_domain = record {
  profile = asking Samr samr_delete_alias (kinds.Only kind.Alias) delete memory.Anywhere;
  rule = undescribed delete_alias;
}

abbrev pub delete_user_in_domain : Operation
delete_user_in_domain = record {
  profile = asking Samr samr_delete_user (kinds.Only kind.User) delete memory.Anywhere;
  rule = undescribed delete_user;
}

-- ---- by a handle to a domain or an account that is set

abbrev pub set_information_domain : Operation
set_information_domain = record {
  profile =
      asking Samr samr_set_information_domain (kinds.Only kind.Domain) domain_write_other_parameters memory.Anywhere;
  rule = undescribed set_domain;
}

abbrev pub set_information_group : Operation
set_information_group = record {
  profile = asking Samr samr_set_information_group (kinds.Only kind.Group) group_write_account memory.Anywhere;
  rule = undescribed set_group;
}

abbrev pub set_information_alias : Operation
set_information_alias = record {
  profile = asking Samr samr_set_information_alias (kinds.Only kind.Alias) alias_write_account memory.Anywhere;
  rule = undescribed set_alias;
}

abbrev pub set_information_user : Operation
set_information_user = record {
  profile = asking Samr samr_set_information_user (kinds.Only kind.User) user_write_account memory.Anywhere;
  rule = undescribed set_user;
}

abbrev pub set_information_user2 : Operation
set_information_user2 = record {
  profile = asking Samr samr_set_information_user2 (kinds.Only kind.User) user_write_account memory.Anywhere;
  rule = undescribed set_user;
}

-- ---- by a handle to what is shown

abbrev pub asking_domain : ℕ → Profile
asking_domain opnum = asking Samr opnum (kinds.Only kind.Domain) domain_read_other_parameters memory.Anywhere

abbrev pub query_information_domain : Operation
query_information_domain = record { profile = asking_domain samr_query_information_domain; rule = undescribed query_domain }

abbrev pub query_information_domain2 : Operation
query_information_domain2 = record { profile = asking_domain samr_query_information_domain2; rule = undescribed query_domain }

abbrev pub query_information_group : Operation
query_information_group = record {
  profile =
      asking Samr samr_query_information_group (kinds.Only kind.Group) group_read_information memory.Anywhere;
  rule = undescribed query_group;
}

abbrev pub query_information_alias : Operation
query_information_alias = record {
  profile =
      asking Samr samr_query_information_alias (kinds.Only kind.Alias) alias_read_information memory.Anywhere;
  rule = undescribed query_alias;
}

-- A user's control needs another right than its other classes.
abbrev pub asking_user : ℕ → Profile
asking_user opnum =
    record (asking Samr opnum (kinds.Only kind.User) 0 memory.Anywhere) {
      needs = needs.ByClass user_control_information user_read_account user_read_general;
    }

abbrev pub query_information_user : Operation
query_information_user = record { profile = asking_user samr_query_information_user; rule = undescribed query_user }

abbrev pub query_information_user2 : Operation
query_information_user2 = record { profile = asking_user samr_query_information_user2; rule = undescribed query_user }
