-- The operations: each one's profile, and its rule.
use Rattle.acct_calls.specs.declared.calls.Face.TheVariants.{Samr}
use Rattle.acct_codes.specs.Opnums.{samr_get_alias_membership, samr_add_member_to_group}
use Rattle.acct_codes.specs.Opnums.{samr_remove_member_from_group, samr_get_members_in_group, samr_add_member_to_alias}
use Rattle.acct_codes.specs.Opnums.{samr_remove_member_from_alias, samr_get_members_in_alias, samr_get_groups_for_user}
use Rattle.acct_codes.specs.Rights.{domain_get_alias_membership, group_add_member, group_remove_member}
use Rattle.acct_codes.specs.Rights.{group_list_members, alias_add_member, alias_remove_member, alias_list_members}
use Rattle.acct_codes.specs.Rights.{user_list_groups}
use Rattle.acct_codes.specs.declared.kind.Kind.TheVariants as kind
use Rattle.acct_rules.specs.Profiles.{Operation, undescribed, asking}
use Rattle.acct_rules.specs.declared.profile.Kinds.TheVariants as kinds
use Rattle.acct_rules.specs.declared.profile.Memory.TheVariants as memory
use Rattle.samr_members.specs.Members.{alias_membership, add_alias_member, remove_alias_member, alias_members}
use Rattle.samr_members.specs.Members.{add_group_member, remove_group_member, group_members, user_groups}

-- ---- by a handle to a group

abbrev pub add_member_to_group : Operation
add_member_to_group = record {
  profile = asking Samr samr_add_member_to_group (kinds.Only kind.Group) group_add_member memory.Anywhere;
  rule = undescribed add_group_member;
}

abbrev pub remove_member_from_group : Operation
remove_member_from_group = record {
  profile = asking Samr samr_remove_member_from_group (kinds.Only kind.Group) group_remove_member memory.Anywhere;
  rule = undescribed remove_group_member;
}

abbrev pub get_members_in_group : Operation
get_members_in_group = record {
  profile = asking Samr samr_get_members_in_group (kinds.Only kind.Group) group_list_members memory.Anywhere;
  rule = undescribed group_members;
}

-- ---- by a handle to an alias

abbrev pub add_member_to_alias : Operation
add_member_to_alias = record {
  profile = asking Samr samr_add_member_to_alias (kinds.Only kind.Alias) alias_add_member memory.Anywhere;
  rule = undescribed add_alias_member;
}

abbrev pub remove_member_from_alias : Operation
remove_member_from_alias = record {
  profile = asking Samr samr_remove_member_from_alias (kinds.Only kind.Alias) alias_remove_member memory.Anywhere;
  rule = undescribed remove_alias_member;
}

abbrev pub get_members_in_alias : Operation
get_members_in_alias = record {
  profile = asking Samr samr_get_members_in_alias (kinds.Only kind.Alias) alias_list_members memory.Anywhere;
  rule = undescribed alias_members;
}

-- ---- by a handle to a user, or to a domain

abbrev pub get_groups_for_user : Operation
get_groups_for_user = record {
  profile = asking Samr samr_get_groups_for_user (kinds.Only kind.User) user_list_groups memory.Anywhere;
  rule = undescribed user_groups;
}

abbrev pub get_alias_membership : Operation
get_alias_membership = record {
  profile =
      asking Samr samr_get_alias_membership (kinds.Only kind.Domain) domain_get_alias_membership memory.Anywhere;
  rule = undescribed alias_membership;
}
