-- The table of operations: the profile of each, and its rule.
use Rattle.std.specs.Prelude.{ℕ, ◌+◌, ◌==◌, Bool, true, false, ◌&&◌, List, [], ◌∷◌, Option, is_some}
use Rattle.std.specs.List.{find}
use Rattle.acct_calls.specs.declared.calls.Face.{Face}
use Rattle.acct_calls.specs.declared.calls.Face.TheVariants.{Samr, Lsa}
use Rattle.acct_codes.specs.Opnums.{samr_connect2, samr_connect4, samr_connect5, samr_close_handle, lsar_open_policy2}
use Rattle.acct_codes.specs.Opnums.{lsar_close, samr_rid_to_sid, lsar_lookup_names3, samr_set_security_object}
use Rattle.acct_codes.specs.Opnums.{samr_query_security_object, lsar_query_security_object, lsar_set_security_object}
use Rattle.acct_codes.specs.Rights.{read_control}
use Rattle.acct_rules.specs.declared.profile.Brings.TheVariants as brings
use Rattle.acct_rules.specs.declared.profile.Kinds.{Kinds}
use Rattle.acct_rules.specs.declared.profile.Kinds.TheVariants as kinds
use Rattle.acct_rules.specs.declared.profile.Needs.TheVariants as needs
use Rattle.acct_rules.specs.declared.profile.Memory.TheVariants as memory
use Rattle.acct_rules.specs.declared.profile.Profile.{Profile}
use Rattle.acct_rules.specs.Profiles.{Operation, undescribed, asking}
use Rattle.acct_operations.specs.declared.table.Work.{Work}
use Rattle.acct_operations.specs.declared.table.Work.TheVariants as works
use Rattle.acct_operations.specs.Openings.{connect, open_policy, close, query_security, set_security}
use Rattle.lsad_rights.specs.Table as rights
use Rattle.lsat_translate.specs.Table as translations
use Rattle.samr_members.specs.Table as members
use Rattle.samr_objects.specs.Table as objects

-- It brings no handle and needs no bit, and memory may run out for the new handle alone.
abbrev pub opening : Face → ℕ → Profile
opening face opnum = record {
  face = face;
  opnum = opnum;
  brings = brings.Nothing;
  needs = needs.Bits 0;
  memory = memory.AfterConditions;
}

-- It brings a handle to an object of these kinds and needs no bit, and memory never runs out.
abbrev pub closing : Face → ℕ → Kinds → Profile
closing face opnum taken = asking face opnum taken 0 memory.Never

-- It brings a handle to an object of these kinds, whose descriptor it reads or sets.
abbrev pub querying : Face → ℕ → Kinds → Profile
querying face opnum taken = asking face opnum taken read_control memory.Anywhere

abbrev pub setting : Face → ℕ → Kinds → Profile
setting face opnum taken = record (asking face opnum taken 0 memory.Anywhere) { needs = needs.ByParts }

-- ---- those that connect and close

abbrev pub connect2 : Operation
connect2 = record { profile = opening Samr samr_connect2; rule = undescribed connect }

abbrev pub connect4 : Operation
connect4 = record { profile = opening Samr samr_connect4; rule = undescribed connect }

abbrev pub connect5 : Operation
connect5 = record { profile = opening Samr samr_connect5; rule = undescribed connect }

abbrev pub close_handle : Operation
close_handle = record { profile = closing Samr samr_close_handle kinds.Samr; rule = undescribed close }

abbrev pub open_policy2 : Operation
open_policy2 = record { profile = opening Lsa lsar_open_policy2; rule = undescribed open_policy }

abbrev pub close_policy : Operation
close_policy = record { profile = closing Lsa lsar_close kinds.Lsa; rule = undescribed close }

-- ---- those that read and set security descriptors

abbrev pub samr_set_security : Operation
samr_set_security = record { profile = setting Samr samr_set_security_object kinds.Samr; rule = set_security }

abbrev pub samr_query_security : Operation
samr_query_security = record { profile = querying Samr samr_query_security_object kinds.Samr; rule = query_security }

abbrev pub lsar_query_security : Operation
lsar_query_security = record { profile = querying Lsa lsar_query_security_object kinds.Lsa; rule = query_security }

abbrev pub lsar_set_security : Operation
lsar_set_security = record { profile = setting Lsa lsar_set_security_object kinds.Lsa; rule = set_security }

-- ---- the table

-- It is unfolded by name alone, so that nothing above looks into one operation.
unfoldable pub operation : Work → Operation
operation works.SamrConnect2 = connect2
operation works.SamrConnect4 = connect4
operation works.SamrConnect5 = connect5
operation works.SamrCloseHandle = close_handle
operation works.SamrSetSecurityObject = samr_set_security
operation works.SamrQuerySecurityObject = samr_query_security
operation works.SamrLookupDomainInSamServer = objects.lookup_domain_in_sam_server
operation works.SamrEnumerateDomainsInSamServer = objects.enumerate_domains_in_sam_server
operation works.SamrOpenDomain = objects.open_domain_in_sam_server
operation works.SamrQueryInformationDomain = objects.query_information_domain
operation works.SamrQueryDisplayInformation = objects.query_display_information
operation works.SamrQueryInformationDomain2 = objects.query_information_domain2
operation works.SamrSetInformationDomain = objects.set_information_domain
operation works.SamrCreateGroupInDomain = objects.create_group_in_domain
operation works.SamrEnumerateGroupsInDomain = objects.enumerate_groups_in_domain
operation works.SamrCreateUserInDomain = objects.create_user_in_domain
operation works.SamrEnumerateUsersInDomain = objects.enumerate_users_in_domain
operation works.SamrCreateAliasInDomain = objects.create_alias_in_domain
operation works.SamrEnumerateAliasesInDomain = objects.enumerate_aliases_in_domain
operation works.SamrGetAliasMembership = members.get_alias_membership
operation works.SamrLookupNamesInDomain = objects.lookup_names_in_domain
operation works.SamrLookupIdsInDomain = objects.lookup_ids_in_domain
operation works.SamrOpenGroup = objects.open_group_in_domain
operation works.SamrQueryInformationGroup = objects.query_information_group
operation works.SamrSetInformationGroup = objects.set_information_group
operation works.SamrAddMemberToGroup = members.add_member_to_group
operation works.SamrDeleteGroup = objects.delete_group_in_domain
operation works.SamrRemoveMemberFromGroup = members.remove_member_from_group
operation works.SamrGetMembersInGroup = members.get_members_in_group
operation works.SamrOpenAlias = objects.open_alias_in_domain
operation works.SamrQueryInformationAlias = objects.query_information_alias
operation works.SamrSetInformationAlias = objects.set_information_alias
operation works.SamrDeleteAlias = objects.delete_alias_in_domain
operation works.SamrAddMemberToAlias = members.add_member_to_alias
operation works.SamrRemoveMemberFromAlias = members.remove_member_from_alias
operation works.SamrGetMembersInAlias = members.get_members_in_alias
operation works.SamrOpenUser = objects.open_user_in_domain
operation works.SamrDeleteUser = objects.delete_user_in_domain
operation works.SamrQueryInformationUser = objects.query_information_user
operation works.SamrSetInformationUser = objects.set_information_user
operation works.SamrGetGroupsForUser = members.get_groups_for_user
operation works.SamrQueryInformationUser2 = objects.query_information_user2
operation works.SamrCreateUser2InDomain = objects.create_user2_in_domain
operation works.SamrSetInformationUser2 = objects.set_information_user2
operation works.SamrRidToSid = objects.sid_of_rid_in_domain
operation works.LsarOpenPolicy2 = open_policy2
operation works.LsarClose = close_policy
operation works.LsarQuerySecurityObject = lsar_query_security
operation works.LsarSetSecurityObject = lsar_set_security
operation works.LsarEnumeratePrivileges = rights.enumerate_privileges
operation works.LsarQueryInformationPolicy = rights.query_information_policy
operation works.LsarCreateAccount = rights.create_account_in_policy
operation works.LsarEnumerateAccounts = rights.enumerate_accounts
operation works.LsarOpenAccount = rights.open_account_in_policy
operation works.LsarEnumeratePrivilegesAccount = rights.enumerate_privileges_account
operation works.LsarAddPrivilegesToAccount = rights.add_privileges_to_account
operation works.LsarRemovePrivilegesFromAccount = rights.remove_privileges_from_account
operation works.LsarGetSystemAccessAccount = rights.get_system_access_account
operation works.LsarSetSystemAccessAccount = rights.set_system_access_account
operation works.LsarLookupPrivilegeValue = rights.lookup_privilege_value
operation works.LsarLookupPrivilegeName = rights.lookup_privilege_name
operation works.LsarDeleteObject = rights.delete_object
operation works.LsarEnumerateAccountsWithUserRight = rights.enumerate_accounts_with_user_right
operation works.LsarEnumerateAccountRights = rights.enumerate_account_rights
operation works.LsarAddAccountRights = rights.add_account_rights
operation works.LsarRemoveAccountRights = rights.remove_account_rights
operation works.LsarQueryInformationPolicy2 = rights.query_information_policy2
operation works.LsarLookupNames = translations.lookup_names
operation works.LsarLookupSids = translations.lookup_sids
operation works.LsarLookupSids2 = translations.lookup_sids2
operation works.LsarLookupNames2 = translations.lookup_names2
operation works.LsarLookupNames3 = translations.lookup_names3

-- all of them
abbrev pub all_works : List Work
all_works =
    works.SamrConnect2
    ∷ works.SamrConnect4
    ∷ works.SamrConnect5
    ∷ works.SamrCloseHandle
    ∷ works.SamrSetSecurityObject
    ∷ works.SamrQuerySecurityObject
    ∷ works.SamrLookupDomainInSamServer
    ∷ works.SamrEnumerateDomainsInSamServer
    ∷ works.SamrOpenDomain
    ∷ works.SamrQueryInformationDomain
    ∷ works.SamrQueryDisplayInformation
    ∷ works.SamrQueryInformationDomain2
    ∷ works.SamrSetInformationDomain
    ∷ works.SamrCreateGroupInDomain
    ∷ works.SamrEnumerateGroupsInDomain
    ∷ works.SamrCreateUserInDomain
    ∷ works.SamrEnumerateUsersInDomain
    ∷ works.SamrCreateAliasInDomain
    ∷ works.SamrEnumerateAliasesInDomain
    ∷ works.SamrGetAliasMembership
    ∷ works.SamrLookupNamesInDomain
    ∷ works.SamrLookupIdsInDomain
    ∷ works.SamrOpenGroup
    ∷ works.SamrQueryInformationGroup
    ∷ works.SamrSetInformationGroup
    ∷ works.SamrAddMemberToGroup
    ∷ works.SamrDeleteGroup
    ∷ works.SamrRemoveMemberFromGroup
    ∷ works.SamrGetMembersInGroup
    ∷ works.SamrOpenAlias
    ∷ works.SamrQueryInformationAlias
    ∷ works.SamrSetInformationAlias
    ∷ works.SamrDeleteAlias
    ∷ works.SamrAddMemberToAlias
    ∷ works.SamrRemoveMemberFromAlias
    ∷ works.SamrGetMembersInAlias
    ∷ works.SamrOpenUser
    ∷ works.SamrDeleteUser
    ∷ works.SamrQueryInformationUser
    ∷ works.SamrSetInformationUser
    ∷ works.SamrGetGroupsForUser
    ∷ works.SamrQueryInformationUser2
    ∷ works.SamrCreateUser2InDomain
    ∷ works.SamrSetInformationUser2
    ∷ works.SamrRidToSid
    ∷ works.LsarOpenPolicy2
    ∷ works.LsarClose
    ∷ works.LsarQuerySecurityObject
    ∷ works.LsarSetSecurityObject
    ∷ works.LsarEnumeratePrivileges
    ∷ works.LsarQueryInformationPolicy
    ∷ works.LsarCreateAccount
    ∷ works.LsarEnumerateAccounts
    ∷ works.LsarOpenAccount
    ∷ works.LsarEnumeratePrivilegesAccount
    ∷ works.LsarAddPrivilegesToAccount
    ∷ works.LsarRemovePrivilegesFromAccount
    ∷ works.LsarGetSystemAccessAccount
    ∷ works.LsarSetSystemAccessAccount
    ∷ works.LsarLookupPrivilegeValue
    ∷ works.LsarLookupPrivilegeName
    ∷ works.LsarDeleteObject
    ∷ works.LsarEnumerateAccountsWithUserRight
    ∷ works.LsarEnumerateAccountRights
    ∷ works.LsarAddAccountRights
    ∷ works.LsarRemoveAccountRights
    ∷ works.LsarQueryInformationPolicy2
    ∷ works.LsarLookupNames
    ∷ works.LsarLookupSids
    ∷ works.LsarLookupSids2
    ∷ works.LsarLookupNames2
    ∷ works.LsarLookupNames3
    ∷ []

abbrev pub same_face : Face → Face → Bool
same_face Samr Samr = true
same_face Lsa Lsa = true
same_face _ _ = false

abbrev pub is_work_of : Face → ℕ → Work → Bool
is_work_of face opnum work = same_face face (operation work).profile.face && (opnum == (operation work).profile.opnum)

-- the operation of an interface and an opnum
unfoldable pub work_of : Face → ℕ → Option Work
work_of face opnum = find (is_work_of face opnum) all_works

-- how many opnums an interface has up to the last that is served
abbrev pub opnum_count : Face → ℕ
opnum_count Samr = samr_rid_to_sid + 1
opnum_count Lsa = lsar_lookup_names3 + 1

abbrev pub has_operation : Face → ℕ → Bool
has_operation face opnum = is_some (work_of face opnum)
