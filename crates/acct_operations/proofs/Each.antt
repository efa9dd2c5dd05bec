-- What holds of each operation of the four crates, and of those of this one, holds of each of the table.
use Rattle.acct_rules.specs.Profiles.{Operation}
use Rattle.acct_operations.specs.Table.{operation, connect2, connect4, connect5, close_handle, open_policy2}
use Rattle.acct_operations.specs.Table.{close_policy, samr_set_security, samr_query_security, lsar_query_security}
use Rattle.acct_operations.specs.Table.{lsar_set_security}
use Rattle.acct_operations.specs.declared.table.Work.{Work}
use Rattle.acct_operations.specs.declared.table.Work.TheVariants as works
use Rattle.lsad_rights.specs.Laws.{Each as Rights}
use Rattle.lsat_translate.specs.Laws.{Each as Translations}
use Rattle.samr_members.specs.Laws.{Each as Members}
use Rattle.samr_objects.specs.Laws.{Each as Objects}

-- those that connect and close, and that read and set descriptors
pub record Own (P : Operation → Type 0) : Type 0 where
  pub connect2 : P connect2
  pub connect4 : P connect4
  pub connect5 : P connect5
  pub close_handle : P close_handle
  pub open_policy2 : P open_policy2
  pub close_policy : P close_policy
  pub samr_set_security : P samr_set_security
  pub samr_query_security : P samr_query_security
  pub lsar_query_security : P lsar_query_security
  pub lsar_set_security : P lsar_set_security

pub each : (P : Operation → Type 0) → Own P → Objects P → Members P → Rights P → Translations P → (work : Work)
    → P (operation work)
unfolding operation
each P own objects members rights translations works.SamrConnect2 = own.connect2
each P own objects members rights translations works.SamrConnect4 = own.connect4
each P own objects members rights translations works.SamrConnect5 = own.connect5
each P own objects members rights translations works.SamrCloseHandle = own.close_handle
each P own objects members rights translations works.SamrSetSecurityObject = own.samr_set_security
each P own objects members rights translations works.SamrQuerySecurityObject = own.samr_query_security
each P own objects members rights translations works.SamrLookupDomainInSamServer = objects.look_domain
each P own objects members rights translations works.SamrEnumerateDomainsInSamServer = objects.list_domains
each P own objects members rights translations works.SamrOpenDomain = objects.open_domain
each P own objects members rights translations works.SamrQueryInformationDomain = objects.query_domain
each P own objects members rights translations works.SamrQueryDisplayInformation = objects.query_display
each P own objects members rights translations works.SamrQueryInformationDomain2 = objects.query_domain2
each P own objects members rights translations works.SamrSetInformationDomain = objects.set_domain
each P own objects members rights translations works.SamrCreateGroupInDomain = objects.create_group
each P own objects members rights translations works.SamrEnumerateGroupsInDomain = objects.list_groups
each P own objects members rights translations works.SamrCreateUserInDomain = objects.create_user
each P own objects members rights translations works.SamrEnumerateUsersInDomain = objects.list_users
each P own objects members rights translations works.SamrCreateAliasInDomain = objects.create_alias
each P own objects members rights translations works.SamrEnumerateAliasesInDomain = objects.list_aliases
each P own objects members rights translations works.SamrGetAliasMembership = members.alias_membership
each P own objects members rights translations works.SamrLookupNamesInDomain = objects.look_names
each P own objects members rights translations works.SamrLookupIdsInDomain = objects.look_ids
each P own objects members rights translations works.SamrOpenGroup = objects.open_group
each P own objects members rights translations works.SamrQueryInformationGroup = objects.query_group
each P own objects members rights translations works.SamrSetInformationGroup = objects.set_group
each P own objects members rights translations works.SamrAddMemberToGroup = members.add_group_member
each P own objects members rights translations works.SamrDeleteGroup = objects.delete_group
each P own objects members rights translations works.SamrRemoveMemberFromGroup = members.remove_group_member
each P own objects members rights translations works.SamrGetMembersInGroup = members.group_members
each P own objects members rights translations works.SamrOpenAlias = objects.open_alias
each P own objects members rights translations works.SamrQueryInformationAlias = objects.query_alias
each P own objects members rights translations works.SamrSetInformationAlias = objects.set_alias
each P own objects members rights translations works.SamrDeleteAlias = objects.delete_alias
each P own objects members rights translations works.SamrAddMemberToAlias = members.add_alias_member
each P own objects members rights translations works.SamrRemoveMemberFromAlias = members.remove_alias_member
each P own objects members rights translations works.SamrGetMembersInAlias = members.alias_members
each P own objects members rights translations works.SamrOpenUser = objects.open_user
each P own objects members rights translations works.SamrDeleteUser = objects.delete_user
each P own objects members rights translations works.SamrQueryInformationUser = objects.query_user
each P own objects members rights translations works.SamrSetInformationUser = objects.set_user
each P own objects members rights translations works.SamrGetGroupsForUser = members.user_groups
each P own objects members rights translations works.SamrQueryInformationUser2 = objects.query_user2
each P own objects members rights translations works.SamrCreateUser2InDomain = objects.create_user2
each P own objects members rights translations works.SamrSetInformationUser2 = objects.set_user2
each P own objects members rights translations works.SamrRidToSid = objects.rid_to_sid
each P own objects members rights translations works.LsarOpenPolicy2 = own.open_policy2
each P own objects members rights translations works.LsarClose = own.close_policy
each P own objects members rights translations works.LsarQuerySecurityObject = own.lsar_query_security
each P own objects members rights translations works.LsarSetSecurityObject = own.lsar_set_security
each P own objects members rights translations works.LsarEnumeratePrivileges = rights.list_privileges
each P own objects members rights translations works.LsarQueryInformationPolicy = rights.query_policy
each P own objects members rights translations works.LsarCreateAccount = rights.create_account
each P own objects members rights translations works.LsarEnumerateAccounts = rights.list_accounts
each P own objects members rights translations works.LsarOpenAccount = rights.open_account
each P own objects members rights translations works.LsarEnumeratePrivilegesAccount = rights.account_privileges
each P own objects members rights translations works.LsarAddPrivilegesToAccount = rights.add_privileges
each P own objects members rights translations works.LsarRemovePrivilegesFromAccount = rights.remove_privileges
each P own objects members rights translations works.LsarGetSystemAccessAccount = rights.system_access
each P own objects members rights translations works.LsarSetSystemAccessAccount = rights.set_system_access
each P own objects members rights translations works.LsarLookupPrivilegeValue = rights.privilege_value
each P own objects members rights translations works.LsarLookupPrivilegeName = rights.privilege_name
each P own objects members rights translations works.LsarDeleteObject = rights.delete_account
each P own objects members rights translations works.LsarEnumerateAccountsWithUserRight = rights.accounts_with_right
each P own objects members rights translations works.LsarEnumerateAccountRights = rights.account_rights
each P own objects members rights translations works.LsarAddAccountRights = rights.add_rights
each P own objects members rights translations works.LsarRemoveAccountRights = rights.remove_rights
each P own objects members rights translations works.LsarQueryInformationPolicy2 = rights.query_policy2
each P own objects members rights translations works.LsarLookupNames = translations.look_names
each P own objects members rights translations works.LsarLookupSids = translations.look_sids
each P own objects members rights translations works.LsarLookupSids2 = translations.look_sids2
each P own objects members rights translations works.LsarLookupNames2 = translations.look_names2
each P own objects members rights translations works.LsarLookupNames3 = translations.look_names3
