-- The table of operations: for each opnum of an interface that is served, the fields of its calls and the outputs of
-- its replies.
use Rattle.std.specs.Prelude.{ℕ, List, [], ◌∷◌, ◌==◌, Option, Some, None, if◌then◌else◌}
use Rattle.acct_calls.specs.declared.calls.Face.{Face}
use Rattle.acct_calls.specs.declared.calls.Face.TheVariants.{Samr, Lsa}
use Rattle.acct_codes.specs.Opnums.{samr_close_handle, samr_lookup_domain_in_sam_server}
use Rattle.acct_codes.specs.Opnums.{samr_enumerate_domains_in_sam_server, samr_open_domain}
use Rattle.acct_codes.specs.Opnums.{samr_query_information_domain, samr_set_information_domain}
use Rattle.acct_codes.specs.Opnums.{samr_create_group_in_domain, samr_enumerate_groups_in_domain}
use Rattle.acct_codes.specs.Opnums.{samr_create_user_in_domain, samr_enumerate_users_in_domain}
use Rattle.acct_codes.specs.Opnums.{samr_create_alias_in_domain, samr_enumerate_aliases_in_domain}
use Rattle.acct_codes.specs.Opnums.{samr_get_alias_membership, samr_lookup_names_in_domain, samr_lookup_ids_in_domain}
use Rattle.acct_codes.specs.Opnums.{samr_open_group, samr_query_information_group, samr_set_information_group}
use Rattle.acct_codes.specs.Opnums.{samr_add_member_to_group, samr_delete_group, samr_remove_member_from_group}
use Rattle.acct_codes.specs.Opnums.{samr_get_members_in_group, samr_open_alias, samr_query_information_alias}
use Rattle.acct_codes.specs.Opnums.{samr_set_information_alias, samr_delete_alias, samr_add_member_to_alias}
use Rattle.acct_codes.specs.Opnums.{samr_remove_member_from_alias, samr_get_members_in_alias, samr_open_user}
use Rattle.acct_codes.specs.Opnums.{samr_delete_user, samr_query_information_user, samr_set_information_user}
use Rattle.acct_codes.specs.Opnums.{samr_get_groups_for_user, samr_query_information_domain2}
use Rattle.acct_codes.specs.Opnums.{samr_query_information_user2, samr_create_user2_in_domain, samr_connect2}
use Rattle.acct_codes.specs.Opnums.{samr_set_information_user2, samr_connect4, samr_connect5, samr_rid_to_sid}
use Rattle.acct_codes.specs.Opnums.{samr_query_display_information}
use Rattle.acct_codes.specs.Opnums.{lsar_close, lsar_enumerate_privileges, lsar_query_information_policy}
use Rattle.acct_codes.specs.Opnums.{lsar_create_account, lsar_enumerate_accounts, lsar_lookup_names, lsar_lookup_sids}
use Rattle.acct_codes.specs.Opnums.{lsar_open_account, lsar_enumerate_privileges_account}
use Rattle.acct_codes.specs.Opnums.{lsar_add_privileges_to_account, lsar_remove_privileges_from_account}
use Rattle.acct_codes.specs.Opnums.{lsar_get_system_access_account, lsar_set_system_access_account}
use Rattle.acct_codes.specs.Opnums.{lsar_lookup_privilege_value, lsar_lookup_privilege_name, lsar_delete_object}
use Rattle.acct_codes.specs.Opnums.{lsar_enumerate_accounts_with_user_right, lsar_enumerate_account_rights}
use Rattle.acct_codes.specs.Opnums.{lsar_add_account_rights, lsar_remove_account_rights, lsar_open_policy2}
use Rattle.acct_codes.specs.Opnums.{lsar_query_information_policy2, lsar_lookup_sids2, lsar_lookup_names2}
use Rattle.acct_codes.specs.Opnums.{lsar_lookup_names3, samr_set_security_object, samr_query_security_object}
use Rattle.acct_codes.specs.Opnums.{lsar_query_security_object, lsar_set_security_object}
use Rattle.acct_layouts.specs.declared.classes.Subject.TheVariants as subject
use Rattle.acct_layouts.specs.declared.fields.Connect.TheVariants as connect
use Rattle.acct_layouts.specs.declared.fields.Creation.TheVariants as creation
use Rattle.acct_layouts.specs.declared.fields.Fields.{Fields}
use Rattle.acct_layouts.specs.declared.fields.Fields.TheVariants as fields
use Rattle.acct_layouts.specs.declared.fields.ScalarFields.TheVariants as plain
use Rattle.acct_layouts.specs.declared.fields.PolicyFields.TheVariants as policy
use Rattle.acct_layouts.specs.declared.fields.Search.TheVariants as search
use Rattle.acct_layouts.specs.declared.fields.SecurityFields.TheVariants as security
use Rattle.acct_layouts.specs.declared.fields.Translation.TheVariants as translation
use Rattle.acct_layouts.specs.declared.outputs.Listed.TheVariants as listed
use Rattle.acct_layouts.specs.declared.outputs.Outputs.{Outputs}
use Rattle.acct_layouts.specs.declared.outputs.Outputs.TheVariants as outputs
use Rattle.acct_layouts.specs.declared.outputs.ScalarOutputs.TheVariants as scalar
use Rattle.acct_layouts.specs.declared.outputs.PolicyOutputs.TheVariants as shown
use Rattle.acct_layouts.specs.declared.table.Layout.{Layout}

-- an operation, by its opnum, its fields and its outputs
abbrev pub laid_out : ℕ → Fields → Outputs → ℕ × Layout
laid_out opnum f o = (opnum, record { fields = f; outputs = o })

-- the account database (MS-SAMR 3.1.5)
abbrev pub samr_table : List (ℕ × Layout)
samr_table =
    -- SamrCloseHandle (3.1.5.13.1)
    laid_out samr_close_handle (fields.Scalar plain.Nothing) (outputs.Scalar scalar.HandleBack)
    -- SamrSetSecurityObject (3.1.5.12.1)
    ∷ laid_out samr_set_security_object (fields.Security security.Set) (outputs.Scalar scalar.Nothing)
    -- SamrQuerySecurityObject (3.1.5.12.2)
    ∷ laid_out samr_query_security_object (fields.Security security.Query) outputs.Security
    -- SamrLookupDomainInSamServer (3.1.5.11.1)
    ∷ laid_out samr_lookup_domain_in_sam_server (fields.Scalar plain.Name) (outputs.Scalar scalar.Sid)
    -- SamrEnumerateDomainsInSamServer (3.1.5.2.1)
    ∷ laid_out samr_enumerate_domains_in_sam_server (fields.Search search.Page) (outputs.Listed listed.Page)
    -- SamrOpenDomain (3.1.5.1.5)
    ∷ laid_out samr_open_domain (fields.Scalar plain.OpenDomain) (outputs.Scalar scalar.Handle)
    -- SamrQueryInformationDomain (3.1.5.5.2)
    ∷ laid_out samr_query_information_domain (fields.Class subject.Domain) (outputs.Shown subject.Domain)
    -- SamrSetInformationDomain (3.1.5.6.1)
    ∷ laid_out samr_set_information_domain (fields.Put subject.Domain) (outputs.Scalar scalar.Nothing)
    -- SamrCreateGroupInDomain (3.1.5.4.2)
    ∷ laid_out samr_create_group_in_domain (fields.Creation creation.Account) (outputs.Scalar scalar.Created)
    -- SamrEnumerateGroupsInDomain (3.1.5.2.3)
    ∷ laid_out samr_enumerate_groups_in_domain (fields.Search search.Page) (outputs.Listed listed.Page)
    -- SamrCreateUserInDomain (3.1.5.4.5)
    ∷ laid_out samr_create_user_in_domain (fields.Creation creation.User) (outputs.Scalar scalar.Created)
    -- SamrEnumerateUsersInDomain (3.1.5.2.5)
    ∷ laid_out samr_enumerate_users_in_domain (fields.Search search.FilteredPage) (outputs.Listed listed.Page)
    -- SamrCreateAliasInDomain (3.1.5.4.3)
    ∷ laid_out samr_create_alias_in_domain (fields.Creation creation.Account) (outputs.Scalar scalar.Created)
    -- SamrEnumerateAliasesInDomain (3.1.5.2.4)
    ∷ laid_out samr_enumerate_aliases_in_domain (fields.Search search.Page) (outputs.Listed listed.Page)
    -- SamrGetAliasMembership (3.1.5.9.2)
    ∷ laid_out samr_get_alias_membership (fields.Search search.Sids) (outputs.Listed listed.Rids)
    -- SamrLookupNamesInDomain (3.1.5.11.2)
    ∷ laid_out samr_lookup_names_in_domain (fields.Search search.Names) (outputs.Listed listed.RidUses)
    -- SamrLookupIdsInDomain (3.1.5.11.3)
    ∷ laid_out samr_lookup_ids_in_domain (fields.Search search.Rids) (outputs.Listed listed.NameUses)
    -- SamrOpenGroup (3.1.5.1.7)
    ∷ laid_out samr_open_group (fields.Scalar plain.OpenAccount) (outputs.Scalar scalar.Handle)
    -- SamrQueryInformationGroup (3.1.5.5.3)
    ∷ laid_out samr_query_information_group (fields.Class subject.Group) (outputs.Shown subject.Group)
    -- SamrSetInformationGroup (3.1.5.6.2)
    ∷ laid_out samr_set_information_group (fields.Put subject.Group) (outputs.Scalar scalar.Nothing)
    -- SamrAddMemberToGroup (3.1.5.8.1)
    ∷ laid_out samr_add_member_to_group (fields.Scalar plain.Member) (outputs.Scalar scalar.Nothing)
    -- SamrDeleteGroup (3.1.5.7.1)
    ∷ laid_out samr_delete_group (fields.Scalar plain.Nothing) (outputs.Scalar scalar.HandleBack)
    -- SamrRemoveMemberFromGroup (3.1.5.8.2)
    ∷ laid_out samr_remove_member_from_group (fields.Scalar plain.Rid) (outputs.Scalar scalar.Nothing)
    -- SamrGetMembersInGroup (3.1.5.8.3)
    ∷ laid_out samr_get_members_in_group (fields.Scalar plain.Nothing) (outputs.Listed listed.Members)
    -- SamrOpenAlias (3.1.5.1.8)
    ∷ laid_out samr_open_alias (fields.Scalar plain.OpenAccount) (outputs.Scalar scalar.Handle)
    -- SamrQueryInformationAlias (3.1.5.5.4)
    ∷ laid_out samr_query_information_alias (fields.Class subject.Alias) (outputs.Shown subject.Alias)
    -- SamrSetInformationAlias (3.1.5.6.3)
    ∷ laid_out samr_set_information_alias (fields.Put subject.Alias) (outputs.Scalar scalar.Nothing)
    -- SamrDeleteAlias (3.1.5.7.2)
    ∷ laid_out samr_delete_alias (fields.Scalar plain.Nothing) (outputs.Scalar scalar.HandleBack)
    -- SamrAddMemberToAlias (3.1.5.8.4)
    ∷ laid_out samr_add_member_to_alias (fields.Scalar plain.Sid) (outputs.Scalar scalar.Nothing)
    -- SamrRemoveMemberFromAlias (3.1.5.8.5)
    ∷ laid_out samr_remove_member_from_alias (fields.Scalar plain.Sid) (outputs.Scalar scalar.Nothing)
    -- SamrGetMembersInAlias (3.1.5.8.6)
    ∷ laid_out samr_get_members_in_alias (fields.Scalar plain.Nothing) (outputs.Listed listed.Sids)
    -- SamrOpenUser (3.1.5.1.9)
    ∷ laid_out samr_open_user (fields.Scalar plain.OpenAccount) (outputs.Scalar scalar.Handle)
    -- SamrDeleteUser (3.1.5.7.3)
    ∷ laid_out samr_delete_user (fields.Scalar plain.Nothing) (outputs.Scalar scalar.HandleBack)
    -- SamrQueryInformationUser (3.1.5.5.6)
    ∷ laid_out samr_query_information_user (fields.Class subject.User) (outputs.Shown subject.User)
    -- SamrSetInformationUser (3.1.5.6.5)
    ∷ laid_out samr_set_information_user (fields.Put subject.User) (outputs.Scalar scalar.Nothing)
    -- SamrGetGroupsForUser (3.1.5.9.1)
    ∷ laid_out samr_get_groups_for_user (fields.Scalar plain.Nothing) (outputs.Listed listed.Groups)
    -- SamrQueryDisplayInformation (3.1.5.3.3)
    ∷ laid_out samr_query_display_information (fields.Search search.Display) (outputs.Listed listed.Display)
    -- SamrQueryInformationDomain2 (3.1.5.5.1)
    ∷ laid_out samr_query_information_domain2 (fields.Class subject.Domain) (outputs.Shown subject.Domain)
    -- SamrQueryInformationUser2 (3.1.5.5.5)
    ∷ laid_out samr_query_information_user2 (fields.Class subject.User) (outputs.Shown subject.User)
    -- SamrCreateUser2InDomain (3.1.5.4.4)
    ∷ laid_out samr_create_user2_in_domain (fields.Creation creation.TypedUser) (outputs.Scalar scalar.Granted)
    -- SamrConnect2 (3.1.5.1.3)
    ∷ laid_out samr_connect2 (fields.Connect connect.Connect2) (outputs.Scalar scalar.Handle)
    -- SamrSetInformationUser2 (3.1.5.6.4)
    ∷ laid_out samr_set_information_user2 (fields.Put subject.User) (outputs.Scalar scalar.Nothing)
    -- SamrConnect4 (3.1.5.1.2)
    ∷ laid_out samr_connect4 (fields.Connect connect.Connect4) (outputs.Scalar scalar.Handle)
    -- SamrConnect5 (3.1.5.1.1)
    ∷ laid_out samr_connect5 (fields.Connect connect.Connect5) (outputs.Scalar scalar.Connected)
    -- SamrRidToSid (3.1.5.13.5)
    ∷ laid_out samr_rid_to_sid (fields.Scalar plain.Rid) (outputs.Scalar scalar.Sid)
    ∷ []

-- policy, rights and translation (MS-LSAD 3.1.4, MS-LSAT 3.1.4)
abbrev pub lsa_table : List (ℕ × Layout)
lsa_table =
    -- LsarClose (MS-LSAD 3.1.4.9.4)
    laid_out lsar_close (fields.Scalar plain.Nothing) (outputs.Scalar scalar.HandleBack)
    -- LsarEnumeratePrivileges (MS-LSAD 3.1.4.8.1)
    ∷ laid_out lsar_enumerate_privileges (fields.Search search.Page) (outputs.Policy shown.PrivilegePage)
    -- LsarQuerySecurityObject (MS-LSAD 3.1.4.9.1)
    ∷ laid_out lsar_query_security_object (fields.Security security.Query) outputs.Security
    -- LsarSetSecurityObject (MS-LSAD 3.1.4.9.2)
    ∷ laid_out lsar_set_security_object (fields.Security security.Set) (outputs.Scalar scalar.Nothing)
    -- LsarQueryInformationPolicy (MS-LSAD 3.1.4.4.4)
    ∷ laid_out lsar_query_information_policy (fields.Class subject.Policy) (outputs.Shown subject.Policy)
    -- LsarCreateAccount (MS-LSAD 3.1.4.5.1)
    ∷ laid_out lsar_create_account (fields.Policy policy.Account) (outputs.Scalar scalar.Handle)
    -- LsarEnumerateAccounts (MS-LSAD 3.1.4.5.2)
    ∷ laid_out lsar_enumerate_accounts (fields.Search search.Page) (outputs.Policy shown.SidPage)
    -- LsarLookupNames (MS-LSAT 3.1.4.8)
    ∷ laid_out lsar_lookup_names (fields.Translation translation.Names) (outputs.Translation translation.Names)
    -- LsarLookupSids (MS-LSAT 3.1.4.11)
    ∷ laid_out lsar_lookup_sids (fields.Translation translation.Sids) (outputs.Translation translation.Sids)
    -- LsarOpenAccount (MS-LSAD 3.1.4.5.3)
    ∷ laid_out lsar_open_account (fields.Policy policy.Account) (outputs.Scalar scalar.Handle)
    -- LsarEnumeratePrivilegesAccount (MS-LSAD 3.1.4.5.4)
    ∷ laid_out lsar_enumerate_privileges_account (fields.Scalar plain.Nothing) (outputs.Policy shown.Privileges)
    -- LsarAddPrivilegesToAccount (MS-LSAD 3.1.4.5.5)
    ∷ laid_out lsar_add_privileges_to_account (fields.Policy policy.AddPrivileges) (outputs.Scalar scalar.Nothing)
    -- LsarRemovePrivilegesFromAccount (MS-LSAD 3.1.4.5.6)
    ∷ laid_out lsar_remove_privileges_from_account (fields.Policy policy.RemovePrivileges)
    (outputs.Scalar scalar.Nothing)
    -- LsarGetSystemAccessAccount (MS-LSAD 3.1.4.5.7)
    ∷ laid_out lsar_get_system_access_account (fields.Scalar plain.Nothing) (outputs.Policy shown.SystemAccess)
    -- LsarSetSystemAccessAccount (MS-LSAD 3.1.4.5.8)
    ∷ laid_out lsar_set_system_access_account (fields.Policy policy.SystemAccess) (outputs.Scalar scalar.Nothing)
    -- LsarLookupPrivilegeValue (MS-LSAD 3.1.4.8.2)
    ∷ laid_out lsar_lookup_privilege_value (fields.Scalar plain.Name) (outputs.Policy shown.Luid)
    -- LsarLookupPrivilegeName (MS-LSAD 3.1.4.8.3)
    ∷ laid_out lsar_lookup_privilege_name (fields.Policy policy.Luid) (outputs.Policy shown.Name)
    -- LsarDeleteObject (MS-LSAD 3.1.4.9.3)
    ∷ laid_out lsar_delete_object (fields.Scalar plain.Nothing) (outputs.Scalar scalar.HandleBack)
    -- LsarEnumerateAccountsWithUserRight (MS-LSAD 3.1.4.5.9)
    ∷ laid_out lsar_enumerate_accounts_with_user_right (fields.Policy policy.Right) (outputs.Listed listed.Sids)
    -- LsarEnumerateAccountRights (MS-LSAD 3.1.4.5.10)
    ∷ laid_out lsar_enumerate_account_rights (fields.Scalar plain.Sid) (outputs.Policy shown.Rights)
    -- LsarAddAccountRights (MS-LSAD 3.1.4.5.11)
    ∷ laid_out lsar_add_account_rights (fields.Policy policy.AddRights) (outputs.Scalar scalar.Nothing)
    -- LsarRemoveAccountRights (MS-LSAD 3.1.4.5.12)
    ∷ laid_out lsar_remove_account_rights (fields.Policy policy.RemoveRights) (outputs.Scalar scalar.Nothing)
    -- LsarOpenPolicy2 (MS-LSAD 3.1.4.4.1)
    ∷ laid_out lsar_open_policy2 (fields.Connect connect.OpenPolicy2) (outputs.Scalar scalar.Handle)
    -- LsarQueryInformationPolicy2 (MS-LSAD 3.1.4.4.3)
    ∷ laid_out lsar_query_information_policy2 (fields.Class subject.Policy) (outputs.Shown subject.Policy)
    -- LsarLookupSids2 (MS-LSAT 3.1.4.10)
    ∷ laid_out lsar_lookup_sids2 (fields.Translation translation.Sids2) (outputs.Translation translation.Sids2)
    -- LsarLookupNames2 (MS-LSAT 3.1.4.7)
    ∷ laid_out lsar_lookup_names2 (fields.Translation translation.Names2) (outputs.Translation translation.Names2)
    -- LsarLookupNames3 (MS-LSAT 3.1.4.6)
    ∷ laid_out lsar_lookup_names3 (fields.Translation translation.Names3) (outputs.Translation translation.Names3)
    ∷ []

-- the layout that stands beside an opnum
abbrev pub layout_in : ℕ → List (ℕ × Layout) → Option Layout
layout_in opnum [] = None
layout_in opnum (x ∷ xs) = if opnum == x.0 then Some x.1 else layout_in opnum xs

unfoldable pub samr_layout : ℕ → Option Layout
samr_layout opnum = layout_in opnum samr_table

unfoldable pub lsa_layout : ℕ → Option Layout
lsa_layout opnum = layout_in opnum lsa_table

-- the layout of the operation of an interface and an opnum
abbrev pub layout_of : Face → ℕ → Option Layout
layout_of Samr opnum = samr_layout opnum
layout_of Lsa opnum = lsa_layout opnum
