-- What an account's fields are: relative identifiers, the control bits of a user, the attributes of a group, and what a
-- name or a SID is used for.
use Rattle.std.specs.Prelude.{ℕ}

-- ======== well-known relative identifiers of accounts (MS-DTYP 2.4.2.4), and the bounds of those that are given out

-- the identifier authority of everyone, S-1-1
abbrev pub security_world_authority : ℕ
security_world_authority = 1

-- the identifier authority of Windows, S-1-5
abbrev pub security_nt_authority : ℕ
security_nt_authority = 5

-- everyone, S-1-1-0
abbrev pub security_world_rid : ℕ
security_world_rid = 0

-- those who are logged on without a name, S-1-5-7
abbrev pub security_anonymous_logon_rid : ℕ
security_anonymous_logon_rid = 7

-- those whose name was proved, S-1-5-11
abbrev pub security_authenticated_user_rid : ℕ
security_authenticated_user_rid = 11

-- the system, S-1-5-18
abbrev pub security_local_system_rid : ℕ
security_local_system_rid = 18

-- the domain BUILTIN, S-1-5-32
abbrev pub security_builtin_domain_rid : ℕ
security_builtin_domain_rid = 32

-- the user Administrator
abbrev pub domain_user_rid_admin : ℕ
domain_user_rid_admin = 500

-- the user Guest
abbrev pub domain_user_rid_guest : ℕ
domain_user_rid_guest = 501

-- the group Domain Admins
abbrev pub domain_group_rid_admins : ℕ
domain_group_rid_admins = 512

-- the group Domain Users, of which every user is a member
abbrev pub domain_group_rid_users : ℕ
domain_group_rid_users = 513

-- the group Domain Guests
abbrev pub domain_group_rid_guests : ℕ
domain_group_rid_guests = 514

-- the alias Administrators of BUILTIN
abbrev pub domain_alias_rid_admins : ℕ
domain_alias_rid_admins = 544

-- the alias Users of BUILTIN
abbrev pub domain_alias_rid_users : ℕ
domain_alias_rid_users = 545

-- the alias Guests of BUILTIN
abbrev pub domain_alias_rid_guests : ℕ
domain_alias_rid_guests = 546

-- the first RID of a created account; those below are well-known (MS-SAMR 3.1.1.9.2)
abbrev pub first_created_rid : ℕ
first_created_rid = 1_000

-- the RID at which a domain gives out no more (MS-SAMR 3.1.1.9.2)
abbrev pub most_rid : ℕ
most_rid = 0x3FFF_FFFF

-- ======== the bits of a user's account control (MS-SAMR 2.2.1.12)

-- the account is disabled
abbrev pub user_account_disabled : ℕ
user_account_disabled = 0x0000_0001

-- no password is required
abbrev pub user_password_not_required : ℕ
user_password_not_required = 0x0000_0004

-- a normal user
abbrev pub user_normal_account : ℕ
user_normal_account = 0x0000_0010

-- the account of a computer that trusts the domain
abbrev pub user_workstation_trust_account : ℕ
user_workstation_trust_account = 0x0000_0080

-- the account of a domain controller
abbrev pub user_server_trust_account : ℕ
user_server_trust_account = 0x0000_0100

-- ======== attributes of a group, and of a membership in one (MS-SAMR 2.2.1.10)

-- the membership can't be switched off
abbrev pub se_group_mandatory : ℕ
se_group_mandatory = 0x0000_0001

-- it is switched on from the start
abbrev pub se_group_enabled_by_default : ℕ
se_group_enabled_by_default = 0x0000_0002

-- it is switched on
abbrev pub se_group_enabled : ℕ
se_group_enabled = 0x0000_0004

-- the attributes of a new group and of a new membership: those three (MS-SAMR 3.1.1.8.10)
abbrev pub new_group_attributes : ℕ
new_group_attributes = 0x0000_0007

-- ======== what a name or a SID is used for (SID_NAME_USE, MS-SAMR 2.2.2.3)

-- the account of a user
abbrev pub sid_type_user : ℕ
sid_type_user = 1

-- a group
abbrev pub sid_type_group : ℕ
sid_type_group = 2

-- a domain
abbrev pub sid_type_domain : ℕ
sid_type_domain = 3

-- an alias
abbrev pub sid_type_alias : ℕ
sid_type_alias = 4

-- a well-known name
abbrev pub sid_type_well_known_group : ℕ
sid_type_well_known_group = 5

-- no account, and no well-known name
abbrev pub sid_type_unknown : ℕ
sid_type_unknown = 8

-- ======== how far a name or a SID is looked up (LSAP_LOOKUP_LEVEL, MS-LSAT 2.2.16)

-- the least level: at the machine itself
abbrev pub lsap_lookup_wksta : ℕ
lsap_lookup_wksta = 1

-- the greatest level, and all between the two are levels
abbrev pub lsap_lookup_rodc_referral_to_full_dc : ℕ
lsap_lookup_rodc_referral_to_full_dc = 7
