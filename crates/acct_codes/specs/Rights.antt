-- The rights to objects, and what the generic bits of an access mask stand for.
use Rattle.std.specs.Prelude.{ℕ}
use Rattle.acct_codes.specs.declared.kind.Kind.{Kind}
use Rattle.acct_codes.specs.declared.kind.Kind.TheVariants.{Server, Domain, Group, Alias, User, Policy, Account}
use Rattle.acct_codes.specs.declared.kind.Mapping.{Mapping}

-- ======== the rights to objects, as bits of an access mask: those of every kind (MS-DTYP 2.4.3), and the own ones of
-- each kind (MS-SAMR 2.2.1.1 to 2.2.1.7, MS-LSAD 2.2.1.1.2 and 2.2.1.1.3)

-- ---- of every kind (MS-DTYP 2.4.3)

-- to delete the object
abbrev pub delete : ℕ
delete = 0x0001_0000

-- to read the object's security descriptor
abbrev pub read_control : ℕ
read_control = 0x0002_0000

-- to write the access control list of the object's security descriptor
abbrev pub write_dac : ℕ
write_dac = 0x0004_0000

-- to write the owner of the object's security descriptor
abbrev pub write_owner : ℕ
write_owner = 0x0008_0000

-- to read and write the auditing list of the object's security descriptor
abbrev pub access_system_security : ℕ
access_system_security = 0x0100_0000

-- asks for every right that the caller can be granted
abbrev pub maximum_allowed : ℕ
maximum_allowed = 0x0200_0000

-- stands for the kind's mapping of all rights
abbrev pub generic_all : ℕ
generic_all = 0x1000_0000

-- stands for the kind's mapping of rights to execute
abbrev pub generic_execute : ℕ
generic_execute = 0x2000_0000

-- stands for the kind's mapping of rights to write
abbrev pub generic_write : ℕ
generic_write = 0x4000_0000

-- stands for the kind's mapping of rights to read
abbrev pub generic_read : ℕ
generic_read = 0x8000_0000

-- ---- SAM server objects (MS-SAMR 2.2.1.3)

-- to connect
abbrev pub sam_server_connect : ℕ
sam_server_connect = 0x0000_0001

-- defined by the standard, of no use in the protocol
abbrev pub sam_server_shutdown : ℕ
sam_server_shutdown = 0x0000_0002

-- defined by the standard, of no use in the protocol
abbrev pub sam_server_initialize : ℕ
sam_server_initialize = 0x0000_0004

-- defined by the standard, of no use in the protocol
abbrev pub sam_server_create_domain : ℕ
sam_server_create_domain = 0x0000_0008

-- to list the domains
abbrev pub sam_server_enumerate_domains : ℕ
sam_server_enumerate_domains = 0x0000_0010

-- to look up and open a domain
abbrev pub sam_server_lookup_domain : ℕ
sam_server_lookup_domain = 0x0000_0020

-- ---- domain objects (MS-SAMR 2.2.1.4)

-- to read the password policy
abbrev pub domain_read_password_parameters : ℕ
domain_read_password_parameters = 0x0000_0001

-- to write the password policy
abbrev pub domain_write_password_params : ℕ
domain_write_password_params = 0x0000_0002

-- to read what is not the password policy
abbrev pub domain_read_other_parameters : ℕ
domain_read_other_parameters = 0x0000_0004

-- to write what is not the password policy
abbrev pub domain_write_other_parameters : ℕ
domain_write_other_parameters = 0x0000_0008

-- to create a user
abbrev pub domain_create_user : ℕ
domain_create_user = 0x0000_0010

-- to create a group
abbrev pub domain_create_group : ℕ
domain_create_group = 0x0000_0020

-- to create an alias
abbrev pub domain_create_alias : ℕ
domain_create_alias = 0x0000_0040

-- to read which aliases hold a SID
abbrev pub domain_get_alias_membership : ℕ
domain_get_alias_membership = 0x0000_0080

-- to list the accounts
abbrev pub domain_list_accounts : ℕ
domain_list_accounts = 0x0000_0100

-- to look up and open an account
abbrev pub domain_lookup : ℕ
domain_lookup = 0x0000_0200

-- defined by the standard, of no use in the protocol
abbrev pub domain_administer_server : ℕ
domain_administer_server = 0x0000_0400

-- ---- group objects (MS-SAMR 2.2.1.5)

-- to read its attributes
abbrev pub group_read_information : ℕ
group_read_information = 0x0000_0001

-- to write its attributes
abbrev pub group_write_account : ℕ
group_write_account = 0x0000_0002

-- to add a member
abbrev pub group_add_member : ℕ
group_add_member = 0x0000_0004

-- to remove a member
abbrev pub group_remove_member : ℕ
group_remove_member = 0x0000_0008

-- to list the members
abbrev pub group_list_members : ℕ
group_list_members = 0x0000_0010

-- ---- alias objects (MS-SAMR 2.2.1.6)

-- to add a member
abbrev pub alias_add_member : ℕ
alias_add_member = 0x0000_0001

-- to remove a member
abbrev pub alias_remove_member : ℕ
alias_remove_member = 0x0000_0002

-- to list the members
abbrev pub alias_list_members : ℕ
alias_list_members = 0x0000_0004

-- to read its attributes
abbrev pub alias_read_information : ℕ
alias_read_information = 0x0000_0008

-- to write its attributes
abbrev pub alias_write_account : ℕ
alias_write_account = 0x0000_0010

-- ---- user objects (MS-SAMR 2.2.1.7)

-- to read general attributes
abbrev pub user_read_general : ℕ
user_read_general = 0x0000_0001

-- to read preferences
abbrev pub user_read_preferences : ℕ
user_read_preferences = 0x0000_0002

-- to write preferences
abbrev pub user_write_preferences : ℕ
user_write_preferences = 0x0000_0004

-- to read what is known of logons
abbrev pub user_read_logon : ℕ
user_read_logon = 0x0000_0008

-- to read the account's attributes
abbrev pub user_read_account : ℕ
user_read_account = 0x0000_0010

-- to write the account's attributes
abbrev pub user_write_account : ℕ
user_write_account = 0x0000_0020

-- to change the password, given the old one
abbrev pub user_change_password : ℕ
user_change_password = 0x0000_0040

-- to set the password
abbrev pub user_force_password_change : ℕ
user_force_password_change = 0x0000_0080

-- to list the groups that have the user as a member
abbrev pub user_list_groups : ℕ
user_list_groups = 0x0000_0100

-- defined by the standard, of no use in the protocol
abbrev pub user_read_group_information : ℕ
user_read_group_information = 0x0000_0200

-- defined by the standard, of no use in the protocol
abbrev pub user_write_group_information : ℕ
user_write_group_information = 0x0000_0400

-- ---- policy objects (MS-LSAD 2.2.1.1.2)

-- to read the policy
abbrev pub policy_view_local_information : ℕ
policy_view_local_information = 0x0000_0001

-- to read the auditing policy
abbrev pub policy_view_audit_information : ℕ
policy_view_audit_information = 0x0000_0002

-- to read private information
abbrev pub policy_get_private_information : ℕ
policy_get_private_information = 0x0000_0004

-- to administer trusted domains
abbrev pub policy_trust_admin : ℕ
policy_trust_admin = 0x0000_0008

-- to create an account object
abbrev pub policy_create_account : ℕ
policy_create_account = 0x0000_0010

-- to create a secret
abbrev pub policy_create_secret : ℕ
policy_create_secret = 0x0000_0020

-- to create a privilege, which no call of the protocol does
abbrev pub policy_create_privilege : ℕ
policy_create_privilege = 0x0000_0040

-- to set default quotas
abbrev pub policy_set_default_quota_limits : ℕ
policy_set_default_quota_limits = 0x0000_0080

-- to set the auditing policy
abbrev pub policy_set_audit_requirements : ℕ
policy_set_audit_requirements = 0x0000_0100

-- to administer the audit log
abbrev pub policy_audit_log_admin : ℕ
policy_audit_log_admin = 0x0000_0200

-- to administer the server
abbrev pub policy_server_admin : ℕ
policy_server_admin = 0x0000_0400

-- to translate names and SIDs
abbrev pub policy_lookup_names : ℕ
policy_lookup_names = 0x0000_0800

-- ---- account objects of the policy (MS-LSAD 2.2.1.1.3)

-- to read it
abbrev pub account_view : ℕ
account_view = 0x0000_0001

-- to add and remove privileges
abbrev pub account_adjust_privileges : ℕ
account_adjust_privileges = 0x0000_0002

-- to set quotas
abbrev pub account_adjust_quotas : ℕ
account_adjust_quotas = 0x0000_0004

-- to set the logon rights
abbrev pub account_adjust_system_access : ℕ
account_adjust_system_access = 0x0000_0008

-- ======== what the generic bits of an access mask stand for at each kind of objects (MS-SAMR 2.2.1.3 to 2.2.1.7,
-- MS-LSAD 2.2.1.1.2 and 2.2.1.1.3)

abbrev pub generic_mapping : Kind → Mapping
generic_mapping Server = record { all = 0x000F_003F; read = 0x0002_0010; write = 0x0002_000E; execute = 0x0002_0021 }
generic_mapping Domain = record { all = 0x000F_07FF; read = 0x0002_0084; write = 0x0002_047A; execute = 0x0002_0301 }
generic_mapping Group = record { all = 0x000F_001F; read = 0x0002_0010; write = 0x0002_000E; execute = 0x0002_0001 }
generic_mapping Alias = record { all = 0x000F_001F; read = 0x0002_0004; write = 0x0002_0013; execute = 0x0002_0008 }
generic_mapping User = record { all = 0x000F_07FF; read = 0x0002_031A; write = 0x0002_0044; execute = 0x0002_0041 }
generic_mapping Policy = record { all = 0x000F_0FFF; read = 0x0002_0006; write = 0x0002_07F8; execute = 0x0002_0801 }
generic_mapping Account = record { all = 0x000F_000F; read = 0x0002_0001; write = 0x0002_000E; execute = 0x0002_0000 }

-- the rights to an object of the kind: all that GENERIC_ALL stands for
abbrev pub valid_rights : Kind → ℕ
valid_rights kind = (generic_mapping kind).all
