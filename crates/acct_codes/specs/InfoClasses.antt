-- The information classes of each kind of object (MS-SAMR 2.2.3 to 2.2.6, MS-LSAD 2.2.4)
use Rattle.std.specs.Prelude.{ℕ}

-- ---- of a domain (DOMAIN_INFORMATION_CLASS, MS-SAMR 2.2.3.16)

-- rules on passwords
abbrev pub domain_password_information : ℕ
domain_password_information = 1

-- the OEM information
abbrev pub domain_oem_information : ℕ
domain_oem_information = 4

-- the name
abbrev pub domain_name_information : ℕ
domain_name_information = 5

-- rules on wrong passwords
abbrev pub domain_lockout_information : ℕ
domain_lockout_information = 12

-- ---- of what is displayed of a domain (DOMAIN_DISPLAY_INFORMATION, MS-SAMR 2.2.8.12)

-- its users
abbrev pub domain_display_user : ℕ
domain_display_user = 1

-- its groups
abbrev pub domain_display_group : ℕ
domain_display_group = 3

-- ---- of a group (GROUP_INFORMATION_CLASS, MS-SAMR 2.2.4.6)

-- name, attributes, number of members and comment
abbrev pub group_general_information : ℕ
group_general_information = 1

-- the name
abbrev pub group_name_information : ℕ
group_name_information = 2

-- the attributes
abbrev pub group_attribute_information : ℕ
group_attribute_information = 3

-- the administrator's comment
abbrev pub group_admin_comment_information : ℕ
group_admin_comment_information = 4

-- ---- of an alias (ALIAS_INFORMATION_CLASS, MS-SAMR 2.2.5.5)

-- name, number of members and comment
abbrev pub alias_general_information : ℕ
alias_general_information = 1

-- the name
abbrev pub alias_name_information : ℕ
alias_name_information = 2

-- the administrator's comment
abbrev pub alias_admin_comment_information : ℕ
alias_admin_comment_information = 3

-- ---- of a user (USER_INFORMATION_CLASS, MS-SAMR 2.2.6.28)

-- both names, primary group and comment
abbrev pub user_general_information : ℕ
user_general_information = 1

-- both names
abbrev pub user_name_information : ℕ
user_name_information = 6

-- the name of the account
abbrev pub user_account_name_information : ℕ
user_account_name_information = 7

-- the full name
abbrev pub user_full_name_information : ℕ
user_full_name_information = 8

-- the primary group
abbrev pub user_primary_group_information : ℕ
user_primary_group_information = 9

-- the administrator's comment
abbrev pub user_admin_comment_information : ℕ
user_admin_comment_information = 13

-- the control bits
abbrev pub user_control_information : ℕ
user_control_information = 16

-- what is kept of a password
abbrev pub user_internal1_information : ℕ
user_internal1_information = 18

-- everything, a password too
abbrev pub user_all_information : ℕ
user_all_information = 21

-- everything, with an encrypted password
abbrev pub user_internal4_information : ℕ
user_internal4_information = 23

-- an encrypted password
abbrev pub user_internal5_information : ℕ
user_internal5_information = 24

-- everything, with a password encrypted in a newer way
abbrev pub user_internal4_new_information : ℕ
user_internal4_new_information = 25

-- a password encrypted in a newer way
abbrev pub user_internal5_new_information : ℕ
user_internal5_new_information = 26

-- ---- of the policy (POLICY_INFORMATION_CLASS, MS-LSAD 2.2.4.1)

-- the domain that the server is in
abbrev pub policy_primary_domain_information : ℕ
policy_primary_domain_information = 3

-- the domain of its accounts
abbrev pub policy_account_domain_information : ℕ
policy_account_domain_information = 5
