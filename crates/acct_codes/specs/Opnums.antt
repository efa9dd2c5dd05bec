-- The operation numbers of the two interfaces, each by the method's name in the standards (MS-SAMR 3.1.5;
-- MS-LSAD 3.1.4; MS-LSAT 3.1.4).
use Rattle.std.specs.Prelude.{ℕ}

-- ---- the account database (MS-SAMR 3.1.5)

abbrev pub samr_close_handle : ℕ
samr_close_handle = 1

abbrev pub samr_set_security_object : ℕ
samr_set_security_object = 2

abbrev pub samr_query_security_object : ℕ
samr_query_security_object = 3

abbrev pub samr_lookup_domain_in_sam_server : ℕ
samr_lookup_domain_in_sam_server = 5

abbrev pub samr_enumerate_domains_in_sam_server : ℕ
samr_enumerate_domains_in_sam_server = 6

abbrev pub samr_open_domain : ℕ
samr_open_domain = 7

abbrev pub samr_query_information_domain : ℕ
samr_query_information_domain = 8

abbrev pub samr_set_information_domain : ℕ
samr_set_information_domain = 9

abbrev pub samr_create_group_in_domain : ℕ
samr_create_group_in_domain = 10

abbrev pub samr_enumerate_groups_in_domain : ℕ
samr_enumerate_groups_in_domain = 11

abbrev pub samr_create_user_in_domain : ℕ
samr_create_user_in_domain = 12

abbrev pub samr_enumerate_users_in_domain : ℕ
samr_enumerate_users_in_domain = 13

abbrev pub samr_create_alias_in_domain : ℕ
samr_create_alias_in_domain = 14

abbrev pub samr_enumerate_aliases_in_domain : ℕ
samr_enumerate_aliases_in_domain = 15

abbrev pub samr_get_alias_membership : ℕ
samr_get_alias_membership = 16

abbrev pub samr_lookup_names_in_domain : ℕ
samr_lookup_names_in_domain = 17

abbrev pub samr_lookup_ids_in_domain : ℕ
samr_lookup_ids_in_domain = 18

abbrev pub samr_open_group : ℕ
samr_open_group = 19

abbrev pub samr_query_information_group : ℕ
samr_query_information_group = 20

abbrev pub samr_set_information_group : ℕ
samr_set_information_group = 21

abbrev pub samr_add_member_to_group : ℕ
samr_add_member_to_group = 22

abbrev pub samr_delete_group : ℕ
samr_delete_group = 23

abbrev pub samr_remove_member_from_group : ℕ
samr_remove_member_from_group = 24

abbrev pub samr_get_members_in_group : ℕ
samr_get_members_in_group = 25

abbrev pub samr_open_alias : ℕ
samr_open_alias = 27

abbrev pub samr_query_information_alias : ℕ
samr_query_information_alias = 28

abbrev pub samr_set_information_alias : ℕ
samr_set_information_alias = 29

abbrev pub samr_delete_alias : ℕ
samr_delete_alias = 30

abbrev pub samr_add_member_to_alias : ℕ
samr_add_member_to_alias = 31

abbrev pub samr_remove_member_from_alias : ℕ
samr_remove_member_from_alias = 32

abbrev pub samr_get_members_in_alias : ℕ
samr_get_members_in_alias = 33

abbrev pub samr_open_user : ℕ
samr_open_user = 34

abbrev pub samr_delete_user : ℕ
samr_delete_user = 35

abbrev pub samr_query_information_user : ℕ
samr_query_information_user = 36

abbrev pub samr_set_information_user : ℕ
samr_set_information_user = 37

abbrev pub samr_get_groups_for_user : ℕ
samr_get_groups_for_user = 39

abbrev pub samr_query_display_information : ℕ
samr_query_display_information = 40

abbrev pub samr_query_information_domain2 : ℕ
samr_query_information_domain2 = 46

abbrev pub samr_query_information_user2 : ℕ
samr_query_information_user2 = 47

abbrev pub samr_create_user2_in_domain : ℕ
samr_create_user2_in_domain = 50

abbrev pub samr_connect2 : ℕ
samr_connect2 = 57

abbrev pub samr_set_information_user2 : ℕ
samr_set_information_user2 = 58

abbrev pub samr_connect4 : ℕ
samr_connect4 = 62

abbrev pub samr_connect5 : ℕ
samr_connect5 = 64

abbrev pub samr_rid_to_sid : ℕ
samr_rid_to_sid = 65

-- ---- the policy, and the translation of names and SIDs (MS-LSAD 3.1.4, MS-LSAT 3.1.4)

abbrev pub lsar_close : ℕ
lsar_close = 0

abbrev pub lsar_enumerate_privileges : ℕ
lsar_enumerate_privileges = 2

abbrev pub lsar_query_security_object : ℕ
lsar_query_security_object = 3

abbrev pub lsar_set_security_object : ℕ
lsar_set_security_object = 4

abbrev pub lsar_query_information_policy : ℕ
lsar_query_information_policy = 7

abbrev pub lsar_create_account : ℕ
lsar_create_account = 10

abbrev pub lsar_enumerate_accounts : ℕ
lsar_enumerate_accounts = 11

abbrev pub lsar_lookup_names : ℕ
lsar_lookup_names = 14

abbrev pub lsar_lookup_sids : ℕ
lsar_lookup_sids = 15

abbrev pub lsar_open_account : ℕ
lsar_open_account = 17

abbrev pub lsar_enumerate_privileges_account : ℕ
lsar_enumerate_privileges_account = 18

abbrev pub lsar_add_privileges_to_account : ℕ
lsar_add_privileges_to_account = 19

abbrev pub lsar_remove_privileges_from_account : ℕ
lsar_remove_privileges_from_account = 20

abbrev pub lsar_get_system_access_account : ℕ
lsar_get_system_access_account = 23

abbrev pub lsar_set_system_access_account : ℕ
lsar_set_system_access_account = 24

abbrev pub lsar_lookup_privilege_value : ℕ
lsar_lookup_privilege_value = 31

abbrev pub lsar_lookup_privilege_name : ℕ
lsar_lookup_privilege_name = 32

abbrev pub lsar_delete_object : ℕ
lsar_delete_object = 34

abbrev pub lsar_enumerate_accounts_with_user_right : ℕ
lsar_enumerate_accounts_with_user_right = 35

abbrev pub lsar_enumerate_account_rights : ℕ
lsar_enumerate_account_rights = 36

abbrev pub lsar_add_account_rights : ℕ
lsar_add_account_rights = 37

abbrev pub lsar_remove_account_rights : ℕ
lsar_remove_account_rights = 38

abbrev pub lsar_open_policy2 : ℕ
lsar_open_policy2 = 44

abbrev pub lsar_query_information_policy2 : ℕ
lsar_query_information_policy2 = 46

abbrev pub lsar_lookup_sids2 : ℕ
lsar_lookup_sids2 = 57

abbrev pub lsar_lookup_names2 : ℕ
lsar_lookup_names2 = 58

abbrev pub lsar_lookup_names3 : ℕ
lsar_lookup_names3 = 68
