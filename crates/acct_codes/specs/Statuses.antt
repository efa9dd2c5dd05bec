-- The statuses of replies (MS-ERREF 2.3.1), each by its name there.
use Rattle.std.specs.Prelude.{ℕ}

-- the call was done
abbrev pub status_success : ℕ
status_success = 0

-- entries are left
abbrev pub status_more_entries : ℕ
status_more_entries = 0x0000_0105

-- some of the names or SIDs were not translated
abbrev pub status_some_not_mapped : ℕ
status_some_not_mapped = 0x0000_0107

-- no entry is left
abbrev pub status_no_more_entries : ℕ
status_no_more_entries = 0x8000_001A

-- the information class is not one of the operation
abbrev pub status_invalid_info_class : ℕ
status_invalid_info_class = 0xC000_0003

-- an argument is refused
abbrev pub status_invalid_parameter : ℕ
status_invalid_parameter = 0xC000_000D

-- memory ran out
abbrev pub status_no_memory : ℕ
status_no_memory = 0xC000_0017

-- the access is not granted
abbrev pub status_access_denied : ℕ
status_access_denied = 0xC000_0022

-- the handle stands for an object of another kind
abbrev pub status_object_type_mismatch : ℕ
status_object_type_mismatch = 0xC000_0024

-- there is no such object
abbrev pub status_object_name_not_found : ℕ
status_object_name_not_found = 0xC000_0034

-- there is such an object
abbrev pub status_object_name_collision : ℕ
status_object_name_collision = 0xC000_0035

-- there is no such privilege
abbrev pub status_no_such_privilege : ℕ
status_no_such_privilege = 0xC000_0060

-- the name is none of an account
abbrev pub status_invalid_account_name : ℕ
status_invalid_account_name = 0xC000_0062

-- a user has the name
abbrev pub status_user_exists : ℕ
status_user_exists = 0xC000_0063

-- there is no such user
abbrev pub status_no_such_user : ℕ
status_no_such_user = 0xC000_0064

-- a group has the name
abbrev pub status_group_exists : ℕ
status_group_exists = 0xC000_0065

-- there is no such group
abbrev pub status_no_such_group : ℕ
status_no_such_group = 0xC000_0066

-- the user is a member already
abbrev pub status_member_in_group : ℕ
status_member_in_group = 0xC000_0067

-- the user is no member
abbrev pub status_member_not_in_group : ℕ
status_member_not_in_group = 0xC000_0068

-- none of the names or SIDs was translated
abbrev pub status_none_mapped : ℕ
status_none_mapped = 0xC000_0073

-- nothing is left to give
abbrev pub status_insufficient_resources : ℕ
status_insufficient_resources = 0xC000_009A

-- the request is not supported
abbrev pub status_not_supported : ℕ
status_not_supported = 0xC000_00BB

-- there is no such domain
abbrev pub status_no_such_domain : ℕ
status_no_such_domain = 0xC000_00DF

-- the account may not be deleted
abbrev pub status_special_account : ℕ
status_special_account = 0xC000_0124

-- the group is the primary group of the member
abbrev pub status_members_primary_group : ℕ
status_members_primary_group = 0xC000_0127

-- there is no such alias
abbrev pub status_no_such_alias : ℕ
status_no_such_alias = 0xC000_0151

-- the SID is no member of the alias
abbrev pub status_member_not_in_alias : ℕ
status_member_not_in_alias = 0xC000_0152

-- the SID is a member of the alias already
abbrev pub status_member_in_alias : ℕ
status_member_in_alias = 0xC000_0153

-- an alias has the name
abbrev pub status_alias_exists : ℕ
status_alias_exists = 0xC000_0154

-- the store failed
abbrev pub status_internal_db_error : ℕ
status_internal_db_error = 0xC000_0158
