-- Which rows are good by themselves
use Rattle.std.specs.Prelude.{◌≡◌, ℕ, ◌+◌, ◌^◌, ◌<◌, ◌≤◌, ◌==◌, nat_lt, Bool, true, false, ◌&&◌, ◌||◌, List, [], ◌∷◌}
use Rattle.std.specs.Prelude.{length, All, bit_and}
use Rattle.dtyp_access.specs.Parts.{IsDescriptor}
use Rattle.acct_codes.specs.declared.kind.Kind.{Kind}
use Rattle.acct_codes.specs.declared.kind.Kind.TheVariants.{Group, Alias, User}
use Rattle.acct_codes.specs.Limits.{most_text}
use Rattle.acct_codes.specs.Privileges.{se_create_token, se_create_global, known_system_access}
use Rattle.acct_codes.specs.Accounts.{first_created_rid, most_rid, user_account_disabled, user_password_not_required}
use Rattle.acct_codes.specs.Accounts.{user_normal_account, user_workstation_trust_account, user_server_trust_account}
use Rattle.dtyp_sid.specs.Sids.{IsSid}
use Rattle.acct_calls.specs.Names.{AreUnits, builtin_name, builtin_sid, is_domain_name, is_domain_sid, is_valid_name}
use Rattle.acct_tables.specs.Keys.{account_domain, builtin_domain}
use Rattle.acct_tables.specs.Selected.{same_kind}
use Rattle.acct_tables.specs.declared.row.DomainRow.{DomainRow}
use Rattle.acct_tables.specs.declared.row.AccountRow.{AccountRow}
use Rattle.acct_tables.specs.declared.row.MemberRow.{MemberRow}
use Rattle.acct_tables.specs.declared.row.LsaRow.{LsaRow}
use Rattle.acct_tables.specs.declared.row.DescRow.{DescRow}
use Rattle.acct_tables.specs.declared.row.OutRow.{OutRow}
use Rattle.acct_tables.specs.declared.row.Held.{Held}

-- a domain by itself
pub record IsGoodDomain (d : DomainRow) : Type 0 where
  -- its SID and its texts are such: numbers and units are as wide as they may be
  pub sid_whole : IsSid d.sid
  pub name_units : AreUnits d.name
  pub oem_units : AreUnits d.oem
  -- there are the account domain, 0, and BUILTIN, 1
  pub number_most : d.number ≤ 1
  -- the account domain's name and SID are such that a configuration may name
  pub account_name : d.number ≡ 0 → is_domain_name d.name ≡ true
  pub account_sid : d.number ≡ 0 → is_domain_sid d.sid ≡ true
  -- those of BUILTIN are its own
  pub builtin_named : d.number ≡ 1 → d.name ≡ builtin_name
  pub builtin_sided : d.number ≡ 1 → d.sid ≡ builtin_sid
  -- OEM information has no more units than a text may have
  pub oem_most : length d.oem ≤ most_text
  -- the next RID is a RID that a created account may take, or the limit
  pub next_least : first_created_rid ≤ d.next_rid
  pub next_most : d.next_rid ≤ most_rid

-- the types of a user
abbrev pub is_user_type : ℕ → Bool
is_user_type bits =
    (bits == user_normal_account) || ((bits == user_workstation_trust_account) || (bits == user_server_trust_account))

-- every bit of a user's control, and those of its type
abbrev pub user_types : ℕ
user_types = user_normal_account + user_workstation_trust_account + user_server_trust_account

abbrev pub known_control : ℕ
known_control = user_account_disabled + user_password_not_required + user_types

-- a user's control has known bits alone, and exactly one of the types
abbrev pub control_is_good : ℕ → Bool
control_is_good bits = (bit_and bits known_control == bits) && is_user_type (bit_and bits user_types)

-- what the bits of an account may be: a group's attributes are any number
abbrev pub good_bits : Kind → ℕ → Bool
good_bits User bits = control_is_good bits
good_bits Group bits = true
good_bits _ bits = bits == 0

-- only users have a primary group
abbrev pub good_primary : Kind → ℕ → Bool
good_primary User primary = true
good_primary _ primary = primary == 0

-- users, groups and aliases are accounts
abbrev pub is_account_kind : Kind → Bool
is_account_kind User = true
is_account_kind Group = true
is_account_kind Alias = true
is_account_kind _ = false

-- BUILTIN has aliases alone
abbrev pub good_place : ℕ → Kind → Bool
good_place domain kind = (domain == account_domain) || ((domain == builtin_domain) && same_kind Alias kind)

-- an account by itself
pub record IsGoodRow (a : AccountRow) : Type 0 where
  -- its texts have units, and its bits are a number of 32
  pub name_units : AreUnits a.name
  pub full_name_units : AreUnits a.full_name
  pub comment_units : AreUnits a.comment
  pub bits_fit : a.bits < 2 ^ 32
  pub kind_known : is_account_kind a.kind ≡ true
  pub place : good_place a.domain a.kind ≡ true
  -- its name is one that its kind may have (MS-SAMR 3.1.1.8.4)
  pub named : is_valid_name a.kind a.name ≡ true
  -- its full name and its comment have no more units than a text may have
  pub full_name_most : length a.full_name ≤ most_text
  pub comment_most : length a.comment ≤ most_text
  pub control : good_bits a.kind a.bits ≡ true
  pub primary_kind : good_primary a.kind a.primary ≡ true

-- a member row by itself: its attributes are a number of 32 bits
abbrev pub IsGoodMember : MemberRow → Type 0
IsGoodMember m = m.attributes < 2 ^ 32

-- privileges stand by strictly ascending low part of their LUID, so that none stands twice
abbrev pub are_above : ℕ → List Held → Bool
are_above low [] = true
are_above low (held ∷ rest) = nat_lt low held.low && are_above held.low rest

-- the known privileges are all those between the first and the last, and have attributes of 32 bits
abbrev pub IsKnown : Held → Type 0
IsKnown held = (se_create_token ≤ held.low) × (held.low ≤ se_create_global) × (held.attributes < 2 ^ 32)

-- an account of the policy by itself
pub record IsGoodLsa (l : LsaRow) : Type 0 where
  pub sid_whole : IsSid l.sid
  -- its system access has bits of rights alone (MS-LSAD 2.2.1.2)
  pub access_known : bit_and l.access known_system_access ≡ l.access
  pub privileges_ascend : are_above 0 l.privileges ≡ true
  pub privileges_known : All IsKnown l.privileges

-- a descriptor by itself: its SIDs are such, its masks have 32 bits, and its list has no more entries than are written
abbrev pub IsGoodDescriptor : DescRow → Type 0
IsGoodDescriptor d = IsDescriptor d.descriptor

-- a change of an account by itself
pub record IsGoodOut (o : OutRow) : Type 0 where
  pub number_least : 1 ≤ o.number
  -- an account was made, changed or removed
  pub action_least : 1 ≤ o.action
  pub action_most : o.action ≤ 3
  -- the account's RID is one that a domain may have given out
  pub rid_most : o.rid < most_rid
  pub kind_known : is_account_kind o.kind ≡ true
  pub place : good_place o.domain o.kind ≡ true
  -- its name is one that its kind may have (MS-SAMR 3.1.1.8.4)
  pub name_units : AreUnits o.name
  pub named : is_valid_name o.kind o.name ≡ true
