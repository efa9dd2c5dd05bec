-- Which rows of a list a look-up gives: by name, by primary group, by group, user, alias or SID, and those that name
-- an account
use Rattle.std.specs.Prelude.{ℕ, ◌==◌, Bool, true, false, ◌&&◌, List, [], ◌∷◌, if◌then◌else◌, ◌||◌}
use Rattle.std.specs.List.{list_any}
use Rattle.acct_codes.specs.declared.kind.Kind.{Kind}
use Rattle.acct_codes.specs.declared.kind.Kind.TheVariants.{Server, Domain, Group, Alias, User, Policy, Account}
use Rattle.dtyp_sid.specs.Sids.{sid_eq, SidValue}
use Rattle.acct_calls.specs.Names.{is_same}
use Rattle.acct_tables.specs.Keys.{account_domain}
use Rattle.acct_tables.specs.declared.row.AccountRow.{AccountRow}
use Rattle.acct_tables.specs.declared.row.AliasRow.{AliasRow}
use Rattle.acct_tables.specs.declared.row.MemberRow.{MemberRow}
use Rattle.acct_tables.specs.declared.row.RowKey.{RowKey}
use Rattle.acct_tables.specs.declared.row.RowKey.TheVariants as keys

-- whether two kinds are one
abbrev pub same_kind : Kind → Kind → Bool
same_kind Server Server = true
same_kind Domain Domain = true
same_kind Group Group = true
same_kind Alias Alias = true
same_kind User User = true
same_kind Policy Policy = true
same_kind Account Account = true
same_kind _ _ = false

-- whether an account of a domain has a name: names are one where they are so after simple case folding
abbrev pub has_name : ℕ → List ℕ → AccountRow → Bool
has_name domain name a = (a.domain == domain) && is_same a.name name

-- whether an account is a user with that primary group
abbrev pub has_primary : ℕ → AccountRow → Bool
has_primary group a = same_kind User a.kind && (a.primary == group)

-- whether a member row is of a group
abbrev pub is_in_group : ℕ → MemberRow → Bool
is_in_group group m = m.group == group

-- whether a member row is of a user
abbrev pub is_of_user : ℕ → MemberRow → Bool
is_of_user user m = m.user == user

-- whether an alias row is of an alias
abbrev pub is_in_alias : ℕ → ℕ → AliasRow → Bool
is_in_alias domain alias a = (a.domain == domain) && (a.alias == alias)

-- whether an alias row is of the domain, with one of the SIDs
abbrev pub has_one : ℕ → List SidValue → AliasRow → Bool
has_one domain sids a = (a.domain == domain) && list_any (sid_eq a.member) sids

-- numbers that don't fall, each once: without those that are equal to the one before
abbrev pub each_once_after : ℕ → List ℕ → List ℕ
each_once_after before [] = []
each_once_after before (n ∷ ns) = if n == before then each_once_after before ns else n ∷ each_once_after n ns

abbrev pub each_once : List ℕ → List ℕ
each_once [] = []
each_once (n ∷ ns) = n ∷ each_once_after n ns

-- whether a member row names an account of a domain
abbrev pub is_member_of : ℕ → ℕ → MemberRow → Bool
is_member_of domain rid m = (domain == account_domain) && ((m.group == rid) || (m.user == rid))

-- whether an alias row is of the alias, or has the SID as its member
abbrev pub is_alias_row_of : ℕ → ℕ → SidValue → AliasRow → Bool
is_alias_row_of domain rid sid a = ((a.domain == domain) && (a.alias == rid)) || sid_eq a.member sid

-- the keys of member rows and of alias rows
abbrev pub key_of_member : MemberRow → RowKey
key_of_member m = keys.Member m.group m.user

abbrev pub key_of_alias : AliasRow → RowKey
key_of_alias a = keys.Alias a.domain a.alias a.member
