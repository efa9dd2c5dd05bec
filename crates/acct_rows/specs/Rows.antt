-- The rows of the account database as lists by ascending key, what is looked up in them, and a plan applied to them.
use Rattle.std.specs.Prelude.{◌≡◌, ℕ, ◌+◌, ◌^◌, ◌<◌, Bool, true, false, List, [], ◌∷◌, length, Option, Some, None, map}
use Rattle.std.specs.Prelude.{option_map, ◌++◌, is_some}
use Rattle.std.specs.List.{filter, find, list_any}
use Rattle.acct_codes.specs.declared.kind.Kind.{Kind}
use Rattle.dtyp_sid.specs.Sids.{SidValue}
use Rattle.dtyp_access.specs.declared.descriptor.Descriptor.{Descriptor}
use Rattle.acct_tables.specs.KeyedRows.{at, put, without}
use Rattle.acct_tables.specs.Keys.{object_key, account_domain, sid_key, domain_key, account_key, member_key, alias_key}
use Rattle.acct_tables.specs.Keys.{lsa_key, desc_key, out_key}
use Rattle.acct_tables.specs.declared.object.Object.{Object}
use Rattle.acct_rows.specs.declared.plan.Plan.{Plan}
use Rattle.acct_tables.specs.declared.row.AccountRow.{AccountRow}
use Rattle.acct_tables.specs.declared.row.AliasRow.{AliasRow}
use Rattle.acct_tables.specs.declared.row.DescRow.{DescRow}
use Rattle.acct_tables.specs.declared.row.DomainRow.{DomainRow}
use Rattle.acct_tables.specs.declared.row.LsaRow.{LsaRow}
use Rattle.acct_tables.specs.declared.row.MemberRow.{MemberRow}
use Rattle.acct_tables.specs.declared.row.OutRow.{OutRow}
use Rattle.acct_tables.specs.declared.row.Row.{Row}
use Rattle.acct_tables.specs.declared.row.Row.TheVariants as rows
use Rattle.acct_tables.specs.declared.row.RowKey.{RowKey}
use Rattle.acct_tables.specs.declared.row.RowKey.TheVariants as keys
use Rattle.acct_tables.specs.Ranges.{is_behind}
use Rattle.acct_codes.specs.declared.kind.Kind.TheVariants as kinds
use Rattle.acct_tables.specs.declared.object.Object.TheVariants as objects
use Rattle.acct_tables.specs.Selected.{same_kind, has_name, has_primary, is_in_group, is_of_user, is_in_alias, has_one}
use Rattle.acct_tables.specs.Selected.{each_once, is_member_of, is_alias_row_of, key_of_member, key_of_alias}

-- ======== rows

-- The rows: the domains, their accounts, the members of groups and of aliases, the accounts of the policy, the security
-- descriptors of objects, and the changes of accounts that are to be told to a program. Each change takes the next out
-- number.
pub record Lists : Type 0 where
  pub domains : List DomainRow
  pub accounts : List AccountRow
  pub members : List MemberRow
  pub aliases : List AliasRow
  pub lsa : List LsaRow
  pub descriptors : List DescRow
  pub outs : List OutRow
  pub next_out : ℕ

-- the lists, and for how many more rows there is room
pub record Shown : Type 0 where
  pub lists : Lists
  pub spare : ℕ

-- with that many more rows each list has fewer than 2^32
pub record HasRoom (lists : Lists) (more : ℕ) : Type 0 where
  pub domains : length lists.domains + more < 2 ^ 32
  pub accounts : length lists.accounts + more < 2 ^ 32
  pub members : length lists.members + more < 2 ^ 32
  pub aliases : length lists.aliases + more < 2 ^ 32
  pub lsa : length lists.lsa + more < 2 ^ 32
  pub descriptors : length lists.descriptors + more < 2 ^ 32
  pub outs : length lists.outs + more < 2 ^ 32

abbrev pub domain_at : Lists → ℕ → Option DomainRow
domain_at lists number = at domain_key (number ∷ []) lists.domains

abbrev pub account_at : Lists → ℕ → ℕ → Option AccountRow
account_at lists domain rid = at account_key (domain ∷ rid ∷ []) lists.accounts

abbrev pub member_at : Lists → ℕ → ℕ → Option MemberRow
member_at lists group user = at member_key (group ∷ user ∷ []) lists.members

abbrev pub alias_row_at : Lists → ℕ → ℕ → SidValue → Option AliasRow
alias_row_at lists domain alias member = at alias_key (domain ∷ alias ∷ sid_key member) lists.aliases

abbrev pub lsa_at : Lists → SidValue → Option LsaRow
lsa_at lists sid = at lsa_key (sid_key sid) lists.lsa

abbrev pub desc_at : Lists → Object → Option DescRow
desc_at lists object = at desc_key (object_key object) lists.descriptors

abbrev pub out_at : Lists → ℕ → Option OutRow
out_at lists number = at out_key (number ∷ []) lists.outs

-- the descriptor of an object that has a row
abbrev pub descriptor_of : Lists → Object → Option Descriptor
descriptor_of lists object = option_map (λ d. d.descriptor) (desc_at lists object)

-- whether there is an account, and of that kind
abbrev pub is_of : Kind → Option AccountRow → Bool
is_of kind None = false
is_of kind (Some a) = same_kind kind a.kind

-- whether an object is there: the server and the policy always are
abbrev pub exists : Lists → Object → Bool
exists lists objects.Server = true
exists lists (objects.Domain number) = is_some (domain_at lists number)
exists lists (objects.Group rid) = is_of kinds.Group (account_at lists account_domain rid)
exists lists (objects.Alias domain rid) = is_of kinds.Alias (account_at lists domain rid)
exists lists (objects.User rid) = is_of kinds.User (account_at lists account_domain rid)
exists lists objects.Policy = true
exists lists (objects.Account sid) = is_some (lsa_at lists sid)

-- the account of a domain with that name, the one with the least RID if there are several
abbrev pub find_name : Lists → ℕ → List ℕ → Option AccountRow
find_name lists domain name = find (has_name domain name) lists.accounts

-- whether a group is some user's primary group
abbrev pub is_primary : Lists → ℕ → Bool
is_primary lists group = list_any (has_primary group) lists.accounts

-- the members of a group by ascending user
abbrev pub members_of : Lists → ℕ → List MemberRow
members_of lists group = filter (is_in_group group) lists.members

-- the groups of a user by ascending group, each as the member row
abbrev pub groups_of : Lists → ℕ → List MemberRow
groups_of lists user = filter (is_of_user user) lists.members

-- the members of an alias by ascending SID, each as the alias row
abbrev pub alias_members_of : Lists → ℕ → ℕ → List AliasRow
alias_members_of lists domain alias = filter (is_in_alias domain alias) lists.aliases

-- the RIDs of the aliases of a domain that have one of the SIDs as a member, ascending, each once
abbrev pub aliases_of : Lists → ℕ → List SidValue → List ℕ
aliases_of lists domain sids = each_once (map (λ a. a.alias) (filter (has_one domain sids) lists.aliases))

-- the accounts of a domain after a RID, by ascending RID
abbrev pub accounts_behind : Lists → ℕ → ℕ → List AccountRow
accounts_behind lists domain rid = filter (is_behind domain rid) lists.accounts

-- with a row in its place: one with its key goes
abbrev pub place_row : Row → Lists → Lists
place_row (rows.Domain d) lists = record lists { domains = put domain_key d lists.domains }
place_row (rows.Account a) lists = record lists { accounts = put account_key a lists.accounts }
place_row (rows.Member m) lists = record lists { members = put member_key m lists.members }
place_row (rows.Alias a) lists = record lists { aliases = put alias_key a lists.aliases }
place_row (rows.Lsa l) lists = record lists { lsa = put lsa_key l lists.lsa }
place_row (rows.Desc d) lists = record lists { descriptors = put desc_key d lists.descriptors }
place_row (rows.Out o) lists = record lists { outs = put out_key o lists.outs }

-- the next out number once a row is put: a change takes one
abbrev pub next_after : Row → ℕ → ℕ
next_after (rows.Out o) next = next + 1
next_after _ next = next

abbrev pub put_row : Row → Lists → Lists
put_row row lists = record (place_row row lists) { next_out = next_after row lists.next_out }

-- and once several are put
abbrev pub next_past : ℕ → List Row → ℕ
next_past next [] = next
next_past next (row ∷ puts) = next_past (next_after row next) puts

-- where rows are put, the changes of accounts among them take the next out numbers in order, each below 2^63
abbrev pub TakeNumbers : ℕ → List Row → Type 0
TakeNumbers next [] = Unit {0}
TakeNumbers next (rows.Out o ∷ puts) = (o.number ≡ next) × (next < 2 ^ 63) × TakeNumbers (next + 1) puts
TakeNumbers next (_ ∷ puts) = TakeNumbers next puts

abbrev pub remove_row : RowKey → Lists → Lists
remove_row (keys.Domain number) lists = record lists { domains = without domain_key (number ∷ []) lists.domains }
remove_row (keys.Account domain rid) lists =
    record lists { accounts = without account_key (domain ∷ rid ∷ []) lists.accounts }
remove_row (keys.Member group user) lists =
    record lists { members = without member_key (group ∷ user ∷ []) lists.members }
remove_row (keys.Alias domain alias member) lists =
    record lists { aliases = without alias_key (domain ∷ alias ∷ sid_key member) lists.aliases }
remove_row (keys.Lsa sid) lists = record lists { lsa = without lsa_key (sid_key sid) lists.lsa }
remove_row (keys.Desc object) lists =
    record lists { descriptors = without desc_key (object_key object) lists.descriptors }
remove_row (keys.Out number) lists = record lists { outs = without out_key (number ∷ []) lists.outs }

abbrev pub removed : List RowKey → Lists → Lists
removed [] lists = lists
removed (key ∷ keys) lists = removed keys (remove_row key lists)

abbrev pub with_puts : List Row → Lists → Lists
with_puts [] lists = lists
with_puts (row ∷ rows) lists = with_puts rows (put_row row lists)

-- the rows after a plan: first without the rows that it removes, then with those that it puts
abbrev pub after : Plan → Lists → Lists
after plan lists = with_puts plan.puts (removed plan.removes lists)

-- ======== which rows name an account

-- the keys of an account and of every row that names it: as a group or a user, as an alias, or by its SID
abbrev pub naming : Lists → ℕ → ℕ → SidValue → List RowKey
naming lists domain rid sid =
    map key_of_member (filter (is_member_of domain rid) lists.members)
    ++ map key_of_alias (filter (is_alias_row_of domain rid sid) lists.aliases)
    ++ keys.Account domain rid ∷ []
