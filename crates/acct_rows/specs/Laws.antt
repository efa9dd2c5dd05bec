-- What changes of rows keep: sound rows stay sound, and the objects that are there stay
use Rattle.std.specs.Prelude.{◌≡◌, ◌≢◌, ℕ, ◌^◌, ◌<◌, ◌≤◌, Bool, true, false, not, List, [], ◌∷◌, Some, None, is_some}
use Rattle.std.specs.Prelude.{All}
use Rattle.std.specs.List.{filter}
use Rattle.acct_codes.specs.declared.kind.Kind.TheVariants.{Group, Alias, User}
use Rattle.acct_codes.specs.Accounts.{domain_group_rid_users}
use Rattle.dtyp_sid.specs.Sids.{SidValue, IsSid}
use Rattle.acct_calls.specs.Names.{is_same}
use Rattle.acct_tables.specs.Keys.{account_domain}
use Rattle.acct_tables.specs.KeyedRows.{without}
use Rattle.acct_rows.specs.Rows.{Lists, domain_at, account_at, member_at, alias_row_at, lsa_at, desc_at}
use Rattle.acct_tables.specs.Keys.{account_key}
use Rattle.acct_rows.specs.Rows.{out_at, find_name, is_of, put_row, remove_row, removed}
use Rattle.acct_tables.specs.Selected.{same_kind, is_alias_row_of}
use Rattle.acct_rows.specs.Rows.{naming}
use Rattle.acct_tables.specs.Selected.{is_member_of, key_of_alias, key_of_member}
use Rattle.acct_rows.specs.Rows.{exists}
use Rattle.acct_tables.specs.Keys.{kind_of, domain_of, rid_of, same_object}
use Rattle.acct_rows.specs.Sound.{next_rid_of, IsGoodAccount}
use Rattle.acct_tables.specs.Good.{is_account_kind, IsGoodDomain, IsGoodRow, IsGoodMember}
use Rattle.acct_rows.specs.Sound.{IsSoundRows}
use Rattle.acct_tables.specs.Good.{IsGoodLsa, IsGoodDescriptor, IsGoodOut}
use Rattle.acct_tables.specs.declared.object.Object.{Object}
use Rattle.acct_tables.specs.declared.object.Object.TheVariants as objects
use Rattle.acct_tables.specs.declared.row.DomainRow.{DomainRow}
use Rattle.acct_tables.specs.declared.row.AccountRow.{AccountRow}
use Rattle.acct_tables.specs.declared.row.MemberRow.{MemberRow}
use Rattle.acct_tables.specs.declared.row.AliasRow.{AliasRow}
use Rattle.acct_tables.specs.declared.row.LsaRow.{LsaRow}
use Rattle.acct_tables.specs.declared.row.DescRow.{DescRow}
use Rattle.acct_tables.specs.declared.row.OutRow.{OutRow}
use Rattle.acct_tables.specs.declared.row.Row.TheVariants as rows
use Rattle.acct_tables.specs.declared.row.RowKey.TheVariants as keys

-- the later rows are sound, and every object that was there is there, except those that are gone
pub record Keeps (gone : Object → Bool) (lists later : Lists) : Type 0 where
  pub sound : IsSoundRows later
  pub stays : (x : Object) → exists lists x ≡ true → gone x ≡ false → exists later x ≡ true

abbrev pub nothing : Object → Bool
nothing x = false

-- a row that was put is found at its key
pub record PutIsFound (lists : Lists) : Type 0 where
  pub domain : (d : DomainRow) → domain_at (put_row (rows.Domain d) lists) d.number ≡ Some d
  pub account : (a : AccountRow) → account_at (put_row (rows.Account a) lists) a.domain a.rid ≡ Some a
  pub member : (m : MemberRow) → member_at (put_row (rows.Member m) lists) m.group m.user ≡ Some m
  pub alias : (a : AliasRow) → alias_row_at (put_row (rows.Alias a) lists) a.domain a.alias a.member ≡ Some a
  pub lsa : (l : LsaRow) → lsa_at (put_row (rows.Lsa l) lists) l.sid ≡ Some l
  pub desc : (d : DescRow) → desc_at (put_row (rows.Desc d) lists) d.object ≡ Some d
  pub out : (o : OutRow) → out_at (put_row (rows.Out o) lists) o.number ≡ Some o

abbrev pub PutsAreFound : Type 0
PutsAreFound = (lists : Lists) → PutIsFound lists

-- a domain's row is replaced by one that keeps the rules and whose next RID is not lower
abbrev pub DomainsStaySound : Type 0
DomainsStaySound = (lists : Lists) (old d : DomainRow) → IsSoundRows lists → domain_at lists d.number ≡ Some old
    → IsGoodDomain d → old.next_rid ≤ d.next_rid → Keeps nothing lists (put_row (rows.Domain d) lists)

-- no account has the next RID of a domain
abbrev pub NextIsFree : Type 0
NextIsFree = (lists : Lists) (number : ℕ) (d : DomainRow) → IsSoundRows lists → domain_at lists number ≡ Some d
    → account_at lists number d.next_rid ≡ None

-- an account that may be added: it keeps the rules by itself, and its RID, below the next one, and its name are free
pub record IsNew (lists : Lists) (a : AccountRow) : Type 0 where
  pub good : IsGoodRow a
  pub below : a.rid < next_rid_of (domain_at lists a.domain)
  pub rid_free : account_at lists a.domain a.rid ≡ None
  pub name_free : find_name lists a.domain a.name ≡ None

-- a group or an alias is added
abbrev pub AddedAccountsStaySound : Type 0
AddedAccountsStaySound = (lists : Lists) (a : AccountRow) → IsSoundRows lists → IsNew lists a
    → same_kind User a.kind ≡ false
    → Keeps nothing lists (put_row (rows.Account a) lists)

-- a user is added, with its row as a member of its primary group, which is there
abbrev pub AddedUsersStaySound : Type 0
AddedUsersStaySound = (lists : Lists) (a : AccountRow) (m : MemberRow) → IsSoundRows lists → IsNew lists a
    → same_kind User a.kind ≡ true → is_of Group (account_at lists account_domain a.primary) ≡ true
    → m.group ≡ a.primary
    → m.user ≡ a.rid → IsGoodMember m
    → Keeps nothing lists (put_row (rows.Member m) (put_row (rows.Account a) lists))

-- no other account of the domain has the name
abbrev pub IsFree : Lists → AccountRow → Type 0
IsFree lists a = (j : ℕ) (b : AccountRow) → account_at lists a.domain j ≡ Some b → is_same b.name a.name ≡ true
    → j ≡ a.rid

-- an account's row may be replaced by the other: it has the same key and kind and keeps the rules
pub record Replaces (lists : Lists) (old a : AccountRow) : Type 0 where
  pub there : account_at lists a.domain a.rid ≡ Some old
  pub kind : a.kind ≡ old.kind
  pub good : IsGoodRow a
  pub free : IsFree lists a
  pub primary_group : same_kind User a.kind ≡ true → is_of Group (account_at lists account_domain a.primary) ≡ true
  pub primary_member : same_kind User a.kind ≡ true → is_some (member_at lists a.primary a.rid) ≡ true

abbrev pub ReplacedAccountsStaySound : Type 0
ReplacedAccountsStaySound = (lists : Lists) (old a : AccountRow) → IsSoundRows lists → Replaces lists old a
    → Keeps nothing lists (put_row (rows.Account a) lists)

-- the account's own name is free for it, and so is a name that no account has, or it alone
abbrev pub OwnNameIsFree : Type 0
OwnNameIsFree = (lists : Lists) (old a : AccountRow) → IsSoundRows lists → account_at lists a.domain a.rid ≡ Some old
    → a.name ≡ old.name → IsFree lists a

abbrev pub UnusedNameIsFree : Type 0
UnusedNameIsFree = (lists : Lists) (a : AccountRow) → find_name lists a.domain a.name ≡ None → IsFree lists a

abbrev pub NameFoundIsFree : Type 0
NameFoundIsFree = (lists : Lists) (a found : AccountRow) → IsSoundRows lists
    → find_name lists a.domain a.name ≡ Some found
    → found.rid ≡ a.rid → IsFree lists a

-- a member row is put: its group and its user are there
abbrev pub MembersStaySound : Type 0
MembersStaySound = (lists : Lists) (m : MemberRow) → IsSoundRows lists → IsGoodMember m
    → is_of Group (account_at lists account_domain m.group) ≡ true
    → is_of User (account_at lists account_domain m.user) ≡ true
    → Keeps nothing lists (put_row (rows.Member m) lists)

-- a member row is removed that isn't the user's for its primary group
abbrev pub RemovedMembersStaySound : Type 0
RemovedMembersStaySound = (lists : Lists) (group user : ℕ) → IsSoundRows lists
    → ((a : AccountRow) → account_at lists account_domain user ≡ Some a → same_kind User a.kind ≡ true
    → a.primary ≢ group)
    → Keeps nothing lists (remove_row (keys.Member group user) lists)

-- an alias row is put, of an alias that is there, or removed
abbrev pub AliasRowsStaySound : Type 0
AliasRowsStaySound = (lists : Lists) (a : AliasRow) → IsSoundRows lists → IsSid a.member
    → is_of Alias (account_at lists a.domain a.alias) ≡ true
    → Keeps nothing lists (put_row (rows.Alias a) lists)

abbrev pub RemovedAliasRowsStaySound : Type 0
RemovedAliasRowsStaySound = (lists : Lists) (domain alias : ℕ) (member : SidValue) → IsSoundRows lists
    → Keeps nothing lists (remove_row (keys.Alias domain alias member) lists)

-- an account of the policy is put
abbrev pub LsaAccountsStaySound : Type 0
LsaAccountsStaySound = (lists : Lists) (l : LsaRow) → IsSoundRows lists → IsGoodLsa l
    → Keeps nothing lists (put_row (rows.Lsa l) lists)

-- an account of the policy is removed with its descriptor
abbrev pub RemovedLsaAccountsStaySound : Type 0
RemovedLsaAccountsStaySound = (lists : Lists) (sid : SidValue) → IsSoundRows lists
    → Keeps (λ x. same_object x (objects.Account sid)) lists
    (removed (keys.Desc (objects.Account sid) ∷ keys.Lsa sid ∷ []) lists)

-- a descriptor of an object that is there is put, or removed
abbrev pub DescriptorsStaySound : Type 0
DescriptorsStaySound = (lists : Lists) (d : DescRow) → IsSoundRows lists → IsGoodDescriptor d
    → exists lists d.object ≡ true
    → Keeps nothing lists (put_row (rows.Desc d) lists)

abbrev pub RemovedDescriptorsStaySound : Type 0
RemovedDescriptorsStaySound = (lists : Lists) (object : Object) → IsSoundRows lists
    → Keeps nothing lists (remove_row (keys.Desc object) lists)

-- a change with the next out number is put, or the one with the least number is removed
abbrev pub OutsStaySound : Type 0
OutsStaySound = (lists : Lists) (o : OutRow) → IsSoundRows lists → IsGoodOut o → o.number ≡ lists.next_out
    → lists.next_out < 2 ^ 63
    → Keeps nothing lists (put_row (rows.Out o) lists)

abbrev pub RemovedOutsStaySound : Type 0
RemovedOutsStaySound = (lists : Lists) (o : OutRow) (others : List OutRow) → IsSoundRows lists
    → lists.outs ≡ o ∷ others
    → Keeps nothing lists (remove_row (keys.Out o.number) lists)
    × ((remove_row (keys.Out o.number) lists).outs ≡ others)

-- the account is no user's primary group
abbrev pub IsNoPrimary : Lists → ℕ → ℕ → Type 0
IsNoPrimary lists domain rid = (j : ℕ) (u : AccountRow) → account_at lists account_domain j ≡ Some u
    → same_kind User u.kind ≡ true
    → domain ≡ account_domain → u.primary ≢ rid

-- so it is with an account that isn't a group
abbrev pub OthersAreNoPrimary : Type 0
OthersAreNoPrimary = (lists : Lists) (domain rid : ℕ) → IsSoundRows lists
    → is_of Group (account_at lists domain rid) ≡ false
    → IsNoPrimary lists domain rid

-- a user, a group or an alias that is there, except the group of all users, is removed with its descriptor and every
-- row that names it
abbrev pub RemovedAccountsStaySound : Type 0
RemovedAccountsStaySound = (lists : Lists) (object : Object) (sid : SidValue) → IsSoundRows lists
    → is_account_kind (kind_of object) ≡ true → exists lists object ≡ true
    → same_object object (objects.Group domain_group_rid_users) ≡ false
    → IsNoPrimary lists (domain_of object) (rid_of object)
    → Keeps (λ x. same_object x object) lists
    (removed (keys.Desc object ∷ naming lists (domain_of object) (rid_of object) sid) lists)

-- each domain and each account of sound rows stands at its key and keeps its rules, and what is found at a key has it
pub record EachStands (lists : Lists) : Type 0 where
  pub domains : All (λ (d : DomainRow). (domain_at lists d.number ≡ Some d) × IsGoodDomain d) lists.domains
  pub accounts : All (λ (a : AccountRow). (account_at lists a.domain a.rid ≡ Some a) × IsGoodAccount lists a)
      lists.accounts
  pub domain_number : (number : ℕ) (d : DomainRow) → domain_at lists number ≡ Some d → d.number ≡ number
  pub account_domain : (domain rid : ℕ) (a : AccountRow) → account_at lists domain rid ≡ Some a → a.domain ≡ domain
  pub account_rid : (domain rid : ℕ) (a : AccountRow) → account_at lists domain rid ≡ Some a → a.rid ≡ rid

abbrev pub EachIsGood : Type 0
EachIsGood = (lists : Lists) → IsSoundRows lists → EachStands lists

-- so it is with each member row and each alias row
pub record EachMemberStands (lists : Lists) : Type 0 where
  pub members : All (λ (m : MemberRow). member_at lists m.group m.user ≡ Some m) lists.members
  pub aliases : All (λ (a : AliasRow). alias_row_at lists a.domain a.alias a.member ≡ Some a) lists.aliases
  pub member_keys : (group user : ℕ) (m : MemberRow) → member_at lists group user ≡ Some m
      → (m.group ≡ group) × (m.user ≡ user)

abbrev pub EachMemberIsFound : Type 0
EachMemberIsFound = (lists : Lists) → IsSoundRows lists → EachMemberStands lists

-- so it is with each account of the policy, which keeps its rules
pub record EachLsaStands (lists : Lists) : Type 0 where
  pub accounts : All (λ (l : LsaRow). (lsa_at lists l.sid ≡ Some l) × IsGoodLsa l) lists.lsa
  pub account_sid : (sid : SidValue) (l : LsaRow) → lsa_at lists sid ≡ Some l → l.sid ≡ sid

abbrev pub EachLsaIsGood : Type 0
EachLsaIsGood = (lists : Lists) → IsSoundRows lists → EachLsaStands lists

-- so it is with each descriptor, whose object is there
pub record EachDescStands (lists : Lists) : Type 0 where
  pub descriptors : All (λ (d : DescRow). (desc_at lists d.object ≡ Some d) × IsGoodDescriptor d
      × (exists lists d.object ≡ true)) lists.descriptors
  pub object : (object : Object) (d : DescRow) → desc_at lists object ≡ Some d → d.object ≡ object

abbrev pub EachDescriptorIsGood : Type 0
EachDescriptorIsGood = (lists : Lists) → IsSoundRows lists → EachDescStands lists

-- so it is with each change, whose number is below the next one
pub record EachOutStands (lists : Lists) : Type 0 where
  pub outs : All (λ (o : OutRow). (out_at lists o.number ≡ Some o) × IsGoodOut o × (o.number < lists.next_out)) lists.outs
  pub number : (number : ℕ) (o : OutRow) → out_at lists number ≡ Some o → o.number ≡ number

abbrev pub EachOutIsGood : Type 0
EachOutIsGood = (lists : Lists) → IsSoundRows lists → EachOutStands lists

-- An account and every row that names it are gone, and every other row is left as it was: neither the account's RID nor
-- its name finds it.
pub record IsWithout (domain rid : ℕ) (sid : SidValue) (lists later : Lists) : Type 0 where
  pub domains : later.domains ≡ lists.domains
  pub accounts : later.accounts ≡ without account_key (domain ∷ rid ∷ []) lists.accounts
  pub members : later.members ≡ filter (λ m. not (is_member_of domain rid m)) lists.members
  pub aliases : later.aliases ≡ filter (λ a. not (is_alias_row_of domain rid sid a)) lists.aliases
  pub lsa : later.lsa ≡ lists.lsa
  pub descriptors : later.descriptors ≡ lists.descriptors
  pub outs : later.outs ≡ lists.outs
  pub next_out : later.next_out ≡ lists.next_out
  pub rid_free : account_at later domain rid ≡ None
  pub name_free : (a : AccountRow) → account_at lists domain rid ≡ Some a → find_name later domain a.name ≡ None

-- so it is once the keys of an account and of every row that names it are removed
abbrev pub NamingIsRemoved : Type 0
NamingIsRemoved = (lists : Lists) (domain rid : ℕ) (sid : SidValue) → IsSoundRows lists
    → IsWithout domain rid sid lists (removed (naming lists domain rid sid) lists)

-- at every key but that of a row that was put, what was there is found
pub record LeavesOthers (lists : Lists) : Type 0 where
  pub domain : (d : DomainRow) (number : ℕ) → number ≢ d.number
      → domain_at (put_row (rows.Domain d) lists) number ≡ domain_at lists number
  pub account : (a : AccountRow) (domain rid : ℕ) → ¬ ((domain ≡ a.domain) × (rid ≡ a.rid))
      → account_at (put_row (rows.Account a) lists) domain rid ≡ account_at lists domain rid
  pub member : (m : MemberRow) (group user : ℕ) → ¬ ((group ≡ m.group) × (user ≡ m.user))
      → member_at (put_row (rows.Member m) lists) group user ≡ member_at lists group user
  pub alias : (a : AliasRow) (domain alias : ℕ) (member : SidValue)
      → ¬ ((domain ≡ a.domain) × (alias ≡ a.alias) × (member ≡ a.member))
      → alias_row_at (put_row (rows.Alias a) lists) domain alias member ≡ alias_row_at lists domain alias member
  pub lsa : (l : LsaRow) (sid : SidValue) → sid ≢ l.sid → lsa_at (put_row (rows.Lsa l) lists) sid ≡ lsa_at lists sid
  pub desc : (d : DescRow) (object : Object) → object ≢ d.object
      → desc_at (put_row (rows.Desc d) lists) object ≡ desc_at lists object
  pub out : (o : OutRow) (number : ℕ) → number ≢ o.number
      → out_at (put_row (rows.Out o) lists) number ≡ out_at lists number

abbrev pub PutsLeaveOthers : Type 0
PutsLeaveOthers = (lists : Lists) → LeavesOthers lists

-- a member row or an alias row that wasn't there, put and removed again, leaves the rows as they were
pub record IsUndone (lists : Lists) : Type 0 where
  pub member : (m : MemberRow) → member_at lists m.group m.user ≡ None
      → remove_row (key_of_member m) (put_row (rows.Member m) lists) ≡ lists
  pub alias : (a : AliasRow) → alias_row_at lists a.domain a.alias a.member ≡ None
      → remove_row (key_of_alias a) (put_row (rows.Alias a) lists) ≡ lists

abbrev pub PutsAreUndone : Type 0
PutsAreUndone = (lists : Lists) → IsUndone lists
