-- What objects and rows are known by: the kinds of objects, their domains and relative identifiers, the order in
-- which they stand, and the keys of rows in their lists
use Rattle.std.specs.Prelude.{ℕ, ◌==◌, Bool, true, false, ◌&&◌, List, [], ◌∷◌}
use Rattle.acct_codes.specs.declared.kind.Kind.{Kind}
use Rattle.acct_codes.specs.declared.kind.Kind.TheVariants as kinds
use Rattle.dtyp_sid.specs.Sids.{sid_eq, SidValue}
use Rattle.acct_tables.specs.declared.object.Object.{Object}
use Rattle.acct_tables.specs.declared.object.Object.TheVariants.{Server, Domain, Group, Alias, User, Policy, Account}
use Rattle.acct_tables.specs.declared.row.AccountRow.{AccountRow}
use Rattle.acct_tables.specs.declared.row.AliasRow.{AliasRow}
use Rattle.acct_tables.specs.declared.row.DescRow.{DescRow}
use Rattle.acct_tables.specs.declared.row.DomainRow.{DomainRow}
use Rattle.acct_tables.specs.declared.row.LsaRow.{LsaRow}
use Rattle.acct_tables.specs.declared.row.MemberRow.{MemberRow}
use Rattle.acct_tables.specs.declared.row.OutRow.{OutRow}

-- the numbers of the account domain, which has every group and every user, and of BUILTIN, which has aliases alone
abbrev pub account_domain : ℕ
account_domain = 0

abbrev pub builtin_domain : ℕ
builtin_domain = 1

abbrev pub kind_of : Object → Kind
kind_of Server = kinds.Server
kind_of (Domain number) = kinds.Domain
kind_of (Group rid) = kinds.Group
kind_of (Alias domain rid) = kinds.Alias
kind_of (User rid) = kinds.User
kind_of Policy = kinds.Policy
kind_of (Account sid) = kinds.Account

-- the domain that the object is, or is of: groups and users are of the account domain
abbrev pub domain_of : Object → ℕ
domain_of (Domain number) = number
domain_of (Alias domain rid) = domain
domain_of _ = account_domain

-- the relative identifier of a group, an alias or a user
abbrev pub rid_of : Object → ℕ
rid_of (Group rid) = rid
rid_of (Alias domain rid) = rid
rid_of (User rid) = rid
rid_of _ = 0

-- whether two objects are one
abbrev pub same_object : Object → Object → Bool
same_object Server Server = true
same_object (Domain a) (Domain b) = a == b
same_object (Group a) (Group b) = a == b
same_object (Alias a i) (Alias b j) = (a == b) && (i == j)
same_object (User a) (User b) = a == b
same_object Policy Policy = true
same_object (Account a) (Account b) = sid_eq a b
same_object _ _ = false

-- objects of one kind have one rank
abbrev pub rank_of : Object → ℕ
rank_of Server = 0
rank_of (Domain number) = 1
rank_of (Group rid) = 2
rank_of (Alias domain rid) = 3
rank_of (User rid) = 4
rank_of Policy = 5
rank_of (Account sid) = 6

-- the authority and the sub-authorities of an account of the policy
abbrev pub sid_part : Object → List ℕ
sid_part (Account sid) = sid.authority ∷ sid.subs
sid_part _ = []

-- the kind of an object, then its domain, its relative identifier and its SID, where it has them
abbrev pub object_key : Object → List ℕ
object_key object = rank_of object ∷ domain_of object ∷ rid_of object ∷ sid_part object

-- a SID in a key: its authority, and then its sub-authorities
abbrev pub sid_key : SidValue → List ℕ
sid_key sid = sid.authority ∷ sid.subs

-- The keys of rows: the numbers that tell a row from the others of its list.

abbrev pub domain_key : DomainRow → List ℕ
domain_key d = d.number ∷ []

abbrev pub account_key : AccountRow → List ℕ
account_key a = a.domain ∷ a.rid ∷ []

abbrev pub member_key : MemberRow → List ℕ
member_key m = m.group ∷ m.user ∷ []

abbrev pub alias_key : AliasRow → List ℕ
alias_key a = a.domain ∷ a.alias ∷ sid_key a.member

abbrev pub lsa_key : LsaRow → List ℕ
lsa_key l = sid_key l.sid

abbrev pub desc_key : DescRow → List ℕ
desc_key d = object_key d.object

abbrev pub out_key : OutRow → List ℕ
out_key o = o.number ∷ []
