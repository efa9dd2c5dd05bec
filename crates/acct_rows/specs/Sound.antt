-- Which rows are sound: each breaks no rule, by itself and among the others
use Rattle.std.specs.Prelude.{◌≡◌, ℕ, ◌+◌, ◌^◌, ◌<◌, ◌≤◌, true, Option, Some, None, is_some}
use Rattle.acct_codes.specs.declared.kind.Kind.TheVariants.{Group, Alias, User}
use Rattle.acct_codes.specs.Accounts.{domain_group_rid_users}
use Rattle.dtyp_sid.specs.Sids.{SidValue, IsSid}
use Rattle.acct_calls.specs.Names.{is_same}
use Rattle.acct_tables.specs.Keys.{account_domain, builtin_domain, domain_key, account_key, member_key, alias_key}
use Rattle.acct_tables.specs.Keys.{lsa_key, desc_key, out_key}
use Rattle.acct_tables.specs.KeyedRows.{is_ascending}
use Rattle.acct_rows.specs.Rows.{exists, Lists, domain_at, account_at, member_at, alias_row_at, lsa_at, desc_at, out_at}
use Rattle.acct_rows.specs.Rows.{is_of}
use Rattle.acct_tables.specs.Selected.{same_kind}
use Rattle.acct_tables.specs.declared.object.Object.{Object}
use Rattle.acct_tables.specs.declared.row.DomainRow.{DomainRow}
use Rattle.acct_tables.specs.declared.row.AccountRow.{AccountRow}
use Rattle.acct_tables.specs.declared.row.MemberRow.{MemberRow}
use Rattle.acct_tables.specs.declared.row.AliasRow.{AliasRow}
use Rattle.acct_tables.specs.declared.row.LsaRow.{LsaRow}
use Rattle.acct_tables.specs.declared.row.DescRow.{DescRow}
use Rattle.acct_tables.specs.declared.row.OutRow.{OutRow}
use Rattle.acct_tables.specs.Good.{IsGoodDomain, IsGoodRow, IsGoodMember, IsGoodLsa, IsGoodDescriptor, IsGoodOut}

-- the next RID of a domain; 0 where there is no domain, so that no RID is below it
abbrev pub next_rid_of : Option DomainRow → ℕ
next_rid_of None = 0
next_rid_of (Some d) = d.next_rid

-- an account among the rows
pub record IsGoodAccount (lists : Lists) (a : AccountRow) : Type 0 where
  pub itself : IsGoodRow a
  -- its domain is there, and its RID below the next one
  pub below : a.rid < next_rid_of (domain_at lists a.domain)
  -- a user's primary group is there, and the user is its member
  pub primary_group : same_kind User a.kind ≡ true → is_of Group (account_at lists account_domain a.primary) ≡ true
  pub primary_member : same_kind User a.kind ≡ true → is_some (member_at lists a.primary a.rid) ≡ true

-- the rows are sound
pub record IsSoundRows (lists : Lists) : Type 0 where
  -- each list stands by strictly ascending key, so that no key stands twice
  pub domains_ascend : is_ascending domain_key lists.domains ≡ true
  pub accounts_ascend : is_ascending account_key lists.accounts ≡ true
  pub members_ascend : is_ascending member_key lists.members ≡ true
  pub aliases_ascend : is_ascending alias_key lists.aliases ≡ true
  pub lsa_ascend : is_ascending lsa_key lists.lsa ≡ true
  pub descriptors_ascend : is_ascending desc_key lists.descriptors ≡ true
  pub outs_ascend : is_ascending out_key lists.outs ≡ true
  -- each domain keeps its rules
  pub domain_rules : (number : ℕ) (d : DomainRow) → domain_at lists number ≡ Some d → IsGoodDomain d
  -- the account domain and BUILTIN are there
  pub has_account_domain : is_some (domain_at lists account_domain) ≡ true
  pub has_builtin_domain : is_some (domain_at lists builtin_domain) ≡ true
  -- each account keeps its rules
  pub account_rules : (domain rid : ℕ) (a : AccountRow) → account_at lists domain rid ≡ Some a
      → IsGoodAccount lists a
  -- no two accounts of a domain have one name
  pub names_differ : (domain i j : ℕ) (a b : AccountRow) → account_at lists domain i ≡ Some a
      → account_at lists domain j ≡ Some b → is_same a.name b.name ≡ true → i ≡ j
  -- the group of all users is there
  pub users_group : is_of Group (account_at lists account_domain domain_group_rid_users) ≡ true
  -- each member row keeps its rule, and its group and user are there
  pub member_rules : (group user : ℕ) (m : MemberRow) → member_at lists group user ≡ Some m → IsGoodMember m
  pub member_groups : (group user : ℕ) (m : MemberRow) → member_at lists group user ≡ Some m
      → is_of Group (account_at lists account_domain group) ≡ true
  pub member_users : (group user : ℕ) (m : MemberRow) → member_at lists group user ≡ Some m
      → is_of User (account_at lists account_domain user) ≡ true
  -- an alias row's member is a SID, and its alias is there
  pub alias_members : (domain alias : ℕ) (sid : SidValue) (a : AliasRow) → alias_row_at lists domain alias sid ≡ Some a
      → IsSid a.member
  pub alias_rows : (domain alias : ℕ) (sid : SidValue) (a : AliasRow) → alias_row_at lists domain alias sid ≡ Some a
      → is_of Alias (account_at lists domain alias) ≡ true
  -- each account of the policy keeps its rules
  pub lsa_rules : (sid : SidValue) (l : LsaRow) → lsa_at lists sid ≡ Some l → IsGoodLsa l
  -- each descriptor keeps its rules, and its object is there
  pub desc_rules : (object : Object) (d : DescRow) → desc_at lists object ≡ Some d → IsGoodDescriptor d
  pub desc_objects : (object : Object) (d : DescRow) → desc_at lists object ≡ Some d → exists lists object ≡ true
  -- each change keeps its rules, and its number is below the next one
  pub out_rules : (number : ℕ) (o : OutRow) → out_at lists number ≡ Some o → IsGoodOut o
  pub outs_below : (number : ℕ) (o : OutRow) → out_at lists number ≡ Some o → number < lists.next_out
  -- no number is left out between a change and the next one
  pub outs_run_on : (number : ℕ) (o : OutRow) → out_at lists number ≡ Some o → number + 1 < lists.next_out
      → is_some (out_at lists (number + 1)) ≡ true
  pub next_least : 1 ≤ lists.next_out
  pub next_most : lists.next_out ≤ 2 ^ 63
