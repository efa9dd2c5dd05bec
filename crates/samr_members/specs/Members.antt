-- The operations on the members of groups and of aliases.
use Rattle.std.specs.Prelude.{ℕ, ◌==◌, Bool, false, not, List, [], ◌∷◌, map, Option, Some, None, is_some}
use Rattle.acct_codes.specs.Statuses.{status_success, status_no_such_user, status_member_in_group}
use Rattle.acct_codes.specs.Statuses.{status_member_not_in_group, status_members_primary_group, status_member_in_alias}
use Rattle.acct_codes.specs.Statuses.{status_member_not_in_alias}
use Rattle.acct_codes.specs.declared.kind.Kind.TheVariants as kind
use Rattle.dtyp_sid.specs.Sids.{SidValue}
use Rattle.acct_calls.specs.declared.calls.Args.{Args}
use Rattle.acct_calls.specs.declared.calls.Args.TheVariants as args
use Rattle.acct_calls.specs.declared.lists.RidBits.{RidBits}
use Rattle.acct_calls.specs.declared.replies.Outs.TheVariants as outs
use Rattle.acct_tables.specs.Keys.{rid_of, domain_of}
use Rattle.acct_rows.specs.Rows.{Lists, account_at, is_of, member_at, members_of, groups_of, alias_row_at, aliases_of}
use Rattle.acct_rows.specs.Rows.{alias_members_of}
use Rattle.acct_tables.specs.Keys.{account_domain}
use Rattle.acct_tables.specs.declared.object.Object.{Object}
use Rattle.acct_tables.specs.declared.row.AccountRow.{AccountRow}
use Rattle.acct_tables.specs.declared.row.AliasRow.{AliasRow}
use Rattle.acct_tables.specs.declared.row.MemberRow.{MemberRow}
use Rattle.acct_tables.specs.declared.row.Row.{Row}
use Rattle.acct_tables.specs.declared.row.Row.TheVariants as rows
use Rattle.acct_tables.specs.declared.row.RowKey.{RowKey}
use Rattle.acct_tables.specs.declared.row.RowKey.TheVariants as keys
use Rattle.acct_rules.specs.Asked.{asked_rid, asked_sid}
use Rattle.acct_rules.specs.Planned.{Ruled, when, answers, puts, removes}

-- ======== the operations on the members of groups
-- Groups and their members, which are users, are of the account domain.

-- ---- what is brought

-- the RID of the member that is added; 0 where none is
abbrev pub added_rid : Args → ℕ
added_rid (args.RidBits rid bits) = rid
added_rid _ = 0

-- the attributes that it has in the group
abbrev pub added_attributes : Args → ℕ
added_attributes (args.RidBits rid bits) = bits
added_attributes _ = 0

-- ---- conditions

-- a user has the RID
abbrev pub is_user : Lists → ℕ → Bool
is_user r rid = is_of kind.User (account_at r account_domain rid)

-- the user is a member of the group
abbrev pub is_member : Lists → ℕ → ℕ → Bool
is_member r group user = is_some (member_at r group user)

abbrev pub has_primary : ℕ → Option AccountRow → Bool
has_primary group None = false
has_primary group (Some a) = a.primary == group

-- the group is the user's primary group
abbrev pub is_primary : Lists → ℕ → ℕ → Bool
is_primary r group user = has_primary group (account_at r account_domain user)

-- ---- changes

abbrev pub added_member : Object → Args → MemberRow
added_member group asked = record {
  group = rid_of group;
  user = added_rid asked;
  attributes = added_attributes asked;
}

-- SamrAddMemberToGroup (MS-SAMR 3.1.5.8.1)
abbrev pub add_group_member : Lists → Object → Args → Ruled
add_group_member r group asked = record {
  conditions =
      when (not (is_user r (added_rid asked))) status_no_such_user
      ∷ when (is_member r (rid_of group) (added_rid asked)) status_member_in_group
      ∷ [];
  planned = puts (rows.Member (added_member group asked) ∷ []);
}

-- SamrRemoveMemberFromGroup (MS-SAMR 3.1.5.8.2)
abbrev pub remove_group_member : Lists → Object → Args → Ruled
remove_group_member r group asked = record {
  conditions =
      when (not (is_user r (asked_rid asked))) status_no_such_user
      ∷ when (not (is_member r (rid_of group) (asked_rid asked))) status_member_not_in_group
      ∷ when (is_primary r (rid_of group) (asked_rid asked)) status_members_primary_group
      ∷ [];
  planned = removes (keys.Member (rid_of group) (asked_rid asked) ∷ []);
}

-- ---- what is shown

abbrev pub member_shown : MemberRow → RidBits
member_shown m = record { rid = m.user; bits = m.attributes }

abbrev pub group_shown : MemberRow → RidBits
group_shown m = record { rid = m.group; bits = m.attributes }

-- the members of a group, by ascending RID, each with its attributes
abbrev pub members_shown : Lists → ℕ → List RidBits
members_shown r group = map member_shown (members_of r group)

-- the groups of a user, by ascending RID, each with the user's attributes there
abbrev pub groups_shown : Lists → ℕ → List RidBits
groups_shown r user = map group_shown (groups_of r user)

-- SamrGetMembersInGroup (MS-SAMR 3.1.5.8.3)
abbrev pub group_members : Lists → Object → Args → Ruled
group_members r group asked = record {
  conditions = [];
  planned = answers status_success (outs.Pairs (Some (members_shown r (rid_of group))));
}

-- SamrGetGroupsForUser (MS-SAMR 3.1.5.9.1)
abbrev pub user_groups : Lists → Object → Args → Ruled
user_groups r user asked = record {
  conditions = [];
  planned = answers status_success (outs.Pairs (Some (groups_shown r (rid_of user))));
}

-- ======== the operations on the members of aliases, which are SIDs, whether or not an account has them

-- ---- changes

-- the SID is a member of the alias
abbrev pub is_alias_member : Lists → Object → Option SidValue → Bool
is_alias_member r alias None = false
is_alias_member r alias (Some sid) = is_some (alias_row_at r (domain_of alias) (rid_of alias) sid)

abbrev pub added_row : Object → SidValue → AliasRow
added_row alias sid = record { domain = domain_of alias; alias = rid_of alias; member = sid }

abbrev pub added_rows : Object → Option SidValue → List Row
added_rows alias None = []
added_rows alias (Some sid) = rows.Alias (added_row alias sid) ∷ []

abbrev pub removed_keys : Object → Option SidValue → List RowKey
removed_keys alias None = []
removed_keys alias (Some sid) = keys.Alias (domain_of alias) (rid_of alias) sid ∷ []

-- SamrAddMemberToAlias (MS-SAMR 3.1.5.8.4)
abbrev pub add_alias_member : Lists → Object → Args → Ruled
add_alias_member r alias asked = record {
  conditions = when (is_alias_member r alias (asked_sid asked)) status_member_in_alias ∷ [];
  planned = puts (added_rows alias (asked_sid asked));
}

-- SamrRemoveMemberFromAlias (MS-SAMR 3.1.5.8.5)
abbrev pub remove_alias_member : Lists → Object → Args → Ruled
remove_alias_member r alias asked = record {
  conditions = when (not (is_alias_member r alias (asked_sid asked))) status_member_not_in_alias ∷ [];
  planned = removes (removed_keys alias (asked_sid asked));
}

-- ---- what is shown

abbrev pub member_of_row : AliasRow → SidValue
member_of_row a = a.member

-- the SIDs that are members of an alias, in the order of SIDs
abbrev pub sids_shown : Lists → Object → List SidValue
sids_shown r alias = map member_of_row (alias_members_of r (domain_of alias) (rid_of alias))

-- SamrGetMembersInAlias (MS-SAMR 3.1.5.8.6)
abbrev pub alias_members : Lists → Object → Args → Ruled
alias_members r alias asked = record {
  conditions = [];
  planned = answers status_success (outs.SidList (sids_shown r alias));
}

-- the SIDs whose aliases are looked for
abbrev pub asked_sids : Args → List SidValue
asked_sids (args.SidList sids) = sids
asked_sids _ = []

-- SamrGetAliasMembership (MS-SAMR 3.1.5.9.2)
abbrev pub alias_membership : Lists → Object → Args → Ruled
alias_membership r domain asked = record {
  conditions = [];
  planned = answers status_success (outs.RidList (aliases_of r (domain_of domain) (asked_sids asked)));
}
