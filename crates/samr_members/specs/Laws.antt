-- What holds of each operation, and what they leave.
use Rattle.std.specs.Prelude.{◌≡◌, ℕ, ◌==◌, Bool, true, ◌&&◌, [], ◌∷◌}
use Rattle.std.specs.List.{list_any}
use Rattle.acct_calls.specs.declared.calls.Args.{Args}
use Rattle.acct_calls.specs.declared.lists.RidBits.{RidBits}
use Rattle.acct_rows.specs.Rows.{Lists, after, aliases_of}
use Rattle.acct_rows.specs.Sound.{IsSoundRows}
use Rattle.acct_tables.specs.declared.object.Object.{Object}
use Rattle.acct_tables.specs.declared.object.Object.TheVariants.{Alias}
use Rattle.acct_rules.specs.Asked.{asked_rid, asked_sid}
use Rattle.acct_rules.specs.Operations.{IsRight, KeepsRows}
use Rattle.acct_rules.specs.Profiles.{Operation}
use Rattle.acct_rules.specs.Planned.{none_fails}
use Rattle.dtyp_sid.specs.Sids.{sid_eq, SidValue}
use Rattle.samr_members.specs.Members.{sids_shown, add_alias_member, remove_alias_member, added_rid, members_shown}
use Rattle.samr_members.specs.Members.{groups_shown, add_group_member, remove_group_member}
use Rattle.samr_members.specs.Table.{add_member_to_group, remove_member_from_group, get_members_in_group}
use Rattle.samr_members.specs.Table.{add_member_to_alias, remove_member_from_alias, get_members_in_alias}
use Rattle.samr_members.specs.Table.{get_groups_for_user, get_alias_membership}

-- what holds of each operation
pub record Each (P : Operation → Type 0) : Type 0 where
  pub add_group_member : P add_member_to_group
  pub remove_group_member : P remove_member_from_group
  pub group_members : P get_members_in_group
  pub add_alias_member : P add_member_to_alias
  pub remove_alias_member : P remove_member_from_alias
  pub alias_members : P get_members_in_alias
  pub user_groups : P get_groups_for_user
  pub alias_membership : P get_alias_membership

abbrev pub AreRight : Type 0
AreRight = Each IsRight

abbrev pub KeepRows : Type 0
KeepRows = Each KeepsRows

-- ---- the two sides of a membership

abbrev pub is_pair : ℕ → ℕ → RidBits → Bool
is_pair rid bits p = (p.rid == rid) && (p.bits == bits)

pub record MembershipsAgree (r : Lists) : Type 0 where
  -- a user is listed with some attributes among the members of a group exactly where the group is listed with them
  -- among the groups of the user
  pub groups : (group user bits : ℕ)
      → list_any (is_pair user bits) (members_shown r group) ≡ list_any (is_pair group bits) (groups_shown r user)
  -- a SID is listed among the members of an alias exactly where the alias is listed among the aliases of the SID
  pub aliases : (domain alias : ℕ) (sid : SidValue)
      → list_any (λ s. sid_eq s sid) (sids_shown r (Alias domain alias))
      ≡ list_any (λ rid. rid == alias) (aliases_of r domain (sid ∷ []))

abbrev pub AllMembershipsAgree : Type 0
AllMembershipsAgree = (r : Lists) → MembershipsAgree r

-- ---- a member that is added and removed again

abbrev pub with_member : Lists → Object → Args → Lists
with_member r group added = after (add_group_member r group added).planned.plan r

abbrev pub with_alias_member : Lists → Object → Args → Lists
with_alias_member r alias added = after (add_alias_member r alias added).planned.plan r

-- Where a member was added, its removal isn't refused, and leaves the rows as they were before.
pub record AdditionsAreUndone : Type 0 where
  pub group_allows : (r : Lists) (group : Object) (added removed : Args) → IsSoundRows r
      → none_fails (add_group_member r group added).conditions ≡ true → asked_rid removed ≡ added_rid added
      → none_fails (remove_group_member (with_member r group added) group removed).conditions ≡ true
  pub group : (r : Lists) (group : Object) (added removed : Args)
      → none_fails (add_group_member r group added).conditions ≡ true → asked_rid removed ≡ added_rid added
      → after (remove_group_member (with_member r group added) group removed).planned.plan (with_member r group added)
      ≡ r
  pub alias : (r : Lists) (alias : Object) (added removed : Args)
      → none_fails (add_alias_member r alias added).conditions ≡ true → asked_sid removed ≡ asked_sid added
      → after (remove_alias_member (with_alias_member r alias added) alias removed).planned.plan
      (with_alias_member r alias added) ≡ r
