-- Each operation has its layout, its statuses, and the outputs of its layout.
use Rattle.std.proofs.Common.{refl, lit<}
use Rattle.acct_layouts.specs.ReplyShapes.{HasShape}
use Rattle.acct_layouts.specs.Table.{samr_layout, lsa_layout}
use Rattle.acct_rows.specs.Laws.{EachIsGood, EachMemberIsFound}
use Rattle.acct_tables.specs.Keys.{domain_of, rid_of}
use Rattle.acct_rules.specs.Asked.{asked_sid}
use Rattle.acct_rules.specs.Operations.{IsRight}
use Rattle.samr_members.specs.Members.{asked_sids}
use Rattle.samr_members.specs.Table.{add_member_to_group, remove_member_from_group, get_members_in_group}
use Rattle.samr_members.specs.Table.{add_member_to_alias, remove_member_from_alias, get_members_in_alias}
use Rattle.samr_members.specs.Table.{get_groups_for_user, get_alias_membership}
use Rattle.samr_members.proofs.Modest.{modest-added, modest-removed}
use Rattle.samr_members.proofs.Shaping.{members-shaped, groups-shaped, sids-shaped, aliases-shaped}
use Rattle.samr_members.proofs.laws.operations_are_right.Goals as goal

add_group_member : IsRight add_member_to_group
unfolding HasShape samr_layout lsa_layout
add_group_member = record {
  laid_out = refl;
  refuses = λ r described object asked. refl;
  succeeds = λ r described object asked. refl;
  frugal = λ r described object asked. refl;
  modest = λ r described object asked. refl;
  shaped = λ r described object call few is none. (lit< tt, tt, λ refused. refl);
}

remove_group_member : IsRight remove_member_from_group
unfolding HasShape samr_layout lsa_layout
remove_group_member = record {
  laid_out = refl;
  refuses = λ r described object asked. refl;
  succeeds = λ r described object asked. refl;
  frugal = λ r described object asked. refl;
  modest = λ r described object asked. refl;
  shaped = λ r described object call few is none. (lit< tt, tt, λ refused. refl);
}

group_members : EachIsGood → EachMemberIsFound → IsRight get_members_in_group
unfolding HasShape samr_layout lsa_layout
group_members each found = record {
  laid_out = refl;
  refuses = λ r described object asked. refl;
  succeeds = λ r described object asked. refl;
  frugal = λ r described object asked. refl;
  modest = λ r described object asked. refl;
  shaped = λ r described object call few is none. (
    lit< tt,
    members-shaped each found r (rid_of object) few is.rows,
    λ refused. refl,
  );
}

add_alias_member : IsRight add_member_to_alias
unfolding HasShape samr_layout lsa_layout
add_alias_member = record {
  laid_out = refl;
  refuses = λ r described object asked. refl;
  succeeds = λ r described object asked. refl;
  frugal = λ r described object asked. refl;
  modest = λ r described object asked. modest-added object (asked_sid asked);
  shaped = λ r described object call few is none. (lit< tt, tt, λ refused. refl);
}

remove_alias_member : IsRight remove_member_from_alias
unfolding HasShape samr_layout lsa_layout
remove_alias_member = record {
  laid_out = refl;
  refuses = λ r described object asked. refl;
  succeeds = λ r described object asked. refl;
  frugal = λ r described object asked. refl;
  modest = λ r described object asked. modest-removed object (asked_sid asked);
  shaped = λ r described object call few is none. (lit< tt, tt, λ refused. refl);
}

alias_members : EachMemberIsFound → IsRight get_members_in_alias
unfolding HasShape samr_layout lsa_layout
alias_members found = record {
  laid_out = refl;
  refuses = λ r described object asked. refl;
  succeeds = λ r described object asked. refl;
  frugal = λ r described object asked. refl;
  modest = λ r described object asked. refl;
  shaped = λ r described object call few is none. (lit< tt, sids-shaped found r object few is.rows, λ refused. refl);
}

user_groups : EachIsGood → EachMemberIsFound → IsRight get_groups_for_user
unfolding HasShape samr_layout lsa_layout
user_groups each found = record {
  laid_out = refl;
  refuses = λ r described object asked. refl;
  succeeds = λ r described object asked. refl;
  frugal = λ r described object asked. refl;
  modest = λ r described object asked. refl;
  shaped = λ r described object call few is none. (
    lit< tt,
    groups-shaped each found r (rid_of object) few is.rows,
    λ refused. refl,
  );
}

alias_membership : EachIsGood → EachMemberIsFound → IsRight get_alias_membership
unfolding HasShape samr_layout lsa_layout
alias_membership each found = record {
  laid_out = refl;
  refuses = λ r described object asked. refl;
  succeeds = λ r described object asked. refl;
  frugal = λ r described object asked. refl;
  modest = λ r described object asked. refl;
  shaped = λ r described object call few is none. (
    lit< tt,
    aliases-shaped each found r (domain_of object) (asked_sids call.args) few is.rows,
    λ refused. refl,
  );
}

pub returns : goal.returns
returns c = record {
  add_group_member = add_group_member;
  remove_group_member = remove_group_member;
  group_members = group_members c.each_is_good.ensures c.each_member_is_found.ensures;
  add_alias_member = add_alias_member;
  remove_alias_member = remove_alias_member;
  alias_members = alias_members c.each_member_is_found.ensures;
  user_groups = user_groups c.each_is_good.ensures c.each_member_is_found.ensures;
  alias_membership = alias_membership c.each_is_good.ensures c.each_member_is_found.ensures;
}
