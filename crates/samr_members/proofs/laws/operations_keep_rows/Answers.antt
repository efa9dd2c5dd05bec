-- What is listed changes nothing, and what is added or removed keeps the rows sound.
use Rattle.samr_members.proofs.Keeping.{answers-keep, add_group_member-keeps, remove_group_member-keeps}
use Rattle.samr_members.proofs.Keeping.{add_alias_member-keeps, remove_alias_member-keeps}
use Rattle.samr_members.proofs.laws.operations_keep_rows.Goals as goal

pub returns : goal.returns
returns c = record {
  add_group_member = add_group_member-keeps c.members_stay_sound.ensures;
  remove_group_member = remove_group_member-keeps c.removed_members_stay_sound.ensures;
  group_members = λ r described object call is none. answers-keep r _ _ is.rows;
  add_alias_member = add_alias_member-keeps c.alias_rows_stay_sound.ensures;
  remove_alias_member = remove_alias_member-keeps c.removed_alias_rows_stay_sound.ensures;
  alias_members = λ r described object call is none. answers-keep r _ _ is.rows;
  user_groups = λ r described object call is none. answers-keep r _ _ is.rows;
  alias_membership = λ r described object call is none. answers-keep r _ _ is.rows;
}
