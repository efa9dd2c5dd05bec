-- To remove a member that was added leaves the rows as they were, and a group's conditions allow it.
use Rattle.samr_members.proofs.Undoing.{group-allows, group-undone, alias-undone}
use Rattle.samr_members.proofs.laws.additions_are_undone.Goals as goal

pub returns : goal.returns
returns c = record {
  group_allows = group-allows c.each_is_good.ensures c.puts_are_found.ensures;
  group = group-undone c.puts_are_undone.ensures;
  alias = alias-undone c.puts_are_undone.ensures;
}
