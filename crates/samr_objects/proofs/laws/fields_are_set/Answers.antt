-- Each set puts one row, which is found at its key alone.
use Rattle.samr_objects.proofs.Setting.{domain-set, group-set, alias-set, user-set, user2-set}
use Rattle.samr_objects.proofs.laws.fields_are_set.Goals as goal

pub returns : goal.returns
returns c = record {
  domain = domain-set c.puts_are_found.ensures c.puts_leave_others.ensures c.each_is_good.ensures;
  group = group-set c.puts_are_found.ensures c.puts_leave_others.ensures c.each_is_good.ensures;
  alias = alias-set c.puts_are_found.ensures c.puts_leave_others.ensures c.each_is_good.ensures;
  user = user-set c.puts_are_found.ensures c.puts_leave_others.ensures c.each_is_good.ensures;
  user2 = user2-set c.puts_are_found.ensures c.puts_leave_others.ensures c.each_is_good.ensures;
}
