-- The row that is queried is the one that was set.
use Rattle.samr_objects.proofs.Showing.{domain-shown, group-shown, alias-shown, user-shown, user2-shown}
use Rattle.samr_objects.proofs.laws.sets_are_shown.Goals as goal

pub returns : goal.returns
returns c = record {
  domain = domain-shown c.fields_are_set.ensures;
  group = group-shown c.fields_are_set.ensures;
  alias = alias-shown c.fields_are_set.ensures;
  user = user-shown c.fields_are_set.ensures;
  user2 = user2-shown c.fields_are_set.ensures;
}
