-- Each deletion removes the keys that name the account.
use Rattle.samr_objects.proofs.Deleting.{groups-go, aliases-go, users-go}
use Rattle.samr_objects.proofs.laws.accounts_go.Goals as goal

pub returns : goal.returns
returns c = record {
  group =
      groups-go c.naming_is_removed.ensures c.removed_descriptors_stay_sound.ensures
      c.each_is_good.ensures;
  alias =
      aliases-go c.naming_is_removed.ensures c.removed_descriptors_stay_sound.ensures
      c.each_is_good.ensures;
  user =
      users-go c.naming_is_removed.ensures c.removed_descriptors_stay_sound.ensures
      c.each_is_good.ensures;
}
