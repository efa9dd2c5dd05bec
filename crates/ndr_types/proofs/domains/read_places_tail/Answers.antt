-- The tail of the list doesn't depend on its limit.
use Rattle.ndr_types.specs.Listed.{any}
use Rattle.ndr_types.specs.Translations.{places}
use Rattle.ndr_types.proofs.domains.read_places_tail.Goals as goal

pub returns : goal.returns
unfolding places
returns c = c.read_list_tail.ensures any
