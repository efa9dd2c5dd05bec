-- The head of the list doesn't depend on its limit.
use Rattle.ndr_core.specs.Parts.{list}
use Rattle.ndr_types.specs.Listed.{any}
use Rattle.ndr_types.specs.Translations.{places}
use Rattle.ndr_types.proofs.domains.write_places_head.Goals as goal

pub returns : goal.returns
unfolding list places
returns c = rw (c.in_ok-write_list_head.ensures any) at c.u32.ensures.ok
