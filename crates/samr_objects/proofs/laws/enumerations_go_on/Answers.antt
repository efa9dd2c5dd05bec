-- An enumeration goes on after a page.
use Rattle.samr_objects.proofs.Continuing.{goes-on}
use Rattle.samr_objects.proofs.laws.enumerations_go_on.Goals as goal

pub returns : goal.returns
returns c = goes-on
