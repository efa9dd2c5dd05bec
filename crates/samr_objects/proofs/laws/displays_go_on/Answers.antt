-- What is displayed goes on after a page.
use Rattle.samr_objects.proofs.DisplayPages.{goes-on}
use Rattle.samr_objects.proofs.laws.displays_go_on.Goals as goal

pub returns : goal.returns
returns c = goes-on
