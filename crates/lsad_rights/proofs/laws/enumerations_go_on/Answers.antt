-- An enumeration goes on after a page with what the page didn't give.
use Rattle.lsad_rights.proofs.Continuing.{go-on}
use Rattle.lsad_rights.proofs.laws.enumerations_go_on.Goals as goal

pub returns : goal.returns
returns c = go-on
