-- An opening that asks for the maximum grants all that any other opening grants.
use Rattle.dtyp_access.proofs.AccessLaws.{maximum_all}
use Rattle.dtyp_access.proofs.laws.maximum_grants_all.Goals as goal

pub returns : goal.returns
returns c = maximum_all
