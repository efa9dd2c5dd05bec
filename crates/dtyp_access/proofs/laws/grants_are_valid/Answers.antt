-- What an opening grants lies within the valid rights of the kind.
use Rattle.dtyp_access.proofs.AccessLaws.{grant_valid}
use Rattle.dtyp_access.proofs.laws.grants_are_valid.Goals as goal

pub returns : goal.returns
returns c = grant_valid
