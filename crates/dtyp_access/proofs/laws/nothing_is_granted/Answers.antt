-- An opening that asks for nothing grants nothing, and isn't refused.
use Rattle.dtyp_access.proofs.AccessLaws.{nothing_granted}
use Rattle.dtyp_access.proofs.laws.nothing_is_granted.Goals as goal

pub returns : goal.returns
returns c = nothing_granted
