-- The names of what an account holds are those of its rights.
use Rattle.lsad_rights.proofs.Agreeing.{agree}
use Rattle.lsad_rights.proofs.laws.rights_agree.Goals as goal

pub returns : goal.returns
returns c = agree c.same_is_equivalence.ensures
