-- What is found at a LUID, once a privilege was put or taken away.
use Rattle.lsad_rights.proofs.Ascending.{held-with}
use Rattle.lsad_rights.proofs.RightsHeld.{held-removed}
use Rattle.lsad_rights.proofs.laws.privileges_are_a_set.Goals as goal

pub returns : goal.returns
returns c = record {
  put = λ p held low. held-with low p held;
  taken = λ gone low held. held-removed gone low held;
}
