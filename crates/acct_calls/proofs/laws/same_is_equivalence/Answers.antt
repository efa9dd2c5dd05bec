-- That two names are the same is reflexive, symmetric and transitive.
use Rattle.acct_calls.proofs.Folds.{equivalence}
use Rattle.acct_calls.proofs.laws.same_is_equivalence.Goals as goal

pub returns : goal.returns
returns c = equivalence
