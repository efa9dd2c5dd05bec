-- To fold a name that is folded changes nothing.
use Rattle.acct_calls.proofs.Folds.{folded-folded}
use Rattle.acct_calls.proofs.laws.folds_once.Goals as goal

pub returns : goal.returns
returns c = folded-folded
