-- Two names are the same exactly where they fold to the same units.
use Rattle.acct_calls.proofs.Folds.{same_alike}
use Rattle.acct_calls.proofs.laws.same_fold_alike.Goals as goal

pub returns : goal.returns
returns c = same_alike
