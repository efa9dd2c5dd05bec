-- A folded name is the same as the name.
use Rattle.acct_calls.proofs.Folds.{folded_same}
use Rattle.acct_calls.proofs.laws.folded_is_same.Goals as goal

pub returns : goal.returns
returns c = folded_same
