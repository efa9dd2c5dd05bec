-- The test tells that two names are the same exactly where their folded code points are equal.
use Rattle.acct_calls.proofs.Folds.{tells_same}
use Rattle.acct_calls.proofs.laws.test_tells_same.Goals as goal

pub returns : goal.returns
returns c = tells_same
