-- Without an account and the rows that name it the others are as they were, and its RID and name find nothing.
use Rattle.acct_rows.proofs.Without.{naming_removed}
use Rattle.acct_rows.proofs.laws.naming_is_removed.Goals as goal

pub returns : goal.returns
returns c = naming_removed
