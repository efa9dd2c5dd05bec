-- An account of sound rows that is no group is no user's primary group.
use Rattle.acct_rows.proofs.Purges.{no_primary}
use Rattle.acct_rows.proofs.laws.others_are_no_primary.Goals as goal

pub returns : goal.returns
returns c = no_primary
