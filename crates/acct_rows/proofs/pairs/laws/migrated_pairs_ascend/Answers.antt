-- Pairs that ascend do so once they are migrated.
use Rattle.acct_rows.proofs.Changed.{migrated_ascend}
use Rattle.acct_rows.proofs.pairs.laws.migrated_pairs_ascend.Goals as goal

pub returns : goal.returns
returns c = migrated_ascend
