-- Pairs that ascend hold no key twice.
use Rattle.acct_rows.proofs.Shuffled.{ascending_differ}
use Rattle.acct_rows.proofs.pairs.laws.ascending_keys_differ.Goals as goal

pub returns : goal.returns
returns c = ascending_differ
