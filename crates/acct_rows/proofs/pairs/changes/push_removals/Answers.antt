-- `push_removals` meets its contract: what is pushed, and the removals of the keys to come, are those of all.
use Rattle.std.proofs.Common.{arith}
use Rattle.std.proofs.lemmas.Grind.{common_steps}
use Rattle.acct_rows.proofs.pairs.changes.push_removals.Goals as goal

pub loop-key-preserved : goal.loop-key-preserved
loop-key-preserved c = grind (arith, common_steps)
