-- `copies` meets its contract: the copies so far are equal to the pairs so far.
use Rattle.std.proofs.Common.{arith, ◌∙◌}
use Rattle.std.proofs.lemmas.Grind.{common_steps}
use Rattle.std.proofs.lemmas.List.{take_all}
use Rattle.acct_rows.proofs.pairs.loading.copies.Goals as goal

pub loop-pair-preserved : goal.loop-pair-preserved
loop-pair-preserved c = grind (arith, common_steps)

pub returns : goal.returns
returns c = c.loop-pair.invariant ∙ take_all c.loop-pair.pair-index c.args.pairs.now c.loop-pair-test.false
