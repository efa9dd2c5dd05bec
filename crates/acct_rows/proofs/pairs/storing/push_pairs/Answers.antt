-- `push_pairs` meets its contract: what is pushed so far are the pairs of the rows so far.
use Rattle.std.proofs.Common.{arith, ◌∙◌, ap, ◌++◌, map}
use Rattle.std.proofs.lemmas.Grind.{common_steps}
use Rattle.std.proofs.lemmas.List.{take_all}
use Rattle.acct_rows.proofs.pairs.storing.push_pairs.Goals as goal

pub loop-row-preserved : goal.loop-row-preserved
loop-row-preserved g c = grind (arith, common_steps)

pub returns : goal.returns
returns g c =
    c.loop-row.invariant ∙ ap (λ done. c.args.pairs.now.items ++ map g.T.Paired.stored done)
    (take_all c.loop-row.row-index c.args.rows.now c.loop-row-test.false)
