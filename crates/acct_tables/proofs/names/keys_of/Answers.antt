-- `keys_of` meets its contract: the entries so far are those of the rows so far.
use Rattle.std.proofs.Common.{arith, ◌∙◌, ap, map}
use Rattle.std.proofs.lemmas.Grind.{common_steps}
use Rattle.std.proofs.lemmas.List.{take_all}
use Rattle.acct_tables.proofs.names.keys_of.Goals as goal

pub loop-row-preserved : goal.loop-row-preserved
loop-row-preserved c = grind (arith, common_steps)

pub returns : goal.returns
returns c =
    c.loop-row.invariant ∙ ap (map _)
    (take_all c.loop-row.row-index c.args.rows.now c.loop-row-test.false)
