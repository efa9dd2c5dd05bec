-- `push_units` meets its contract: what is pushed so far are the bytes of the units so far.
use Rattle.std.proofs.Common.{arith, ◌∙◌, ap, ◌++◌}
use Rattle.std.proofs.lemmas.Grind.{common_steps}
use Rattle.std.proofs.lemmas.List.{take_all}
use Rattle.std.specs.List.{flat_map}
use Rattle.std.specs.Int.{w16, to_le_bytes}
use Rattle.acct_tables.proofs.writing.push_units.Goals as goal

pub loop-unit-preserved : goal.loop-unit-preserved
loop-unit-preserved c = grind (arith, common_steps)

pub returns : goal.returns
returns c =
    c.loop-unit.invariant ∙ ap (λ done. c.args.out.now.items ++ flat_map (to_le_bytes w16) done)
    (take_all c.loop-unit.unit-index c.args.units.now c.loop-unit-test.false)
