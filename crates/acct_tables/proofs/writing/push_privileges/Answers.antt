-- `push_privileges` meets its contract: what is pushed so far are the bytes of the privileges so far.
use Rattle.std.proofs.Common.{arith, ◌∙◌, ap, ◌++◌}
use Rattle.std.proofs.lemmas.Grind.{common_steps}
use Rattle.std.proofs.lemmas.List.{take_all}
use Rattle.std.specs.List.{flat_map}
use Rattle.acct_tables.specs.Spelled.{held_bytes}
use Rattle.acct_tables.proofs.writing.push_privileges.Goals as goal

pub loop-held-preserved : goal.loop-held-preserved
loop-held-preserved c = grind (arith, common_steps)

pub returns : goal.returns
returns c =
    c.loop-held.invariant ∙ ap (λ done. c.args.out.now.items ++ flat_map held_bytes done)
    (take_all c.loop-held.held-index c.args.privileges.now c.loop-held-test.false)
