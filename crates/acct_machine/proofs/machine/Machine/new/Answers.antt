-- A new machine has kept nothing but the rows where it begins, which its keeper holds.
use Rattle.std.proofs.Common.{ap}
use Rattle.std.specs.Vec.{vec_capacity}
use Rattle.acct_machine.specs.State.{State}
use Rattle.acct_machine.specs.Shown.{begins}
use Rattle.acct_machine.proofs.Kept.{kept-new}
use Rattle.acct_machine.proofs.Storing.{stored-new}
use Rattle.acct_machine.proofs.machine.Machine.new.Goals as goal

pub invariant_of-result : goal.invariant_of-result
invariant_of-result g c =
    let s : State = c.in-Ok.store in (
      kept-new s c.args.config.now c.args.rows.lists c.in-Ok.opening.lists c.in-Ok.history.items
          c.faults-since.result (vec_capacity c.in-Ok.history) c.in-Ok.ensures.store c.in-Ok.ensures.opening
          c.in-Ok.ensures.history c.requires.right c.requires.sound c.in-Ok.ensures.room,
      stored-new (g.K.Keeper.held c.args.keeper) s.rows c.args.rows.lists (g.K.Keeper.faults c.args.keeper)
          (begins s c.in-Ok.opening.lists c.faults-since.result) c.in-Ok.history.items c.requires.stored
          (ap (λ (x : State). x.rows) c.in-Ok.ensures.store) c.faults-since.ensures c.in-Ok.ensures.history,
    )
