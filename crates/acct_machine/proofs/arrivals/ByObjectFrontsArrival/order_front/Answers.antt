-- Comparing the object with that of the prefix is comparing the prefix of the key by object.
use Rattle.std.proofs.Common.{◌∙◌}
use Rattle.acct_machine.specs.steps.Arrivals.{number_key}
use Rattle.acct_machine.proofs.Indexes.{objects_fronted}
use Rattle.acct_machine.proofs.arrivals.ByObjectFrontsArrival.order_front.Goals as goal

pub returns : goal.returns
returns c =
    let value = c.args.value.now in
    c.order_objects.ensures ∙ objects_fronted value.held.object c.args.front.now (number_key value)
