-- Comparing the objects, and then by number, is comparing the keys by object.
use Rattle.std.proofs.Common.{◌≡◌, ◌∙◌, rules}
use Rattle.std.specs.Ordering.{ordering_then}
use Rattle.acct_tables.specs.Keyed.{compare}
use Rattle.acct_machine.specs.steps.Arrivals.{number_key, object_order}
use Rattle.acct_machine.proofs.Indexes.{objects_ordered}
use Rattle.acct_machine.proofs.arrivals.ByObjectOrderArrival.order.Goals as goal

pub returns : goal.returns
returns c =
    let left = c.args.left.now in
    let right = c.args.right.now in
    let is : c.then.result ≡ ordering_then (object_order left.held.object right.held.object)
    (compare (number_key left) (number_key right)) = search rules in
    is ∙ objects_ordered left.held.object right.held.object (number_key left) (number_key right)
