-- The privileges so far are put, and those to come with them are all.
use Rattle.std.proofs.Common.{◌≡◌, drop}
use Rattle.lsad_rights.specs.Holdings.{with_each}
use Rattle.lsad_rights.proofs.held.put_each.Given as goal

abbrev pub invariant-loop-privilege : goal.invariant-loop-privilege
invariant-loop-privilege l =
    with_each (drop l.privilege-index l.privileges) l.held.items ≡ with_each l.privileges l.initial.held.items
