-- Without its last sub-authority a SID is still one: there are few enough, and the freed slot is zero.
use Rattle.std.proofs.Common.{arith}
use Rattle.dtyp_sid.specs.steps.Slots.{popped}
use Rattle.dtyp_sid.proofs.sid.Sid.split_rid.Goals as goal

pub invariant_of-domain : goal.invariant_of-domain
invariant_of-domain c =
    (omega arith, popped c.self.inside.count _ _ c.self.invariant.1 (omega (arith, c.in_ok-last.ensures)))
