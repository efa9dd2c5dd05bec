-- A SID of fewer than 15 sub-authorities is still one with one more: there are few enough, and zeros after.
use Rattle.std.proofs.Common.{arith}
use Rattle.dtyp_sid.specs.steps.Slots.{pushed}
use Rattle.dtyp_sid.proofs.sid.Sid.with_rid.Goals as goal

pub invariant_of-result : goal.invariant_of-result
invariant_of-result c =
    let most = c.self.invariant.1.count_fits in
    (omega arith, pushed _ _ _ c.self.invariant.1 (omega (arith, most, c.if-self-eq-SID_MAX_SUB_AUTHORITIES.false)))
