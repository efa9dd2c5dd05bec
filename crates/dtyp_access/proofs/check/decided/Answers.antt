-- Bit for bit, an entry grants the undecided rights that it allows, and leaves those undecided that it doesn't name.
use Rattle.std.proofs.Common.{◌^◌, ap, ◌∙◌, sym, refl, arith}
use Rattle.std.specs.Prelude.{◌&&◌}
use Rattle.dtyp_access.specs.Granted.{shares}
use Rattle.dtyp_access.proofs.Masks.{shares-and, shares-or, shares-not}
use Rattle.dtyp_access.proofs.Walk.{or_false}
use Rattle.dtyp_access.proofs.check.decided.Goals as goal

pub returns-in-Allow-clause-granted : goal.returns-in-Allow-clause-granted
returns-in-Allow-clause-granted c = λ bit within. rw (shares-or, shares-and, c.in-Allow.is) refl

pub returns-in-Allow-clause-undecided : goal.returns-in-Allow-clause-undecided
returns-in-Allow-clause-undecided c = λ bit within.
    shares-and c.args.walk.undecided _ bit
    ∙ ap (λ b. shares c.args.walk.undecided (2 ^ bit) && b) (shares-not c.args.mask bit (omega arith) within)

pub returns-in-Deny-clause-undecided : goal.returns-in-Deny-clause-undecided
returns-in-Deny-clause-undecided c = λ bit within.
    shares-and c.args.walk.undecided _ bit
    ∙ ap (λ b. shares c.args.walk.undecided (2 ^ bit) && b) (shares-not c.args.mask bit (omega arith) within)

pub returns-in-Deny-clause-granted : goal.returns-in-Deny-clause-granted
returns-in-Deny-clause-granted c = λ bit within. rw c.in-Deny.is (sym (or_false (shares c.args.walk.granted (2 ^ bit))))
