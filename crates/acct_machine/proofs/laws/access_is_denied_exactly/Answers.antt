-- A call that ran is answered STATUS_ACCESS_DENIED exactly where its grant lacks a bit or its opening is refused.
use Rattle.std.proofs.Common.{Option, refl, sym, subst, ◌↔◌}
use Rattle.acct_codes.specs.Statuses.{status_access_denied}
use Rattle.acct_rules.specs.Profiles.{Operation}
use Rattle.acct_rules.specs.Operations.{IsRight}
use Rattle.acct_operations.specs.Table.{work_of}
use Rattle.acct_machine.specs.declared.entry.Verdict.TheVariants.{Ran}
use Rattle.acct_machine.specs.Access.{access}
use Rattle.acct_machine.specs.Step.{by_operation}
use Rattle.acct_machine.specs.Legal.{HasStatus, IsDenied}
use Rattle.acct_machine.proofs.Deciding.{of-work}
use Rattle.acct_machine.proofs.Denying.{denied-is, is-denied}
use Rattle.acct_machine.proofs.laws.access_is_denied_exactly.Goals as goal

pub returns-clause-exactly : goal.returns-clause-exactly
returns-clause-exactly c = λ s conn call o found.
    let right : IsRight o =
    of-work IsRight c.operations_are_right.ensures.right (work_of call.face call.opnum) o found in
    subst (λ (x : Option Operation). HasStatus status_access_denied (by_operation x s conn call Ran).1 ↔ IsDenied o s
    conn call) (sym found)
    (denied-is o s conn call right (access o s conn call) refl, is-denied o s conn call (access o s conn call) refl)
