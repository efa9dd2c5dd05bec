-- What a call can do to the state: nothing, what was planned, or that and one more handle.
use Rattle.std.proofs.Common.{◌≡◌, ℕ, Option, Some, None, refl}
use Rattle.acct_calls.specs.declared.calls.Call.{Call}
use Rattle.acct_codes.specs.Statuses.{status_access_denied}
use Rattle.acct_rules.specs.declared.planned.Opening.{Opening}
use Rattle.acct_rules.specs.declared.planned.Effect.{Effect}
use Rattle.acct_rules.specs.declared.planned.Effect.TheVariants as effects
use Rattle.acct_rules.specs.Profiles.{Operation}
use Rattle.acct_machine.specs.declared.checks.Access.{Access}
use Rattle.acct_machine.specs.declared.checks.Access.TheVariants.{Passed, Unknown, WrongKind, Denied}
use Rattle.acct_machine.specs.declared.entry.Verdict.{Verdict}
use Rattle.acct_machine.specs.declared.entry.Verdict.TheVariants.{Ran, StoreFault, NoMemory}
use Rattle.acct_machine.specs.State.{State}
use Rattle.acct_machine.specs.Access.{grant_of, operation_of, access}
use Rattle.acct_machine.specs.Step.{changed, with_handle, refused, done, opened_to, by_grant, by_effect, planned_of}
use Rattle.acct_machine.specs.Step.{by_access, by_operation, acted}
use Rattle.acct_machine.specs.Legal.{HasPassed}

-- P holds of the state before; of the state after what was planned; and after the call ran and opened a handle as well,
-- with what its opening grants.
pub record InEachCase (P : State → Type 0) (s : State) (conn : ℕ) (call : Call) (verdict : Verdict) : Type 0 where
  pub same : P s
  pub planned : (o : Operation) → HasPassed o s conn call → P (changed s conn call (planned_of o s conn call))
  pub opened : (o : Operation) (opening : Opening) (granted : ℕ) → Ran ≡ verdict → HasPassed o s conn call
      → (planned_of o s conn call).effect ≡ effects.Opens opening
      → grant_of s conn opening.object opening.desired ≡ Some granted
      → P (with_handle (changed s conn call (planned_of o s conn call)) conn opening.object granted)

opens-by : (P : State → Type 0) (s : State) (conn : ℕ) (call : Call) → InEachCase P s conn call Ran → (o : Operation)
    → HasPassed o s conn call
    → (opening : Opening) → (planned_of o s conn call).effect ≡ effects.Opens opening
    → (grant : Option ℕ) → grant_of s conn opening.object opening.desired ≡ grant
    → P (by_grant (refused s call status_access_denied)
    (opened_to s conn call (planned_of o s conn call) opening.object) grant).0
opens-by P s conn call each o passed opening effect None is = each.same
opens-by P s conn call each o passed opening effect (Some granted) is =
    each.opened o opening granted refl passed effect is

checks-by : (P : State → Type 0) (s : State) (conn : ℕ) (call : Call) → InEachCase P s conn call Ran → (o : Operation)
    → HasPassed o s conn call
    → (grant : Option ℕ)
    → P (by_grant (refused s call status_access_denied) (λ granted. done s conn call (planned_of o s conn call))
    grant).0
checks-by P s conn call each o passed None = each.same
checks-by P s conn call each o passed (Some granted) = each.planned o passed

by-effect : (P : State → Type 0) (s : State) (conn : ℕ) (call : Call) → InEachCase P s conn call Ran → (o : Operation)
    → HasPassed o s conn call
    → (effect : Effect) → (planned_of o s conn call).effect ≡ effect
    → P (by_effect s conn call (planned_of o s conn call) effect).0
by-effect P s conn call each o passed (effects.Opens opening) is =
    opens-by P s conn call each o passed opening is (grant_of s conn opening.object opening.desired) refl
by-effect P s conn call each o passed (effects.Checks opening) is =
    checks-by P s conn call each o passed (grant_of s conn opening.object opening.desired)
by-effect P s conn call each o passed effects.Nothing is = each.planned o passed
by-effect P s conn call each o passed effects.Closes is = each.planned o passed
by-effect P s conn call each o passed (effects.Deletes object) is = each.planned o passed

by-access : (P : State → Type 0) (s : State) (conn : ℕ) (call : Call) → InEachCase P s conn call Ran → (o : Operation)
    → operation_of call ≡ Some o
    → (answer : Access) → access o s conn call ≡ answer → P (by_access o s conn call answer).0
by-access P s conn call each o found Passed is =
    by-effect P s conn call each o (record { found = found; passed = is }) (planned_of o s conn call).effect refl
by-access P s conn call each o found Unknown is = each.same
by-access P s conn call each o found WrongKind is = each.same
by-access P s conn call each o found Denied is = each.same

by-operation : (P : State → Type 0) (s : State) (conn : ℕ) (call : Call) (verdict : Verdict)
    → InEachCase P s conn call verdict
    → (o : Option Operation) → operation_of call ≡ o → P (by_operation o s conn call verdict).0
by-operation P s conn call verdict each None is = each.same
by-operation P s conn call Ran each (Some o) is = by-access P s conn call each o is (access o s conn call) refl
by-operation P s conn call (StoreFault n) each (Some o) is = each.same
by-operation P s conn call NoMemory each (Some o) is = each.same

pub acted-cases : (P : State → Type 0) (s : State) (conn : ℕ) (call : Call) (verdict : Verdict)
    → InEachCase P s conn call verdict
    → P (acted s conn call verdict).0
acted-cases P s conn call verdict each = by-operation P s conn call verdict each (operation_of call) refl
