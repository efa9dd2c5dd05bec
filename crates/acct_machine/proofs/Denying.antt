-- Where a call is answered STATUS_ACCESS_DENIED.
use Rattle.std.proofs.Common.{◌≡◌, inl, inr, ℕ, true, false, Option, Some, None, is_none, refl, sym, ◌∙◌, ap}
use Rattle.std.proofs.Common.{subst, arith}
use Rattle.std.specs.Prelude.{◌⊎◌}
use Rattle.acct_calls.specs.declared.calls.Call.{Call}
use Rattle.acct_codes.specs.Statuses.{status_access_denied}
use Rattle.acct_layouts.specs.Refusals.{is_refusal}
use Rattle.acct_tables.specs.declared.object.Object.{Object}
use Rattle.acct_rules.specs.declared.planned.Effect.{Effect}
use Rattle.acct_rules.specs.declared.planned.Effect.TheVariants as effects
use Rattle.acct_rules.specs.declared.planned.Planned.{Planned}
use Rattle.acct_rules.specs.Planned.{Ruled, opening_of}
use Rattle.acct_rules.specs.Profiles.{Operation}
use Rattle.acct_rules.specs.Operations.{is_condition_status, IsRight}
use Rattle.acct_machine.specs.declared.checks.Access.{Access}
use Rattle.acct_machine.specs.declared.checks.Access.TheVariants.{Passed, Unknown, WrongKind, Denied}
use Rattle.acct_machine.specs.State.{State}
use Rattle.acct_machine.specs.Access.{grant_of, is_opening_refused, access}
use Rattle.acct_machine.specs.Step.{refused, done, opened_to, by_grant, by_effect, concluded, ruled_of, planned_of}
use Rattle.acct_machine.specs.Step.{by_access}
use Rattle.acct_machine.specs.Legal.{HasStatus, IsOpeningDenied, IsDenied}
use Rattle.acct_machine.proofs.Deciding.{Decision, decides}
use Rattle.acct_machine.proofs.Ruling.{ruled-refuses, ruled-succeeds}

-- no condition answers with the status, and no plan does
condition-other : (status : ℕ) → is_condition_status status ≡ true → status ≡ status_access_denied → ⊥
condition-other status condition is =
    let e : is_condition_status status_access_denied ≡ true =
    subst (λ n. is_condition_status n ≡ true) is condition in absurd cc

planned-other : (status : ℕ) → is_refusal status ≡ false → status ≡ status_access_denied → ⊥
planned-other status other is =
    let e : is_refusal status_access_denied ≡ false = subst (λ n. is_refusal n ≡ false) is other in absurd cc

-- where a plan is answered so, its opening was refused, or the plan itself says so
opens-denied : (s : State) (conn : ℕ) (call : Call) (planned : Planned) (object : Object) (grant : Option ℕ)
    → HasStatus status_access_denied
    (by_grant (refused s call status_access_denied) (opened_to s conn call planned object) grant).1
    → (is_none grant ≡ true) ⊎ (planned.status ≡ status_access_denied)
opens-denied s conn call planned object None h = inl refl
opens-denied s conn call planned object (Some granted) h = inr h

checks-denied : (s : State) (conn : ℕ) (call : Call) (planned : Planned) (grant : Option ℕ)
    → HasStatus status_access_denied
    (by_grant (refused s call status_access_denied) (λ granted. done s conn call planned) grant).1
    → (is_none grant ≡ true) ⊎ (planned.status ≡ status_access_denied)
checks-denied s conn call planned None h = inl refl
checks-denied s conn call planned (Some granted) h = inr h

effect-denied : (s : State) (conn : ℕ) (call : Call) (planned : Planned) (effect : Effect)
    → HasStatus status_access_denied (by_effect s conn call planned effect).1
    → (is_opening_refused s conn (opening_of effect) ≡ true) ⊎ (planned.status ≡ status_access_denied)
effect-denied s conn call planned (effects.Opens opening) h =
    opens-denied s conn call planned opening.object (grant_of s conn opening.object opening.desired) h
effect-denied s conn call planned (effects.Checks opening) h =
    checks-denied s conn call planned (grant_of s conn opening.object opening.desired) h
effect-denied s conn call planned effects.Nothing h = inr h
effect-denied s conn call planned effects.Closes h = inr h
effect-denied s conn call planned (effects.Deletes object) h = inr h

outcome-by : (o : Operation) (s : State) (conn : ℕ) (call : Call) → IsRight o → access o s conn call ≡ Passed
    → Decision is_condition_status (ruled_of o s conn call).conditions (ruled_of o s conn call).planned
    → (is_opening_refused s conn (opening_of (planned_of o s conn call).effect) ≡ true)
    ⊎ ((planned_of o s conn call).status ≡ status_access_denied)
    → IsOpeningDenied o s conn call
outcome-by o s conn call right passed (inl fails) (inl refused) =
    let open-none : is_opening_refused s conn (opening_of (planned_of o s conn call).effect) ≡ false =
    ap (λ (p : Planned). is_opening_refused s conn (opening_of p.effect)) fails.refuses in
    absurd (let e : true ≡ false = sym refused ∙ open-none in cc)
outcome-by o s conn call right passed (inl fails) (inr is) =
    let all = ruled-refuses o s conn call right in
    absurd (condition-other fails.status (fails.tested all) (sym (ap (λ (p : Planned). p.status) fails.refuses) ∙ is))
outcome-by o s conn call right passed (inr passes) (inl refused) = record {
  passed = passed;
  conditions = passes.none;
  opening = subst (λ (p : Planned). is_opening_refused s conn (opening_of p.effect) ≡ true) passes.plans refused;
}
outcome-by o s conn call right passed (inr passes) (inr is) =
    absurd (planned-other (ruled_of o s conn call).planned.status (ruled-succeeds o s conn call right)
    (sym (ap (λ (p : Planned). p.status) passes.plans) ∙ is))

pub denied-is : (o : Operation) (s : State) (conn : ℕ) (call : Call) → IsRight o → (answer : Access)
    → access o s conn call ≡ answer
    → HasStatus status_access_denied (by_access o s conn call answer).1 → IsDenied o s conn call
denied-is o s conn call right Passed is h =
    let ruled : Ruled = ruled_of o s conn call in
    inr (outcome-by o s conn call right is (decides is_condition_status ruled.conditions ruled.planned)
    (effect-denied s conn call (planned_of o s conn call) (planned_of o s conn call).effect h))
denied-is o s conn call right Unknown is h = absurd h
denied-is o s conn call right WrongKind is h = absurd (omega (arith, h))
denied-is o s conn call right Denied is h = inl is

-- ---- and it is answered so where it is denied

denied-opens : (s : State) (conn : ℕ) (call : Call) (planned : Planned) (object : Object) (grant : Option ℕ)
    → is_none grant ≡ true
    → HasStatus status_access_denied
    (by_grant (refused s call status_access_denied) (opened_to s conn call planned object) grant).1
denied-opens s conn call planned object None h = refl
denied-opens s conn call planned object (Some granted) h = cc

denied-checks : (s : State) (conn : ℕ) (call : Call) (planned : Planned) (grant : Option ℕ) → is_none grant ≡ true
    → HasStatus status_access_denied
    (by_grant (refused s call status_access_denied) (λ granted. done s conn call planned) grant).1
denied-checks s conn call planned None h = refl
denied-checks s conn call planned (Some granted) h = cc

denied-effect : (s : State) (conn : ℕ) (call : Call) (planned : Planned) (effect : Effect)
    → is_opening_refused s conn (opening_of effect) ≡ true
    → HasStatus status_access_denied (by_effect s conn call planned effect).1
denied-effect s conn call planned (effects.Opens opening) h =
    denied-opens s conn call planned opening.object (grant_of s conn opening.object opening.desired) h
denied-effect s conn call planned (effects.Checks opening) h =
    denied-checks s conn call planned (grant_of s conn opening.object opening.desired) h
denied-effect s conn call planned effects.Nothing h = cc
denied-effect s conn call planned effects.Closes h = cc
denied-effect s conn call planned (effects.Deletes object) h = cc

denied-by : (o : Operation) (s : State) (conn : ℕ) (call : Call)
    → Decision is_condition_status (ruled_of o s conn call).conditions (ruled_of o s conn call).planned
    → IsOpeningDenied o s conn call
    → HasStatus status_access_denied (concluded s conn call (planned_of o s conn call)).1
denied-by o s conn call (inl fails) denied = absurd (let e : true ≡ false = sym denied.conditions ∙ fails.fails in cc)
denied-by o s conn call (inr passes) denied =
    subst (λ (p : Planned). HasStatus status_access_denied (concluded s conn call p).1) (sym passes.plans)
    (denied-effect s conn call (ruled_of o s conn call).planned (ruled_of o s conn call).planned.effect denied.opening)

pub is-denied : (o : Operation) (s : State) (conn : ℕ) (call : Call) (answer : Access) → access o s conn call ≡ answer
    → IsDenied o s conn call
    → HasStatus status_access_denied (by_access o s conn call answer).1
is-denied o s conn call Passed is (inl denied) = absurd (let e : Passed ≡ Denied = sym is ∙ denied in cc)
is-denied o s conn call Passed is (inr denied) =
    let ruled : Ruled = ruled_of o s conn call in
    denied-by o s conn call (decides is_condition_status ruled.conditions ruled.planned) denied
is-denied o s conn call Unknown is (inl denied) = absurd (let e : Unknown ≡ Denied = sym is ∙ denied in cc)
is-denied o s conn call Unknown is (inr denied) = absurd (let e : Unknown ≡ Passed = sym is ∙ denied.passed in cc)
is-denied o s conn call WrongKind is (inl denied) = absurd (let e : WrongKind ≡ Denied = sym is ∙ denied in cc)
is-denied o s conn call WrongKind is (inr denied) = absurd (let e : WrongKind ≡ Passed = sym is ∙ denied.passed in cc)
is-denied o s conn call Denied is h = refl
