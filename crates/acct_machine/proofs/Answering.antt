-- The reply to each call of a legal history is an answer of its operation.
use Rattle.std.proofs.Common.{◌≡◌, inl, inr, ℕ, ◌^◌, ◌≤◌, ◌<◌, Bool, true, false, cond, Option, Some, None}
use Rattle.std.proofs.Common.{List, length, refl, sym, subst, arith}
use Rattle.std.specs.Prelude.{◌&&◌, nat_lt, not, ◌==◌}
use Rattle.std.proofs.lemmas.Bool.Decides.{nat_tests}
use Rattle.acct_codes.specs.Statuses.{status_access_denied}
use Rattle.dtyp_access.specs.Laws.{GrantsAreValid}
use Rattle.acct_config.specs.declared.config.Config.{Config}
use Rattle.acct_config.specs.Spelled as configs
use Rattle.acct_calls.specs.declared.calls.Call.{Call}
use Rattle.acct_calls.specs.declared.calls.Face.{Face}
use Rattle.acct_calls.specs.declared.replies.Outs.{Outs}
use Rattle.acct_calls.specs.declared.replies.Outs.TheVariants as outs
use Rattle.acct_calls.specs.declared.replies.Reply.TheVariants.{Done}
use Rattle.acct_layouts.specs.Values.{IsHandle, IsLong}
use Rattle.acct_layouts.specs.CallShapes.{CanBeSpelled}
use Rattle.acct_layouts.specs.Laws.{RefusalsHaveShape}
use Rattle.acct_layouts.specs.Refusals.{is_refusal}
use Rattle.acct_layouts.specs.ReplyShapes.{HasShape}
use Rattle.acct_layouts.specs.Table.{layout_of}
use Rattle.acct_tables.specs.declared.object.Object.{Object}
use Rattle.acct_tables.specs.Keys.{kind_of}
use Rattle.acct_rows.specs.Rows.{HasRoom}
use Rattle.acct_rules.specs.declared.planned.Opening.{Opening}
use Rattle.acct_rules.specs.declared.planned.Effect.{Effect}
use Rattle.acct_rules.specs.declared.planned.Effect.TheVariants as effects
use Rattle.acct_rules.specs.declared.planned.Planned.{Planned}
use Rattle.acct_rules.specs.Planned.{Ruled, refusal}
use Rattle.acct_rules.specs.Profiles.{Operation}
use Rattle.acct_rules.specs.Operations.{is_condition_status, IsRight}
use Rattle.acct_operations.specs.Table.{work_of}
use Rattle.acct_operations.specs.Laws.{AreRight}
use Rattle.acct_machine.specs.declared.checks.Access.{Access}
use Rattle.acct_machine.specs.declared.checks.Access.TheVariants.{Passed, Unknown, WrongKind, Denied}
use Rattle.acct_machine.specs.declared.entry.Verdict.{Verdict}
use Rattle.acct_machine.specs.declared.entry.Verdict.TheVariants.{Ran, StoreFault, NoMemory}
use Rattle.acct_machine.specs.declared.entry.Entry.{Entry}
use Rattle.acct_machine.specs.State.{State, Start, last_serial}
use Rattle.acct_machine.specs.Access.{grant_of, operation_of, access}
use Rattle.acct_machine.specs.Step.{refused, refusal_outs, filled_by, done, opened_to, by_grant, by_effect, concluded}
use Rattle.acct_machine.specs.Step.{next_handle, ruled_of, planned_of, by_access, by_operation, state_at}
use Rattle.acct_machine.specs.Legal.{HasPassed}
use Rattle.acct_machine.specs.Sound.{IsSound, KeepsSound}
use Rattle.acct_machine.specs.Shapes.{IsAnswer, RepliesAreShaped}
use Rattle.acct_machine.proofs.Deciding.{of-work, both, Decision, decides}
use Rattle.acct_machine.proofs.Handles.{is-asked}
use Rattle.acct_machine.proofs.Ruling.{Asks, ruled-refuses, ruled-succeeds, ruled-shaped}
use Rattle.acct_machine.proofs.Passing.{live-within}
use Rattle.acct_machine.proofs.Serials.{serial-at}
use Rattle.acct_machine.proofs.Shapes.{refusal-shaped, filled-shaped, grant-long}
use Rattle.acct_machine.proofs.Sounds.{grant-valid}

-- What is known of a state where a call is answered, and of the call: refusals have the shape, the handle that comes
-- next is one, and grants are of 32 bits.
record Known (s : State) (conn : ℕ) (call : Call) : Type 0 where
  refusals : (status : ℕ) → IsLong status → HasShape call.face call.opnum (Done status (refusal_outs call))
  next : IsHandle (next_handle s conn)
  grants : (object : Object) (desired granted : ℕ) → grant_of s conn object desired ≡ Some granted → IsLong granted

-- what is answered to a plan that is no refusal, has the shape
record Fits (call : Call) (planned : Planned) : Type 0 where
  other : is_refusal planned.status ≡ false
  shaped : HasShape call.face call.opnum (Done planned.status planned.outs)

replied-by : (call : Call) (status : ℕ) (out : Outs) (refuses : Bool) → refuses ≡ false
    → HasShape call.face call.opnum (Done status out)
    → HasShape call.face call.opnum (Done status (cond refuses (refusal_outs call) out))
replied-by call status out true other shaped = cc
replied-by call status out false other shaped = shaped

refused-by : (call : Call) (status : ℕ) (out : Outs) (refuses : Bool) → refuses ≡ true
    → HasShape call.face call.opnum (Done status (refusal_outs call))
    → HasShape call.face call.opnum (Done status (cond refuses (refusal_outs call) out))
refused-by call status out true is shaped = shaped
refused-by call status out false is shaped = cc

-- a plan that fits is answered rightly, whether its opening is granted or not
opens-answers : (s : State) (conn : ℕ) (call : Call) (planned : Planned) → Known s conn call → Fits call planned
    → (opening : Opening)
    → (grant : Option ℕ) → grant_of s conn opening.object opening.desired ≡ grant
    → IsAnswer call (by_grant (refused s call status_access_denied) (opened_to s conn call planned opening.object)
    grant).1
opens-answers s conn call planned known fits opening None is = known.refusals status_access_denied (omega arith)
opens-answers s conn call planned known fits opening (Some granted) is =
    replied-by call planned.status
    (filled_by (layout_of call.face call.opnum) (next_handle s conn) granted planned.outs)
    (is_refusal planned.status)
    fits.other
    (filled-shaped call (next_handle s conn) granted planned.status planned.outs fits.other known.next
    (known.grants opening.object opening.desired granted is) fits.shaped)

done-answers : (s : State) (conn : ℕ) (call : Call) (planned : Planned) → Fits call planned
    → IsAnswer call (done s conn call planned).1
done-answers s conn call planned fits =
    replied-by call planned.status planned.outs (is_refusal planned.status) fits.other fits.shaped

checks-answers : (s : State) (conn : ℕ) (call : Call) (planned : Planned) → Known s conn call → Fits call planned
    → (grant : Option ℕ)
    → IsAnswer call (by_grant (refused s call status_access_denied) (λ granted. done s conn call planned) grant).1
checks-answers s conn call planned known fits None = known.refusals status_access_denied (omega arith)
checks-answers s conn call planned known fits (Some granted) = done-answers s conn call planned fits

effect-answers : (s : State) (conn : ℕ) (call : Call) (planned : Planned) → Known s conn call → Fits call planned
    → (effect : Effect)
    → IsAnswer call (by_effect s conn call planned effect).1
effect-answers s conn call planned known fits (effects.Opens opening) =
    opens-answers s conn call planned known fits opening (grant_of s conn opening.object opening.desired) refl
effect-answers s conn call planned known fits (effects.Checks opening) =
    checks-answers s conn call planned known fits (grant_of s conn opening.object opening.desired)
effect-answers s conn call planned known fits effects.Nothing = done-answers s conn call planned fits
effect-answers s conn call planned known fits effects.Closes = done-answers s conn call planned fits
effect-answers s conn call planned known fits (effects.Deletes object) = done-answers s conn call planned fits

below : (status : ℕ) → nat_lt status (2 ^ 32) ≡ true → status < 2 ^ 32
below status lt = grind (arith, nat_tests)

-- a condition that fails is answered rightly
fails-answers : (s : State) (conn : ℕ) (call : Call) → Known s conn call → (status : ℕ)
    → is_condition_status status ≡ true
    → IsAnswer call (concluded s conn call (refusal status)).1
fails-answers s conn call known status condition =
    let tests : Bool = is_refusal status && nat_lt status (2 ^ 32) in
    let first : tests ≡ true = (both tests (not (status == status_access_denied)) condition).0 in
    let parts : (is_refusal status ≡ true) × (nat_lt status (2 ^ 32) ≡ true) =
    both (is_refusal status) (nat_lt status (2 ^ 32)) first in
    let long : IsLong status = below status parts.1 in
    refused-by call status outs.Nothing (is_refusal status) parts.0 (known.refusals status long)

-- the interface and the opnum of a call are its operation's
fits-of : (o : Operation) (call : Call) (planned : Planned) (face : Face) (opnum : ℕ) → call.face ≡ face
    → call.opnum ≡ opnum
    → is_refusal planned.status ≡ false → HasShape face opnum (Done planned.status planned.outs) → Fits call planned
fits-of o call planned face opnum same-face same-opnum other shaped = record {
  other = other;
  shaped =
      subst (λ (f : Face). HasShape f call.opnum (Done planned.status planned.outs)) (sym same-face)
      (subst (λ (n : ℕ). HasShape face n (Done planned.status planned.outs)) (sym same-opnum) shaped);
}

outcome-by : (o : Operation) (s : State) (conn : ℕ) (call : Call) → IsRight o → HasRoom s.rows 0 → Known s conn call
    → Asks o s conn call
    → Decision is_condition_status (ruled_of o s conn call).conditions (ruled_of o s conn call).planned
    → IsAnswer call (concluded s conn call (planned_of o s conn call)).1
outcome-by o s conn call right few known asks (inl fails) =
    subst (λ (p : Planned). IsAnswer call (concluded s conn call p).1) (sym fails.refuses)
    (fails-answers s conn call known fails.status (fails.tested (ruled-refuses o s conn call right)))
outcome-by o s conn call right few known asks (inr passes) =
    let planned : Planned = (ruled_of o s conn call).planned in
    let fits : Fits call planned = fits-of o call planned o.profile.face o.profile.opnum asks.face asks.opnum
    (ruled-succeeds o s conn call right) (ruled-shaped o s conn call right few asks passes.none) in
    subst (λ (p : Planned). IsAnswer call (concluded s conn call p).1) (sym passes.plans)
    (effect-answers s conn call planned known fits planned.effect)

access-answers : AreRight → (config : Config) (o : Operation) (s : State) (conn : ℕ) (call : Call)
    → configs.IsRightConfig s.config → IsSound config s → HasRoom s.rows 0 → CanBeSpelled call → Known s conn call
    → operation_of call ≡ Some o → (answer : Access) → access o s conn call ≡ answer
    → IsAnswer call (by_access o s conn call answer).1
access-answers right config o s conn call configured sound few spelled known found Passed is =
    let ruled : Ruled = ruled_of o s conn call in
    let passed : HasPassed o s conn call = record { found = found; passed = is } in
    let itself : IsRight o = of-work IsRight right.right (work_of call.face call.opnum) o found in
    outcome-by o s conn call itself few known (is-asked right config s conn call o configured sound spelled passed)
    (decides is_condition_status ruled.conditions ruled.planned)
access-answers right config o s conn call configured sound few spelled known found Unknown is = tt
access-answers right config o s conn call configured sound few spelled known found WrongKind is =
    known.refusals _ (omega arith)
access-answers right config o s conn call configured sound few spelled known found Denied is =
    known.refusals _ (omega arith)

operation-answers : AreRight → (config : Config) (s : State) (conn : ℕ) (call : Call) (verdict : Verdict)
    → configs.IsRightConfig s.config → IsSound config s → HasRoom s.rows 0
    → CanBeSpelled call → Known s conn call → (o : Option Operation) → operation_of call ≡ o
    → IsAnswer call (by_operation o s conn call verdict).1
operation-answers right config s conn call verdict configured sound few spelled known None is = tt
operation-answers right config s conn call Ran configured sound few spelled known (Some o) is =
    access-answers right config o s conn call configured sound few spelled known is (access o s conn call) refl
operation-answers right config s conn call (StoreFault n) configured sound few spelled known (Some o) is =
    known.refusals _ (omega arith)
operation-answers right config s conn call NoMemory configured sound few spelled known (Some o) is =
    known.refusals _ (omega arith)

-- ---- what is known along a legal history

known-at : RefusalsHaveShape → GrantsAreValid → (start : Start) (before : List Entry) (conn : ℕ) (call : Call)
    → IsSound start.config (state_at start before) → CanBeSpelled call → conn < 2 ^ 32 → length before < 2 ^ 64
    → Known (state_at start before) conn call
known-at refusals within start before conn call sound spelled small short =
    let s : State = state_at start before in
    let serial : last_serial conn s.conns ≤ length before = serial-at start before conn in
    record {
      refusals = λ status long. refusal-shaped refusals call status spelled long;
      next = omega (arith, small, serial, short);
      grants = λ object desired granted is. grant-long (kind_of object) granted
          (grant-valid within s conn object desired granted is);
    }

pub answers-in-history : AreRight → RefusalsHaveShape → GrantsAreValid → KeepsSound → RepliesAreShaped
answers-in-history right refusals within keeps start before conn call verdict bytes configured rows legal may short
    few =
    let s : State = state_at start before in
    let sound : IsSound start.config s = keeps start before configured rows legal in
    let here : configs.IsRightConfig s.config =
    subst (λ (c : Config). configs.IsRightConfig c) (sym sound.connected.configuration) configured in
    let small : conn < 2 ^ 32 =
    omega (arith, live-within 1 conn s.conns sound.connected.numbered may.0, sound.connected.few) in
    operation-answers right start.config s conn call verdict here sound few may.1.1
    (known-at refusals within start before conn call sound may.1.1 small short) (operation_of call) refl
