-- Where memory may run out and a commit may fail, after the conditions of a call.
use Rattle.std.proofs.Common.{◌≡◌, ◌≢◌, inl, inr, ℕ, Bool, true, false, Option, Some, None, is_none, refl, sym, ◌∙◌, ap}
use Rattle.std.proofs.Common.{subst}
use Rattle.std.specs.Prelude.{◌&&◌, ⊤}
use Rattle.acct_calls.specs.declared.calls.Call.{Call}
use Rattle.acct_codes.specs.Statuses.{status_access_denied}
use Rattle.acct_tables.specs.declared.object.Object.{Object}
use Rattle.acct_rows.specs.Rows.{after}
use Rattle.acct_tables.specs.declared.row.OutRow.{OutRow}
use Rattle.acct_rules.specs.declared.planned.Effect.{Effect}
use Rattle.acct_rules.specs.declared.planned.Effect.TheVariants as effects
use Rattle.acct_rules.specs.declared.planned.Planned.{Planned}
use Rattle.acct_rules.specs.declared.profile.Memory.{Memory}
use Rattle.acct_rules.specs.declared.profile.Memory.TheVariants as memory
use Rattle.acct_rules.specs.Profiles.{is_never, Operation}
use Rattle.acct_rules.specs.Planned.{Ruled, none_fails, opening_of, takes_room}
use Rattle.acct_operations.specs.declared.table.Work.{Work}
use Rattle.acct_operations.specs.Frugal.{taken_by, is_no_more}
use Rattle.acct_operations.specs.Laws.{AreFrugal}
use Rattle.acct_operations.specs.Table.{operation, work_of}
use Rattle.acct_machine.specs.declared.entry.Verdict.{Verdict}
use Rattle.acct_machine.specs.declared.entry.Verdict.TheVariants.{Ran, StoreFault, NoMemory}
use Rattle.acct_machine.specs.State.{State}
use Rattle.acct_machine.specs.Access.{grant_of, is_opening_refused}
use Rattle.acct_machine.specs.Outbox.{needs_out, told}
use Rattle.acct_machine.specs.Step.{refused, done, opened_to, by_grant, by_effect, decided_of, ruled_of, planned_of}
use Rattle.acct_machine.specs.Legal.{NoneFails, HasCommit, HasPassed, MayWant, MayHave}
use Rattle.acct_machine.specs.Wants.{WantsRoom, IsFrugal}
use Rattle.acct_machine.proofs.Deciding.{Decision, decides}
use Rattle.acct_machine.proofs.Ruling.{asked_of, ruled-never}
use Rattle.acct_machine.proofs.Telling.{told-passes}

-- what a verdict says of a call of an operation whose handle passed, and that takes memory so
abbrev pub Wants : Memory → Operation → State → ℕ → Call → Verdict → Type 0
Wants m o s conn call Ran = ⊤
Wants m o s conn call (StoreFault n) = HasCommit o s conn call
Wants m o s conn call NoMemory = MayWant m o s conn call

-- none of the operation's own conditions fails, where none does with that of the outbox
own-pass : (out : Option OutRow) (ruled : Ruled) → none_fails (told out ruled).conditions ≡ true
    → none_fails ruled.conditions ≡ true
own-pass None ruled none = none
own-pass (Some out) ruled none = (told-passes out ruled none).0

own-none : (o : Operation) (s : State) (conn : ℕ) (call : Call) → NoneFails o s conn call
    → none_fails (decided_of o s (asked_of s conn call) call).conditions ≡ true
own-none o s conn call none =
    let ruled : Ruled = decided_of o s (asked_of s conn call) call in
    own-pass (needs_out s.config s.rows ruled.planned.plan) ruled none.conditions

may-want : (m : Memory) (o : Operation) (s : State) (conn : ℕ) (call : Call) (room : Bool)
    → (is_never m && room) ≡ false → room ≡ true
    → NoneFails o s conn call → MayWant m o s conn call
may-want memory.Never o s conn call room frugal takes none = let e : true ≡ false = sym takes ∙ frugal in cc
may-want memory.AfterConditions o s conn call room frugal takes none = none
may-want memory.BeforeOpening o s conn call room frugal takes none = own-none o s conn call none
may-want memory.Anywhere o s conn call room frugal takes none = tt

wants-by : (m : Memory) (o : Operation) (s : State) (conn : ℕ) (call : Call)
    → (is_never m && takes_room (ruled_of o s conn call).planned) ≡ false
    → Decision (λ status. true) (ruled_of o s conn call).conditions (ruled_of o s conn call).planned
    → WantsRoom s conn (planned_of o s conn call) NoMemory → MayWant m o s conn call
wants-by m o s conn call frugal (inl fails) wants =
    let room : takes_room (planned_of o s conn call) ≡ false = ap (λ (p : Planned). takes_room p) fails.refuses in
    absurd (let e : true ≡ false = sym wants.1 ∙ room in cc)
wants-by m o s conn call frugal (inr passes) wants =
    let planned : Planned = (ruled_of o s conn call).planned in
    let room : takes_room planned ≡ true = subst (λ (p : Planned). takes_room p ≡ true) passes.plans wants.1 in
    let granted : is_opening_refused s conn (opening_of planned.effect) ≡ false =
    subst (λ (p : Planned). is_opening_refused s conn (opening_of p.effect) ≡ false) passes.plans wants.0 in
    may-want m o s conn call (takes_room planned) frugal room (record { conditions = passes.none; opening = granted })

-- ---- commits

-- a plan that is done has its rows
opened-rows : (s : State) (conn : ℕ) (call : Call) (planned : Planned) (object : Object) (grant : Option ℕ)
    → is_none grant ≡ false
    → (by_grant (refused s call status_access_denied) (opened_to s conn call planned object) grant).0.rows
    ≡ after planned.plan s.rows
opened-rows s conn call planned object None granted = cc
opened-rows s conn call planned object (Some grant) granted = refl

checked-rows : (s : State) (conn : ℕ) (call : Call) (planned : Planned) (grant : Option ℕ) → is_none grant ≡ false
    → (by_grant (refused s call status_access_denied) (λ granted. done s conn call planned) grant).0.rows
    ≡ after planned.plan s.rows
checked-rows s conn call planned None granted = cc
checked-rows s conn call planned (Some grant) granted = refl

pub effect-rows : (s : State) (conn : ℕ) (call : Call) (planned : Planned) (effect : Effect)
    → is_opening_refused s conn (opening_of effect) ≡ false
    → (by_effect s conn call planned effect).0.rows ≡ after planned.plan s.rows
effect-rows s conn call planned (effects.Opens opening) granted =
    opened-rows s conn call planned opening.object (grant_of s conn opening.object opening.desired) granted
effect-rows s conn call planned (effects.Checks opening) granted =
    checked-rows s conn call planned (grant_of s conn opening.object opening.desired) granted
effect-rows s conn call planned effects.Nothing granted = refl
effect-rows s conn call planned effects.Closes granted = refl
effect-rows s conn call planned (effects.Deletes object) granted = refl

-- what a condition that fails answers leaves the rows
commits-by : (o : Operation) (s : State) (conn : ℕ) (call : Call)
    → Decision (λ status. true) (ruled_of o s conn call).conditions (ruled_of o s conn call).planned
    → is_opening_refused s conn (opening_of (planned_of o s conn call).effect) ≡ false
    → after (planned_of o s conn call).plan s.rows ≢ s.rows → HasCommit o s conn call
commits-by o s conn call (inl fails) granted differs =
    absurd (differs (ap (λ (p : Planned). after p.plan s.rows) fails.refuses))
commits-by o s conn call (inr passes) granted differs = record {
  none = record {
    conditions = passes.none;
    opening =
        subst (λ (p : Planned). is_opening_refused s conn (opening_of p.effect) ≡ false) passes.plans granted;
  };
  differs = λ same. differs
      (sym (effect-rows s conn call (planned_of o s conn call) (planned_of o s conn call).effect granted) ∙ same);
}

wants-with : (m : Memory) (o : Operation) (s : State) (conn : ℕ) (call : Call)
    → (is_never m && takes_room (ruled_of o s conn call).planned) ≡ false → (verdict : Verdict)
    → WantsRoom s conn (planned_of o s conn call) verdict → Wants m o s conn call verdict
wants-with m o s conn call frugal Ran wants = tt
wants-with m o s conn call frugal (StoreFault n) wants =
    let ruled : Ruled = ruled_of o s conn call in
    commits-by o s conn call (decides (λ status. true) ruled.conditions ruled.planned) wants.0 wants.1
wants-with m o s conn call frugal NoMemory wants =
    let ruled : Ruled = ruled_of o s conn call in
    wants-by m o s conn call frugal (decides (λ status. true) ruled.conditions ruled.planned) wants

pub wants-room : AreFrugal → (work : Work) (s : State) (conn : ℕ) (call : Call) (verdict : Verdict)
    → WantsRoom s conn (planned_of (operation work) s conn call) verdict
    → Wants (taken_by work) (operation work) s conn call verdict
wants-room are work s conn call verdict wants =
    wants-with (taken_by work) (operation work) s conn call (ruled-never are work s conn call) verdict wants

-- ---- what a legal history allows

allows : (less more : Memory) (o : Operation) (s : State) (conn : ℕ) (call : Call) → is_no_more less more ≡ true
    → MayWant less o s conn call → MayWant more o s conn call
allows memory.Never more o s conn call within wants = absurd wants
allows memory.AfterConditions memory.Never o s conn call within wants = cc
allows memory.AfterConditions memory.AfterConditions o s conn call within wants = wants
allows memory.AfterConditions memory.BeforeOpening o s conn call within wants = own-none o s conn call wants
allows memory.AfterConditions memory.Anywhere o s conn call within wants = tt
allows memory.BeforeOpening memory.Never o s conn call within wants = cc
allows memory.BeforeOpening memory.AfterConditions o s conn call within wants = cc
allows memory.BeforeOpening memory.BeforeOpening o s conn call within wants = wants
allows memory.BeforeOpening memory.Anywhere o s conn call within wants = tt
allows memory.Anywhere memory.Never o s conn call within wants = cc
allows memory.Anywhere memory.AfterConditions o s conn call within wants = cc
allows memory.Anywhere memory.BeforeOpening o s conn call within wants = cc
allows memory.Anywhere memory.Anywhere o s conn call within wants = tt

pub may-have : AreFrugal → (work : Work) (s : State) (conn : ℕ) (call : Call) (verdict : Verdict)
    → HasPassed (operation work) s conn call → Wants (taken_by work) (operation work) s conn call verdict
    → MayHave s conn call verdict
may-have are work s conn call Ran passed wants = tt
may-have are work s conn call (StoreFault n) passed wants = (operation work, passed, wants)
may-have are work s conn call NoMemory passed wants =
    let o : Operation = operation work in
    (o, passed, allows (taken_by work) o.profile.memory o s conn call (are.allowed work) wants)

pub is-frugal : (work : Work) (s : State) (conn : ℕ) (call : Call) (verdict : Verdict)
    → work_of call.face call.opnum ≡ Some work → Wants (taken_by work) (operation work) s conn call verdict
    → IsFrugal s conn call verdict
is-frugal work s conn call Ran found wants = tt
is-frugal work s conn call (StoreFault n) found wants = tt
is-frugal work s conn call NoMemory found wants = (work, found, wants)
