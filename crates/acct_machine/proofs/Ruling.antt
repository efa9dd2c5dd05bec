-- What holds of what an operation decides holds of what the machine does with it.
use Rattle.std.proofs.Common.{◌≡◌, inl, inr, ℕ, Bool, true, false, [], ◌∷◌, Option, Some, refl, sym}
use Rattle.std.proofs.Common.{◌∙◌, ap, subst}
use Rattle.std.specs.Prelude.{◌&&◌, ◌||◌}
use Rattle.std.specs.List.{list_all}
use Rattle.dtyp_access.specs.declared.descriptor.Descriptor.{Descriptor}
use Rattle.acct_calls.specs.declared.calls.Args.{Args}
use Rattle.acct_calls.specs.declared.calls.Call.{Call}
use Rattle.acct_codes.specs.Statuses.{status_insufficient_resources}
use Rattle.acct_config.specs.declared.config.Config.{Config}
use Rattle.acct_layouts.specs.Refusals.{is_refusal}
use Rattle.acct_rows.specs.Laws.{OutsStaySound, PutsAreFound}
use Rattle.acct_rows.specs.Rows.{Lists, HasRoom, TakeNumbers}
use Rattle.acct_rows.specs.Sound.{IsSoundRows}
use Rattle.acct_tables.specs.declared.object.Object.{Object}
use Rattle.acct_tables.specs.declared.row.OutRow.{OutRow}
use Rattle.acct_rules.specs.declared.planned.Planned.{Planned}
use Rattle.acct_rules.specs.declared.profile.Memory.{Memory}
use Rattle.acct_rules.specs.declared.profile.Memory.TheVariants as memory
use Rattle.acct_rules.specs.Profiles.{Operation, is_never}
use Rattle.acct_rules.specs.Operations.{is_condition_status, IsAsked, IsShaped, IsRight, Keeps, KeepsRows}
use Rattle.acct_rules.specs.Planned.{Condition, Ruled, when, none_fails, decision, gives_handle, has_change, takes_room}
use Rattle.acct_operations.specs.declared.table.Work.{Work}
use Rattle.acct_operations.specs.declared.table.Work.TheVariants as works
use Rattle.acct_operations.specs.Frugal.{taken_by, is_for_handle, may_want_to_decide, MayWantToDecide}
use Rattle.acct_operations.specs.Laws.{AreFrugal}
use Rattle.acct_operations.specs.Table.{operation}
use Rattle.acct_machine.specs.State.{State}
use Rattle.acct_machine.specs.Access.{held_by, object_of, described}
use Rattle.acct_machine.specs.Outbox.{account_change, is_full, with_out, told, needs_out, outboxed, told_planned}
use Rattle.acct_machine.specs.Legal.{MayWant}
use Rattle.acct_machine.specs.Step.{decided_of, ruled_of, planned_of}
use Rattle.acct_machine.proofs.Deciding.{Decision, decides}
use Rattle.acct_machine.proofs.Telling.{told-cases, all-join, told-passes, told-decides, no-change, none-some}
use Rattle.acct_machine.proofs.Telling.{modest-takes, out-takes}
use Rattle.acct_machine.proofs.Outboxing.{out-keeps}

-- the object of the handle that a call brings
abbrev pub asked_of : State → ℕ → Call → Object
asked_of s conn call = object_of (held_by s conn call)

-- a call is asked of the object of its handle and its descriptor
abbrev pub Asks : Operation → State → ℕ → Call → Type 0
Asks o s conn call = IsAsked o s.rows (described s (asked_of s conn call)) (asked_of s conn call) call

-- ---- the status

-- a condition that fails answers a refusal
pub ruled-refuses : (o : Operation) (s : State) (conn : ℕ) (call : Call) → IsRight o
    → list_all (λ (c : Condition). is_condition_status c.status) (ruled_of o s conn call).conditions ≡ true
ruled-refuses o s conn call right =
    let test : Condition → Bool = λ c. is_condition_status c.status in
    let object : Object = asked_of s conn call in
    let ruled : Ruled = decided_of o s object call in
    let plain : list_all test ruled.conditions ≡ true =
    right.refuses s.rows (described s object) object call.args in
    let more : (out : OutRow) → account_change s.rows ruled.planned.plan ≡ Some out
    → list_all test (told (Some out) ruled).conditions ≡ true = λ out is.
    all-join test ruled.conditions (when (is_full out) status_insufficient_resources ∷ []) plain refl in
    told-cases (λ (r : Ruled). list_all test r.conditions ≡ true) s.config s.rows ruled plain more

-- what is planned is none
pub ruled-succeeds : (o : Operation) (s : State) (conn : ℕ) (call : Call) → IsRight o
    → is_refusal (ruled_of o s conn call).planned.status ≡ false
ruled-succeeds o s conn call right =
    let object : Object = asked_of s conn call in
    let ruled : Ruled = decided_of o s object call in
    let plain : is_refusal ruled.planned.status ≡ false =
    right.succeeds s.rows (described s object) object call.args in
    told-cases (λ (r : Ruled). is_refusal r.planned.status ≡ false) s.config s.rows ruled plain (λ out is. plain)

-- and has its shape
pub ruled-shaped : (o : Operation) (s : State) (conn : ℕ) (call : Call) → IsRight o → HasRoom s.rows 0
    → Asks o s conn call → none_fails (ruled_of o s conn call).conditions ≡ true
    → IsShaped o (ruled_of o s conn call).planned
ruled-shaped o s conn call right few asks none =
    let object : Object = asked_of s conn call in
    let ruled : Ruled = decided_of o s object call in
    let plain : none_fails ruled.conditions ≡ true → IsShaped o ruled.planned =
    right.shaped s.rows (described s object) object call few asks in
    let more : (out : OutRow) → account_change s.rows ruled.planned.plan ≡ Some out
    → none_fails (told (Some out) ruled).conditions ≡ true → IsShaped o (told (Some out) ruled).planned =
    λ out is passes. plain (told-passes out ruled passes).0 in
    told-cases (λ (r : Ruled). none_fails r.conditions ≡ true → IsShaped o r.planned) s.config s.rows ruled plain more
    none

-- ---- rows

-- what is planned keeps the rows
pub ruled-keeps : OutsStaySound → PutsAreFound → (o : Operation) (s : State) (conn : ℕ) (call : Call) → IsRight o
    → KeepsRows o → IsSoundRows s.rows → Asks o s conn call → none_fails (ruled_of o s conn call).conditions ≡ true
    → Keeps s.rows (ruled_of o s conn call).planned
ruled-keeps stay found o s conn call right each sound asks none =
    let object : Object = asked_of s conn call in
    let ruled : Ruled = decided_of o s object call in
    let modest = right.modest s.rows (described s object) object call.args in
    let plain : none_fails ruled.conditions ≡ true → Keeps s.rows ruled.planned =
    each s.rows (described s object) object call asks in
    let more : (out : OutRow) → account_change s.rows ruled.planned.plan ≡ Some out
    → none_fails (told (Some out) ruled).conditions ≡ true → Keeps s.rows (told (Some out) ruled).planned =
    λ out is passes.
    let parts = told-passes out ruled passes in
    out-keeps stay found s.rows ruled.planned out sound (plain parts.0) modest is parts.1 in
    told-cases (λ (r : Ruled). none_fails r.conditions ≡ true → Keeps s.rows r.planned) s.config s.rows ruled plain
    more none

-- and takes out numbers in order
ruled-takes : (o : Operation) (s : State) (conn : ℕ) (call : Call) → IsRight o
    → none_fails (ruled_of o s conn call).conditions ≡ true
    → TakeNumbers s.rows.next_out (ruled_of o s conn call).planned.plan.puts
ruled-takes o s conn call right none =
    let object : Object = asked_of s conn call in
    let ruled : Ruled = decided_of o s object call in
    let modest = right.modest s.rows (described s object) object call.args in
    let plain : none_fails ruled.conditions ≡ true → TakeNumbers s.rows.next_out ruled.planned.plan.puts = λ passes.
    modest-takes s.rows.next_out ruled.planned.plan modest in
    let more : (out : OutRow) → account_change s.rows ruled.planned.plan ≡ Some out
    → none_fails (told (Some out) ruled).conditions ≡ true
    → TakeNumbers s.rows.next_out (told (Some out) ruled).planned.plan.puts =
    λ out is passes. out-takes s.rows ruled.planned.plan out modest is (told-passes out ruled passes).1 in
    told-cases (λ (r : Ruled). none_fails r.conditions ≡ true → TakeNumbers s.rows.next_out r.planned.plan.puts)
    s.config s.rows ruled plain more none

takes-by : (o : Operation) (s : State) (conn : ℕ) (call : Call) → IsRight o
    → Decision (λ status. true) (ruled_of o s conn call).conditions (ruled_of o s conn call).planned
    → TakeNumbers s.rows.next_out (planned_of o s conn call).plan.puts
takes-by o s conn call right (inl fails) =
    subst (λ (p : Planned). TakeNumbers s.rows.next_out p.plan.puts) (sym fails.refuses) tt
takes-by o s conn call right (inr passes) =
    subst (λ (p : Planned). TakeNumbers s.rows.next_out p.plan.puts) (sym passes.plans)
    (ruled-takes o s conn call right passes.none)

pub planned-takes : (o : Operation) (s : State) (conn : ℕ) (call : Call) → IsRight o
    → TakeNumbers s.rows.next_out (planned_of o s conn call).plan.puts
planned-takes o s conn call right =
    let ruled : Ruled = ruled_of o s conn call in
    takes-by o s conn call right (decides (λ status. true) ruled.conditions ruled.planned)

-- ---- memory

second-not : (a b : Bool) → (a || b) ≡ false → b ≡ false
second-not true b h = cc
second-not false b h = h

-- a plan without a change has no out row, so it takes no room with one either
told-never : (m : Memory) (r : Lists) (ruled : Ruled) (out : OutRow) → (is_never m && takes_room ruled.planned) ≡ false
    → account_change r ruled.planned.plan ≡ Some out → (is_never m && takes_room (with_out out ruled.planned)) ≡ false
told-never memory.Never r ruled out frugal is =
    let none : has_change ruled.planned.plan ≡ false =
    second-not (gives_handle ruled.planned.effect) (has_change ruled.planned.plan) frugal in
    absurd (none-some out (sym (no-change r ruled.planned.plan none) ∙ is))
told-never memory.AfterConditions r ruled out frugal is = refl
told-never memory.BeforeOpening r ruled out frugal is = refl
told-never memory.Anywhere r ruled out frugal is = refl

-- what takes no memory plans nothing that takes room
pub ruled-never : AreFrugal → (work : Work) (s : State) (conn : ℕ) (call : Call)
    → (is_never (taken_by work) && takes_room (ruled_of (operation work) s conn call).planned) ≡ false
ruled-never are work s conn call =
    let object : Object = asked_of s conn call in
    let ruled : Ruled = decided_of (operation work) s object call in
    let plain : (is_never (taken_by work) && takes_room ruled.planned) ≡ false =
    are.never work s.rows (described s object) object call.args in
    told-cases (λ (r : Ruled). (is_never (taken_by work) && takes_room r.planned) ≡ false) s.config s.rows ruled plain
    (λ out is. told-never (taken_by work) s.rows ruled out plain is)

decides-by : (m : Memory) (change none : Bool) → (is_for_handle m && change) ≡ false → change ≡ true → none ≡ true
    → may_want_to_decide m none ≡ true
decides-by memory.Never change none frugal is passes = let e : true ≡ false = sym is ∙ frugal in cc
decides-by memory.AfterConditions change none frugal is passes = let e : true ≡ false = sym is ∙ frugal in cc
decides-by memory.BeforeOpening change none frugal is passes = passes
decides-by memory.Anywhere change none frugal is passes = refl

changes-by : AreFrugal → (work : Work) (r : Lists) (row : Option Descriptor) (object : Object) (asked : Args)
    → Decision (λ status. true) ((operation work).rule r row object asked).conditions
    ((operation work).rule r row object asked).planned
    → has_change (decision ((operation work).rule r row object asked)).plan ≡ true
    → may_want_to_decide (taken_by work) (none_fails ((operation work).rule r row object asked).conditions) ≡ true
changes-by are work r row object asked (inl fails) changes =
    let none : has_change (decision ((operation work).rule r row object asked)).plan ≡ false =
    ap (λ (p : Planned). has_change p.plan) fails.refuses in
    absurd (let e : true ≡ false = sym changes ∙ none in cc)
changes-by are work r row object asked (inr passes) changes =
    decides-by (taken_by work) (has_change ((operation work).rule r row object asked).planned.plan)
    (none_fails ((operation work).rule r row object asked).conditions) (are.changes work r row object asked)
    (subst (λ (p : Planned). has_change p.plan ≡ true) passes.plans changes) passes.none

wants-by-decision : (m : Memory) (o : Operation) (s : State) (conn : ℕ) (call : Call)
    → may_want_to_decide m (none_fails (decided_of o s (asked_of s conn call) call).conditions) ≡ true
    → MayWant m o s conn call
wants-by-decision memory.Never o s conn call is = cc
wants-by-decision memory.AfterConditions o s conn call is = cc
wants-by-decision memory.BeforeOpening o s conn call is = is
wants-by-decision memory.Anywhere o s conn call is = tt

wants-at : (m : Memory) (o : Operation) (s : State) (conn : ℕ) (call : Call) (object : Object)
    → object ≡ asked_of s conn call
    → may_want_to_decide m (none_fails (decided_of o s object call).conditions) ≡ true → MayWant m o s conn call
wants-at m o s conn call object at is =
    wants-by-decision m o s conn call
    (subst (λ (x : Object). may_want_to_decide m (none_fails (decided_of o s x call).conditions) ≡ true) at is)

-- the last case is checked at each of the others
by-taken : (work : Work) (r : Lists) (row : Option Descriptor) (object : Object) (asked : Args)
    → MayWantToDecide work r row object asked
    → may_want_to_decide (taken_by work) (none_fails ((operation work).rule r row object asked).conditions) ≡ true
by-taken works.SamrSetSecurityObject r row object asked wants = refl
by-taken works.LsarSetSecurityObject r row object asked wants = refl
by-taken _ r row object asked wants = wants

-- memory that runs out where the operation is decided may run out of the call
pub wants-deciding : (work : Work) (s : State) (conn : ℕ) (call : Call) (object : Object)
    → object ≡ asked_of s conn call → MayWantToDecide work s.rows (described s object) object call.args
    → MayWant (taken_by work) (operation work) s conn call
wants-deciding work s conn call object at wants =
    wants-at (taken_by work) (operation work) s conn call object at
    (by-taken work s.rows (described s object) object call.args wants)

-- and so may that for the change of rows that was decided
pub wants-changing : AreFrugal → (work : Work) (s : State) (conn : ℕ) (call : Call) (object : Object)
    (planned : Planned) → object ≡ asked_of s conn call → decision (decided_of (operation work) s object call) ≡ planned
    → has_change planned.plan ≡ true → MayWant (taken_by work) (operation work) s conn call
wants-changing are work s conn call object planned at is changes =
    let ruled : Ruled = decided_of (operation work) s object call in
    wants-at (taken_by work) (operation work) s conn call object at
    (changes-by are work s.rows (described s object) object call.args
    (decides (λ status. true) ruled.conditions ruled.planned)
    (subst (λ (p : Planned). has_change p.plan ≡ true) (sym is) changes))

-- ---- the plan

-- what the operation decided, with its out row, is what is planned
pub planned-told : (o : Operation) (s : State) (conn : ℕ) (call : Call) (config : Config) (object : Object)
    (decided : Planned) → config ≡ s.config → object ≡ asked_of s conn call
    → decision (decided_of o s object call) ≡ decided
    → told_planned (needs_out config s.rows decided.plan) decided ≡ planned_of o s conn call
planned-told o s conn call config object decided same at is =
    ap (λ (c : Config). told_planned (needs_out c s.rows decided.plan) decided) same
    ∙ sym (ap (λ (p : Planned). told_planned (needs_out s.config s.rows p.plan) p) is)
    ∙ sym (told-decides s.config s.rows (decided_of o s object call))
    ∙ ap (λ (x : Object). decision (outboxed s.config s.rows (decided_of o s x call))) at
