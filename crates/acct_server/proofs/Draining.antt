-- Draining the outbox of a store: what a history of numbers that were taken out comes to, and that it comes to its end
-- where nothing failed.
use Rattle.std.proofs.Common.{◌≡◌, ◌≢◌, ℕ, ◌≤◌, inl, inr, Bool, true, false, List, [], ◌∷◌, ◌++◌, map, Option, Some, refl, sym}
use Rattle.std.proofs.Common.{IfSome, ◌∙◌, ap, subst, arith}
use Rattle.std.specs.Prelude.{if◌then◌else◌}
use Rattle.std.proofs.lemmas.List.{append-nil}
use Rattle.account_hooks.specs.Drains.{Drains, IfHeld, IfStoreFault, left, Job, Run, Adds}
use Rattle.account_hooks.specs.declared.drains.Drained.{Drained}
use Rattle.account_hooks.specs.declared.drains.Drained.TheVariants as drained
use Rattle.acct_config.specs.declared.config.Config.{Config}
use Rattle.acct_config.specs.declared.config.Hook.{Hook}
use Rattle.acct_keeper.specs.Faults.{Rose, NotRisen}
use Rattle.acct_keeper.specs.declared.pairs.Pair.{Pair}
use Rattle.acct_machine.specs.declared.entry.Entry.{Entry}
use Rattle.acct_machine.specs.declared.entry.Entry.TheVariants.{Hooked}
use Rattle.acct_machine.specs.Gates.{IsGood, Moves, JobsAreLeft, RoseTo}
use Rattle.acct_machine.specs.Machine.{state_of}
use Rattle.acct_machine.specs.Jobs.{jobs_at, jobs_of}
use Rattle.acct_machine.specs.Outbox.{has_hook, HoldsRows}
use Rattle.acct_machine.specs.Outs.{account_changes, added, hooks_of}
use Rattle.acct_machine.specs.Shown.{Shown}
use Rattle.acct_machine.specs.State.{State, Start, first}
use Rattle.acct_machine.specs.Step.{step, state_after, state_at}
use Rattle.acct_rows.specs.PairRules.{AreUnbroken, IsSmallestBroken}
use Rattle.acct_rows.specs.Rows.{Lists, remove_row}
use Rattle.acct_rows.specs.Sound.{IsSoundRows}
use Rattle.acct_tables.specs.declared.row.OutRow.{OutRow}
use Rattle.acct_tables.specs.declared.row.RowKey.TheVariants as keys
use Rattle.acct_server.specs.Hooked.{TellingHooks, HookParts, RunsHooks, DrainsQuietly, IsDrainsEnd, hook_status}
use Rattle.acct_machine.proofs.Changing.{no-changes}
use Rattle.acct_server.specs.Begun.{IsBegun}
use Rattle.acct_server.specs.Hooked.{HasDrained, jobs_in, without_outs}
use Rattle.acct_server.specs.Leaves.{StoreCause}
use Rattle.acct_server.specs.declared.status.Status.{Status}
use Rattle.acct_server.specs.declared.status.Status.TheVariants as status

-- ---- a history of numbers that were taken out

none-either : (b : Bool) (os : List OutRow) → os ≡ [] → (if b then os else []) ≡ []
none-either true os none = none
none-either false os none = refl

-- accounts are as they were, so none has changed
added-none : (s : State) (ns : List ℕ) → account_changes s.rows s.rows ≡ [] → added s (map Hooked ns) ≡ []
added-none s [] none = refl
added-none s (n ∷ ns) none =
    ap (λ (os : List OutRow). os ++ added (step s (Hooked n)) (map Hooked ns))
    (none-either (has_hook s.config) (account_changes s.rows s.rows) none)
    ∙ added-none (step s (Hooked n)) ns none

pub hooks-are : (ns : List ℕ) → hooks_of (map Hooked ns) ≡ ns
hooks-are [] = refl
hooks-are (n ∷ ns) = ap (λ (l : List ℕ). n ∷ l) (hooks-are ns)

-- it adds no job
pub jobs-are : (start : Start) (ns : List ℕ) → IsSoundRows start.rows
    → jobs_at start (map Hooked ns) ≡ jobs_in start.rows
jobs-are start ns sound =
    ap (λ (os : List OutRow). jobs_of start.rows os)
    (ap (λ (os : List OutRow). start.rows.outs ++ os)
    (added-none (first start) ns (no-changes start.rows sound)) ∙ append-nil start.rows.outs)

rows-after : (s : State) (ns : List ℕ) → (state_after s (map Hooked ns)).rows ≡ without_outs ns s.rows
rows-after s [] = refl
rows-after s (n ∷ ns) = rows-after (step s (Hooked n)) ns

-- and takes these changes from the rows, and nothing else
pub rows-are : (start : Start) (ns : List ℕ) → (state_at start (map Hooked ns)).rows ≡ without_outs ns start.rows
rows-are start ns = rows-after (first start) ns

pub outs-alone : (ns : List ℕ) (r : Lists) → without_outs ns r ≡ record r { outs = (without_outs ns r).outs }
outs-alone [] r = refl
outs-alone (n ∷ ns) r = outs-alone ns (remove_row (keys.Out n) r)

none-left : (r : Lists) (os : List OutRow) → jobs_of r os ≡ [] → os ≡ []
none-left r [] is = refl
none-left r (o ∷ os) is = absurd cc

-- where no job is left the rows are as they were, without any change in the outbox
pub emptied : (ns : List ℕ) (names r : Lists) → jobs_of names (without_outs ns r).outs ≡ []
    → without_outs ns r ≡ record r { outs = [] }
emptied ns names r is =
    outs-alone ns r
    ∙ ap (λ (os : List OutRow). record r { outs = os }) (none-left names (without_outs ns r).outs is)

-- ---- what draining comes to

rose-above : (first since count n : ℕ) → first ≤ since → since ≤ count → Rose count n → Rose first n
rose-above first since count n below within rose = omega (arith, below, within, rose)

-- the count of the store that failed is the keeper's, and rose since the store was opened
fault-told : (answer : Drained) (first since now after : ℕ) → first ≤ since → after ≡ now
    → IfStoreFault answer (λ n. RoseTo since n × (n ≡ now))
    → IfStoreFault answer (λ count. (count ≡ after) × Rose first count)
fault-told drained.Empty first since now after below is fault = tt
fault-told (drained.Held n) first since now after below is fault = tt
fault-told (drained.StoreFault n) first since now after below is fault = (
  fault.1 ∙ sym is,
  rose-above first since fault.0.count n below fault.0.since fault.0.rose,
)
fault-told drained.NoMemory first since now after below is fault = tt

none-stays : (answer : Drained) (program : List ℕ) (tries : ℕ) (jobs : List Job) (gone : List ℕ) (runs : List Run)
    → Drains answer program tries [] jobs gone runs → hook_status answer ≡ status.Done → left jobs gone ≡ []
none-stays drained.Empty program tries jobs gone runs drains done = drains.stops.1
none-stays (drained.Held n) program tries jobs gone runs drains done = absurd cc
none-stays (drained.StoreFault n) program tries jobs gone runs drains done = absurd cc
none-stays drained.NoMemory program tries jobs gone runs drains done = absurd cc

-- The machine was begun and nothing had happened to it; then its outbox was drained.
pub has-drained : {K P : Type 0} (telling : TellingHooks K P) (config : Config) (hook : Hook)
    (before after : HookParts K P) (machine new : Shown) (answer : Drained) (s : Status) (runs : List Run)
    → IsBegun config (telling.pairs before.keeper) (telling.faults before.keeper) machine.past.start
    → machine.past.history ≡ [] → Moves machine new → IsGood new.past → JobsAreLeft → s ≡ hook_status answer
    → Adds (telling.runs before.spawner) runs (telling.runs after.spawner)
    → Drains answer hook.program hook.tries (hooks_of machine.past.history)
    (jobs_at new.past.start new.past.history) (hooks_of new.past.history) runs
    → HoldsRows (telling.pairs after.keeper) (state_of new.past).rows
    → IfHeld answer (Rose (telling.failed before.spawner) (telling.failed after.spawner))
    → machine.past.start.faults ≤ machine.keeper.faults → telling.faults after.keeper ≡ new.keeper.faults
    → IfStoreFault answer (λ n. RoseTo machine.keeper.faults n × (n ≡ new.keeper.faults))
    → HasDrained telling config hook before after s
has-drained telling config hook before after machine new answer s runs begun nothing moves good law is told drains
    stored held since count fault =
    let start = machine.past.start in
    let ns = moves.more in
    let history : new.past.history ≡ map Hooked ns =
    moves.entries ∙ ap (λ (h : List Entry). h ++ map Hooked ns) nothing in
    let gone : hooks_of new.past.history ≡ ns = ap (λ (h : List Entry). hooks_of h) history ∙ hooks-are ns in
    let jobs : jobs_at new.past.start new.past.history ≡ jobs_in start.rows =
    ap (λ (t : Start). jobs_at t new.past.history) moves.start ∙ ap (λ (h : List Entry). jobs_at start h) history
    ∙ jobs-are start ns begun.sound in
    let rows : (state_of new.past).rows ≡ without_outs ns start.rows =
    ap (λ (t : Start). (state_at t new.past.history).rows) moves.start
    ∙ ap (λ (h : List Entry). (state_at start h).rows) history ∙ rows-are start ns in
    let all : Drains answer hook.program hook.tries [] (jobs_in start.rows) ns runs =
    subst (λ (b : List ℕ). Drains answer hook.program hook.tries b (jobs_in start.rows) ns runs)
    (ap (λ (h : List Entry). hooks_of h) nothing)
    (subst (λ (js : List Job). Drains answer hook.program hook.tries (hooks_of machine.past.history) js ns runs) jobs
    (subst (λ (g : List ℕ). Drains answer hook.program hook.tries (hooks_of machine.past.history)
    (jobs_at new.past.start new.past.history) g runs) gone drains)) in
    record {
      start = start;
      begun = begun;
      answer = answer;
      is = is;
      runs = runs;
      told = told;
      gone = ns;
      drains = all;
      stored = subst (λ (r : Lists). HoldsRows (telling.pairs after.keeper) r) rows stored;
      emptied = λ done.
          let none : jobs_of new.past.start.rows (without_outs ns start.rows).outs ≡ [] =
          sym (ap (λ (r : Lists). jobs_of new.past.start.rows r.outs) rows)
          ∙ sym (law new.past good).left
          ∙ ap (λ (js : List Job). left js (hooks_of new.past.history)) jobs
          ∙ ap (λ (g : List ℕ). left (jobs_in start.rows) g) gone
          ∙ none-stays answer hook.program hook.tries (jobs_in start.rows) ns runs all (sym is ∙ done) in
          subst (λ (r : Lists). HoldsRows (telling.pairs after.keeper) r)
          (rows ∙ emptied ns new.past.start.rows start.rows none) stored;
      held = held;
      fault = fault-told answer (telling.faults before.keeper) machine.keeper.faults new.keeper.faults
          (telling.faults after.keeper) (subst (λ (n : ℕ). n ≤ machine.keeper.faults) begun.count since) count fault;
    }

-- ---- where nothing failed

not-risen : (before now : ℕ) → NotRisen before now → Rose before now → ⊥
not-risen before now still rose = omega (arith, still.0, still.1, rose)

store-drains : (held : Option (List Pair)) (pairs : List Pair) (before now : ℕ) (s : Status) → held ≡ Some pairs
    → (pairs ≢ [] → AreUnbroken pairs) → NotRisen before now → StoreCause held before now s → IsDrainsEnd s
store-drains held pairs before now status.NoMemory told unbroken still cause = tt
store-drains held pairs before now status.StoreFault told unbroken still cause =
    absurd (not-risen before now still cause)
store-drains held pairs before now (status.StoredPair key) told unbroken still cause =
    let broken : (pairs ≢ []) × IsSmallestBroken pairs key =
    subst (λ (h : Option (List Pair)). IfSome h (λ ps. (ps ≢ []) × IsSmallestBroken ps key)) told cause in
    let clash : true ≡ false = sym broken.1.broken ∙ unbroken broken.0 key in
    absurd cc
store-drains held pairs before now _ told unbroken still cause = absurd cause

answer-ends : {K P : Type 0} (telling : TellingHooks K P) (before after : HookParts K P) (answer : Drained)
    → IfHeld answer (Rose (telling.failed before.spawner) (telling.failed after.spawner))
    → IfStoreFault answer
    (λ count. (count ≡ telling.faults after.keeper) × Rose (telling.faults before.keeper) count)
    → DrainsQuietly telling before after → IsDrainsEnd (hook_status answer)
answer-ends telling before after drained.Empty held fault quiet = tt
answer-ends telling before after (drained.Held n) held fault quiet =
    absurd (not-risen (telling.failed before.spawner) (telling.failed after.spawner) quiet.runs held)
answer-ends telling before after (drained.StoreFault n) held fault quiet =
    absurd (not-risen (telling.faults before.keeper) (telling.faults after.keeper) quiet.store
    (subst (λ (c : ℕ). Rose (telling.faults before.keeper) c) fault.0 fault.1))
answer-ends telling before after drained.NoMemory held fault quiet = tt

pub draining-ends : {K P : Type 0} (telling : TellingHooks K P) (config : Config) (hook : Hook)
    (before after : HookParts K P) (s : Status) → RunsHooks telling config hook before after s
    → DrainsQuietly telling before after → IsDrainsEnd s
draining-ends telling config hook before after s ran quiet = elim ran.runs [
  | inl none ↦ store-drains (telling.pairs before.keeper) quiet.pairs (telling.faults before.keeper)
      (telling.faults after.keeper) s quiet.told quiet.unbroken quiet.store none.cause
  | inr drained ↦ subst (λ (x : Status). IsDrainsEnd x) (sym drained.is)
      (answer-ends telling before after drained.answer drained.held drained.fault quiet)
]
