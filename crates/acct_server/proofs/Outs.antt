-- What is left in the outbox after drains beside serving, and how that ends.
use Rattle.std.proofs.Common.{◌≡◌, ℕ, ◌<◌, ◌≤◌, inl, inr, true, List, [], ◌∷◌, Option, Some, IfSome, IsSome}
use Rattle.std.proofs.Common.{refl, sym, ap, ◌∙◌, subst, arith}
use Rattle.std.specs.Prelude.{is_some}
use Rattle.account_hooks.specs.Drains.{Drains, IfHeld, IfStoreFault, Job, Run}
use Rattle.account_hooks.specs.declared.drains.Drained.{Drained}
use Rattle.account_hooks.specs.declared.drains.Drained.TheVariants as drained
use Rattle.account_hooks.specs.declared.runs.Spawner.{Ghosts}
use Rattle.acct_config.specs.Spelled.{IsRightConfig, IsRightHook}
use Rattle.acct_config.specs.declared.config.Config.{Config}
use Rattle.acct_config.specs.declared.config.Hook.{Hook}
use Rattle.acct_keeper.specs.Faults.{Rose, NotRisen}
use Rattle.acct_machine.specs.Gates.{IsGood, JobsAreLeft, RoseTo}
use Rattle.acct_machine.specs.Jobs.{job_of_out, jobs_of, jobs_at}
use Rattle.acct_machine.specs.Outbox.{has_hook, least_in}
use Rattle.acct_machine.specs.Outs.{hooks_of}
use Rattle.acct_machine.specs.State.{Start}
use Rattle.acct_machine.specs.Step.{state_at}
use Rattle.acct_machine.specs.declared.entry.Entry.{Entry}
use Rattle.acct_rows.specs.Rows.{Lists}
use Rattle.acct_tables.specs.declared.row.OutRow.{OutRow}
use Rattle.door_workers.specs.Hooking.{HasDrained}
use Rattle.door_workers.specs.declared.ends.DoorEnd.{DoorEnd}
use Rattle.door_workers.specs.declared.ends.DoorEnd.TheVariants as stop
use Rattle.link_sessions.specs.Turns.{shown}
use Rattle.acct_server.specs.Beside.{Settles, LeavesOuts, status_beside}
use Rattle.acct_server.specs.Serving.{IsServingsEnd, served_status}

-- ---- the hook of a right configuration

pub hook-tried : (config : Config) (hook : Hook) → IsRightConfig config → config.hook ≡ Some hook → 0 < hook.tries
hook-tried config hook right is =
    let by : IsRightHook hook = subst (λ (h : Option Hook). IfSome h IsRightHook) is right.hook in by.tried

pub hook-there : (config under : Config) (hook : Hook) → under ≡ config → config.hook ≡ Some hook
    → has_hook under ≡ true
hook-there config under hook same is =
    ap (λ (x : Config). has_hook x) same ∙ ap (λ (h : Option Hook). is_some h) is

-- ---- the count of faults

module _ {P : Type 0} (spawner : Ghosts P) (hook : Hook) (start : Start) (before now : P) (known : List Entry) where
  cut : (count : ℕ) → HasDrained spawner hook start before now known (Some (drained.StoreFault count))
      → HasDrained spawner hook start before now known (Some drained.NoMemory)
  cut count d = record {
    runs = d.runs;
    told = d.told;
    drains = record { in_order = d.drains.in_order; stops = inr d.drains.stops };
    held = tt;
    fault = tt;
    later = d.later;
  }

  pub settled-drained : (faults : ℕ) (answer told : Drained) → Settles faults answer told
      → HasDrained spawner hook start before now known (Some answer)
      → HasDrained spawner hook start before now known (Some told)
  settled-drained faults drained.Empty told is d =
      subst (λ (a : Drained). HasDrained spawner hook start before now known (Some a)) (sym is) d
  settled-drained faults (drained.Held n) told is d =
      subst (λ (a : Drained). HasDrained spawner hook start before now known (Some a)) (sym is) d
  settled-drained faults (drained.StoreFault n) told (inl is) d =
      subst (λ (a : Drained). HasDrained spawner hook start before now known (Some a)) (sym is.1) d
  settled-drained faults (drained.StoreFault n) told (inr is) d =
      subst (λ (a : Drained). HasDrained spawner hook start before now known (Some a)) (sym is.1) (cut n d)
  settled-drained faults drained.NoMemory told is d =
      subst (λ (a : Drained). HasDrained spawner hook start before now known (Some a)) (sym is) d

pub settled-fault : (faults : ℕ) (answer told : Drained) → Settles faults answer told
    → IfStoreFault told (λ count. count ≤ faults)
settled-fault faults drained.Empty told is =
    subst (λ (a : Drained). IfStoreFault a (λ count. count ≤ faults)) (sym is) tt
settled-fault faults (drained.Held n) told is =
    subst (λ (a : Drained). IfStoreFault a (λ count. count ≤ faults)) (sym is) tt
settled-fault faults (drained.StoreFault n) told (inl is) =
    subst (λ (a : Drained). IfStoreFault a (λ count. count ≤ faults)) (sym is.1) is.0
settled-fault faults (drained.StoreFault n) told (inr is) =
    subst (λ (a : Drained). IfStoreFault a (λ count. count ≤ faults)) (sym is.1) tt
settled-fault faults drained.NoMemory told is =
    subst (λ (a : Drained). IfStoreFault a (λ count. count ≤ faults)) (sym is) tt

-- ---- the outbox

none-left : (r : Lists) (os : List OutRow) → jobs_of r os ≡ [] → os ≡ []
none-left r [] is = refl
none-left r (o ∷ os) is = absurd cc

least-of : (r : Lists) (os : List OutRow) (job : Job) (rest : List Job) (number : ℕ) → jobs_of r os ≡ job ∷ rest
    → job.number ≡ number → least_in os ≡ Some number
least-of r [] job rest number is same = absurd cc
least-of r (o ∷ os) job rest number is same =
    let first : job_of_out r o ≡ job = cc in
    ap (λ (n : ℕ). Some n) (ap (λ (j : Job). j.number) first ∙ same)

some-is : {A : Type 0} (o : Option A) (a : A) → o ≡ Some a → IsSome o
some-is o a is = subst (λ x. IsSome x) (sym is) refl

pub leaves-outs : JobsAreLeft → (start : Start) (history : List Entry) → IsGood (shown start history)
    → (program : List ℕ) (tries : ℕ) (runs : List Run) (answer : Drained)
    → Drains answer program tries [] (jobs_at start history) (hooks_of history) runs
    → LeavesOuts answer (state_at start history).rows
leaves-outs law start history good program tries runs drained.Empty drains =
    none-left start.rows (state_at start history).rows.outs
    (sym (law (shown start history) good).left ∙ drains.stops.1)
leaves-outs law start history good program tries runs (drained.Held n) drains =
    least-of start.rows (state_at start history).rows.outs drains.stops.job drains.stops.next.0 n
    (sym (law (shown start history) good).left ∙ drains.stops.next.1) drains.stops.is
leaves-outs law start history good program tries runs (drained.StoreFault n) drains =
    some-is (least_in (state_at start history).rows.outs) drains.stops.job.number
    (least-of start.rows (state_at start history).rows.outs drains.stops.job drains.stops.next.0
    drains.stops.job.number (sym (law (shown start history) good).left ∙ drains.stops.next.1) refl)
leaves-outs law start history good program tries runs drained.NoMemory drains = tt

-- ---- where nothing failed

not-risen : (before now : ℕ) → NotRisen before now → Rose before now → ⊥
not-risen before now still rose = omega (arith, still.0, still.1, rose)

never-rose : (before since now count : ℕ) → since ≡ before → NotRisen before now → RoseTo since count → count ≤ now → ⊥
never-rose before since now count same still rose few =
    let a = rose.since in
    let b = rose.rose in
    not-risen before now still (omega (arith, same, a, b, few))

doors-end : (end : DoorEnd) → status_beside end drained.Empty ≡ served_status end
doors-end stop.Closed = refl
doors-end stop.Failed = refl
doors-end (stop.Full n) = refl
doors-end stop.NoMemory = refl

pub beside-ends : (end : DoorEnd) (answer : Drained) (failed now before since after : ℕ) → since ≡ before
    → NotRisen failed now → NotRisen before after → IfHeld answer (Rose failed now)
    → IfStoreFault answer (RoseTo since) → IfStoreFault answer (λ count. count ≤ after)
    → IsServingsEnd (served_status end) → IsServingsEnd (status_beside end answer)
beside-ends end drained.Empty failed now before since after same still quiet held fault few ends =
    subst (λ s. IsServingsEnd s) (sym (doors-end end)) ends
beside-ends end (drained.Held n) failed now before since after same still quiet held fault few ends =
    absurd (not-risen failed now still held)
beside-ends end (drained.StoreFault n) failed now before since after same still quiet held fault few ends =
    absurd (never-rose before since after n same quiet fault few)
beside-ends end drained.NoMemory failed now before since after same still quiet held fault few ends = tt
