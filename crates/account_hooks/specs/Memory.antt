-- The runs that a spawner in memory tells, and how they end; and the jobs of a gate in memory.
use Rattle.std.specs.Prelude.{◌≡◌, ℕ, zero, suc, ◌+◌, ◌==◌, Bool, true, false, List, [], ◌∷◌, map, take, drop}
use Rattle.std.specs.Prelude.{string_bytes, Option, Some, None, option_map, slice_get, Vec, refl}
use Rattle.std.proofs.Common.{ap}
use Rattle.acct_keeper.specs.Faults.{one_more}
use Rattle.acct_keeper.specs.Memory.{is_among}
use Rattle.account_hooks.specs.Drains.{Job, Run, job_of, Begins, numbers}
use Rattle.account_hooks.specs.declared.runs.Ran.{Ran}
use Rattle.account_hooks.specs.declared.runs.Ran.TheVariants.{Exited}
use Rattle.account_hooks.specs.declared.gate.HookedEnd.{HookedEnd}
use Rattle.account_hooks.specs.declared.gate.HookedEnd.TheVariants as hooked
use Rattle.account_hooks.specs.declared.memory.MadeRun.{MadeRun}
use Rattle.account_hooks.specs.declared.memory.MemorySpawner.{MemorySpawner}
use Rattle.account_hooks.specs.declared.memory_gate.MemoryGate.{MemoryGate}
use Rattle.std.specs.declared.alloc.Global.{Global}

-- ---- spawners

abbrev pub seen_run : MadeRun → Run
seen_run made = record {
  program = string_bytes made.program;
  arguments = map string_bytes made.arguments.items;
  ended = made.ended;
}

abbrev pub seen_runs : Option (Vec MadeRun Global) → Option (List Run)
seen_runs made = option_map (λ v. map seen_run v.items) made

-- the ends that are still to come
abbrev pub to_come : MemorySpawner → List Ran
to_come spawner = drop spawner.used spawner.ends.items

-- The first of the ends that are listed comes next, and leaves the list; once none is left, 0 does.
abbrev pub EndsNext : List Ran → Ran → List Ran → Type 0
EndsNext [] ended later = (ended ≡ Exited 0) × (later ≡ [])
EndsNext (end ∷ ends) ended later = (ended ≡ end) × (later ≡ ends)

-- ---- gates

-- the jobs that a gate in memory was given, and the numbers of those that left: the first ones
abbrev pub jobs_in : MemoryGate → List Job
jobs_in gate = map job_of gate.jobs.items

abbrev pub gone_in : MemoryGate → List ℕ
gone_in gate = numbers (take gate.gone (jobs_in gate))

-- the number of the first job that is left, if one is, and whether it is this one
abbrev pub first_in : MemoryGate → Option ℕ
first_in gate = slice_get (numbers (jobs_in gate)) gate.gone

abbrev pub is_first : ℕ → Option ℕ → Bool
is_first number None = false
is_first number (Some first) = first == number

-- What a number that is to leave does. Where it isn't the first one's, nothing changes. Else the taking out has the next
-- number, and fails exactly where that is one of those that fail.
abbrev pub fails_next : MemoryGate → Bool
fails_next gate = is_among gate.failing.items (one_more gate.takes)

abbrev pub TakesOut : HookedEnd → MemoryGate → MemoryGate → Type 0
TakesOut (hooked.Past n) old new = new ≡ old
TakesOut hooked.Done old new =
    (fails_next old ≡ false) × (new ≡ record old { takes = one_more old.takes; gone = old.gone + 1 })
TakesOut (hooked.StoreFault n) old new =
    (fails_next old ≡ true)
    × (new ≡ record old { takes = one_more old.takes; store_faults = one_more old.store_faults })
TakesOut hooked.NoMemory old new = ⊥

-- the numbers of the first jobs begin those of all
pub begins-taken : (jobs : List Job) (n : ℕ) → Begins (numbers (take n jobs)) (numbers jobs)
begins-taken [] zero = ([], refl)
begins-taken [] (suc n) = ([], refl)
begins-taken (job ∷ jobs) zero = (numbers (job ∷ jobs), refl)
begins-taken (job ∷ jobs) (suc n) =
    let later = begins-taken jobs n in
    (later.0, ap (λ l. job.number ∷ l) later.1)
