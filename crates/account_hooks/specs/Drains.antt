-- How the outbox is drained: the runs of the hook's program, the out rows, and what a drain does.
use Rattle.std.specs.Prelude.{◌≡◌, ℕ, ◌-◌, ◌<◌, ◌==◌, Bool, false, List, [], ◌∷◌, ◌++◌, MatchBool, cond, Option, Some}
use Rattle.std.specs.Prelude.{None, ⊤, map, string_bytes, length, drop, true, ◌⊎◌}
use Rattle.account_hooks.specs.declared.drains.Drained.{Drained}
use Rattle.account_hooks.specs.declared.drains.Drained.TheVariants as drained
use Rattle.account_hooks.specs.declared.gate.HookedEnd.{HookedEnd}
use Rattle.account_hooks.specs.declared.gate.HookedEnd.TheVariants as hooked
use Rattle.account_hooks.specs.declared.runs.HookJob.{HookJob}
use Rattle.account_hooks.specs.declared.runs.Ran.{Ran}
use Rattle.account_hooks.specs.declared.runs.Ran.TheVariants.{Exited, Failed}

-- ======== runs of the hook's program for out rows, in order

-- what the program is run for: the number of an out row, and the arguments
pub record Job : Type 0 where
  pub number : ℕ
  pub arguments : List (List ℕ)

-- a run of a program, and how it ended
pub record Run : Type 0 where
  pub program : List ℕ
  pub arguments : List (List ℕ)
  pub ended : Ran

abbrev pub job_of : HookJob → Job
job_of job = record { number = job.number; arguments = map string_bytes job.arguments.items }

-- it ended with 0
abbrev pub ended_well : Ran → Bool
ended_well (Exited code) = code == 0
ended_well Failed = false

-- The jobs are run in order. Where the first may be run so many times: each run is the program's, with the arguments of
-- the first job; after one that ended with 0 the next job is the first, and after another one the same, with a time
-- less.
abbrev pub Follows : List ℕ → ℕ → ℕ → List Job → List Run → Type 0
Follows program tries times jobs [] = ⊤
Follows program tries times [] (run ∷ runs) = ⊥
Follows program tries times (job ∷ jobs) (run ∷ runs) =
    (0 < times) × (run.program ≡ program) × (run.arguments ≡ job.arguments)
    × MatchBool (ended_well run.ended) (Follows program tries tries jobs runs)
    (Follows program tries (times - 1) (job ∷ jobs) runs)

-- each job may be run so many times
abbrev pub InOrder : List Job → List ℕ → ℕ → List Run → Type 0
InOrder jobs program tries runs = Follows program tries tries jobs runs

-- the numbers of the jobs of which a run ended with 0, where the runs are in order
abbrev pub ended : List Job → List Run → List ℕ
ended jobs [] = []
ended [] (run ∷ runs) = []
ended (job ∷ jobs) (run ∷ runs) =
    cond (ended_well run.ended) (job.number ∷ ended jobs runs) (ended (job ∷ jobs) runs)

-- These runs were told after the others, or it tells no longer.
abbrev pub Adds : Option (List Run) → List Run → Option (List Run) → Type 0
Adds told more None = ⊤
Adds None more (Some now) = ⊥
Adds (Some old) more (Some now) = now ≡ old ++ more

-- ======== the out rows that a gate knows of, as the jobs that they are run as, and those of them that have left

-- the first list begins the second
abbrev pub Begins : {A : Type 0} → List A → List A → Type 0
Begins {A} xs ys = (rest : List A) × (ys ≡ xs ++ rest)

abbrev pub numbers : List Job → List ℕ
numbers jobs = map (λ job. job.number) jobs

-- the jobs that haven't left: those after as many as have left
abbrev pub left : List Job → List ℕ → List Job
left jobs gone = drop (length gone) jobs

-- this job is the first of those that haven't left
abbrev pub IsNext : List Job → List ℕ → Job → Type 0
IsNext jobs gone job = (rest : List Job) × (left jobs gone ≡ job ∷ rest)

-- the first job that hasn't left, where there is one
abbrev pub IsFirstLeft : List Job → List ℕ → Option HookJob → Type 0
IsFirstLeft jobs gone (Some job) = IsNext jobs gone (job_of job)
IsFirstLeft jobs gone None = left jobs gone ≡ []

-- the numbers that have left, before and after one was to leave
abbrev pub LeavesBy : HookedEnd → ℕ → List ℕ → List ℕ → Type 0
LeavesBy hooked.Done number before after = after ≡ before ++ number ∷ []
LeavesBy (hooked.Past n) number before after = after ≡ before
LeavesBy (hooked.StoreFault n) number before after = after ≡ before
LeavesBy hooked.NoMemory number before after = after ≡ before

abbrev pub IfPast : HookedEnd → Type 0 → Type 0
IfPast (hooked.Past n) P = P
IfPast _ P = ⊤

abbrev pub IfFault : HookedEnd → (ℕ → Type 0) → Type 0
IfFault (hooked.StoreFault n) P = P n
IfFault _ P = ⊤

-- ======== what a drain does: which runs it makes, and which numbers leave

-- ---- the runs of one job

abbrev pub run_of : List ℕ → Job → Ran → Run
run_of program job end = record { program = program; arguments = job.arguments; ended = end }

-- the runs of a job that ended so
abbrev pub runs_of : List ℕ → Job → List Ran → List Run
runs_of program job ends = map (run_of program job) ends

-- none of the runs ended with 0
abbrev pub NoneWell : List Ran → Type 0
NoneWell [] = ⊤
NoneWell (end ∷ ends) = (ended_well end ≡ false) × NoneWell ends

-- some runs, none of which ended with 0, and after them one that did, within so many tries
pub record EndsWell (tries : ℕ) (ends : List Ran) : Type 0 where
  pub failed : List Ran
  pub last : Ran
  pub is : ends ≡ failed ++ last ∷ []
  pub none : NoneWell failed
  pub well : ended_well last ≡ true
  pub few : length failed < tries

-- as many runs as there are tries, none of which ended with 0
pub record FailsAll (tries : ℕ) (ends : List Ran) : Type 0 where
  pub none : NoneWell ends
  pub all : length ends ≡ tries

-- whether a job was run until it ended with 0
abbrev pub TriedAs : Bool → ℕ → List Ran → Type 0
TriedAs true tries ends = EndsWell tries ends
TriedAs false tries ends = FailsAll tries ends

-- ---- drains

-- how many times the job at hand may be run after these runs, where it might be run so many times before
abbrev pub times_left : ℕ → ℕ → List Run → ℕ
times_left tries times [] = times
times_left tries times (run ∷ runs) =
    cond (ended_well run.ended) (times_left tries tries runs) (times_left tries (times - 1) runs)

-- Between two jobs: the runs so far are in order, the numbers that left since are those of which a run ended with 0, and
-- the next job has all its tries.
pub record IsDraining (program : List ℕ) (tries : ℕ) (before : List ℕ) (jobs : List Job) (gone : List ℕ)
    (runs : List Run) : Type 0 where
  pub in_order : InOrder (left jobs before) program tries runs
  pub all : gone ≡ before ++ ended (left jobs before) runs
  pub rests : times_left tries tries runs ≡ tries
  pub first : Begins before (numbers jobs)

-- The last runs are those of this job.
pub record LastTried (program : List ℕ) (job : Job) (runs : List Run) (ends : List Ran) : Type 0 where
  pub earlier : List Run
  pub is : runs ≡ earlier ++ runs_of program job ends

-- The last job was run as many times as it may be, each in vain, and hasn't left; it has this number.
pub record HoldsAt (program : List ℕ) (tries : ℕ) (before : List ℕ) (jobs : List Job) (gone : List ℕ)
    (runs : List Run) (number : ℕ) : Type 0 where
  pub job : Job
  pub next : IsNext jobs gone job
  pub is : job.number ≡ number
  pub all : gone ≡ before ++ ended (left jobs before) runs
  pub ends : List Ran
  pub fails : FailsAll tries ends
  pub last : LastTried program job runs ends

-- A run of the last job ended with 0, but it hasn't left.
pub record StaysAt (program : List ℕ) (tries : ℕ) (before : List ℕ) (jobs : List Job) (gone : List ℕ)
    (runs : List Run) : Type 0 where
  pub job : Job
  pub next : IsNext jobs gone job
  pub but_last : gone ++ job.number ∷ [] ≡ before ++ ended (left jobs before) runs
  pub ends : List Ran
  pub well : EndsWell tries ends
  pub last : LastTried program job runs ends

-- where a drain stopped
abbrev pub StopsBy : Drained → List ℕ → ℕ → List ℕ → List Job → List ℕ → List Run → Type 0
StopsBy drained.Empty program tries before jobs gone runs =
    IsDraining program tries before jobs gone runs × (left jobs gone ≡ [])
StopsBy (drained.Held n) program tries before jobs gone runs = HoldsAt program tries before jobs gone runs n
StopsBy (drained.StoreFault n) program tries before jobs gone runs = StaysAt program tries before jobs gone runs
StopsBy drained.NoMemory program tries before jobs gone runs =
    IsDraining program tries before jobs gone runs ⊎ StaysAt program tries before jobs gone runs

-- Before a drain these numbers had left, and then others; `jobs` are those of all out rows that are known after it. The
-- runs are in order for the jobs that hadn't left, and it stopped so.
pub record Drains (answer : Drained) (program : List ℕ) (tries : ℕ) (before : List ℕ) (jobs : List Job)
    (gone : List ℕ) (runs : List Run) : Type 0 where
  pub in_order : InOrder (left jobs before) program tries runs
  pub stops : StopsBy answer program tries before jobs gone runs

abbrev pub IfHeld : Drained → Type 0 → Type 0
IfHeld (drained.Held n) P = P
IfHeld _ P = ⊤

abbrev pub IfStoreFault : Drained → (ℕ → Type 0) → Type 0
IfStoreFault (drained.StoreFault n) P = P n
IfStoreFault _ P = ⊤

abbrev pub IfNoMemory : Drained → Type 0 → Type 0
IfNoMemory drained.NoMemory P = P
IfNoMemory _ P = ⊤

-- after one job or more: the drain goes on, or stopped
abbrev pub GoesTo : Option Drained → List ℕ → ℕ → List ℕ → List Job → List ℕ → List Run → Type 0
GoesTo None program tries before jobs gone runs = IsDraining program tries before jobs gone runs
GoesTo (Some answer) program tries before jobs gone runs = Drains answer program tries before jobs gone runs
