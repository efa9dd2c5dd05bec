-- What runs in order are, in other words: job by job.
use Rattle.std.specs.Prelude.{◌≡◌, ℕ, ◌<◌, ◌≤◌, ◌⊎◌, List, [], ◌∷◌, ◌++◌, length, ⊤}
use Rattle.account_hooks.specs.declared.runs.Ran.{Ran}
use Rattle.account_hooks.specs.Drains.{Job, Run, InOrder, Begins, NoneWell, EndsWell, runs_of}

-- a job, and how its runs ended
pub record Tried : Type 0 where
  pub job : Job
  pub ends : List Ran

-- one run or more, at most so many, none of which ended with 0
pub record FailsSome (tries : ℕ) (ends : List Ran) : Type 0 where
  pub none : NoneWell ends
  pub some : 0 < length ends
  pub few : length ends ≤ tries

-- Each job was run until it ended with 0, within its tries; the last one perhaps in vain.
abbrev pub AllTried : ℕ → List Tried → Type 0
AllTried tries [] = ⊤
AllTried tries (t ∷ []) = EndsWell tries t.ends ⊎ FailsSome tries t.ends
AllTried tries (t ∷ u ∷ ts) = EndsWell tries t.ends × AllTried tries (u ∷ ts)

abbrev pub jobs_tried : List Tried → List Job
jobs_tried [] = []
jobs_tried (t ∷ ts) = t.job ∷ jobs_tried ts

abbrev pub all_runs : List ℕ → List Tried → List Run
all_runs program [] = []
all_runs program (t ∷ ts) = runs_of program t.job t.ends ++ all_runs program ts

-- The runs are those of the first jobs, in order, none left out.
pub record IsMadeFor (jobs : List Job) (program : List ℕ) (tries : ℕ) (runs : List Run) : Type 0 where
  pub tried : List Tried
  pub front : Begins (jobs_tried tried) jobs
  pub runs_are : runs ≡ all_runs program tried
  pub each : AllTried tries tried

-- runs in order are made for the first jobs, in order
abbrev pub OrderIsByJobs : Type 0
OrderIsByJobs =
    (jobs : List Job) (program : List ℕ) (tries : ℕ) (runs : List Run) → InOrder jobs program tries runs
    → IsMadeFor jobs program tries runs
