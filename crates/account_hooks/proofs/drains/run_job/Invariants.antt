-- Each run so far didn't end with 0, and the count of failed runs rose.
use Rattle.std.proofs.Common.{◌≡◌, ◌≤◌, ◌<◌, List, length}
use Rattle.acct_keeper.specs.Faults.{Rose}
use Rattle.account_hooks.specs.Drains.{job_of, Adds, NoneWell, runs_of}
use Rattle.account_hooks.specs.declared.runs.Ran.{Ran}
use Rattle.account_hooks.proofs.drains.run_job.Given as goal

abbrev pub invariant-loop : goal.invariant-loop
invariant-loop g l =
    ((ends : List Ran) × NoneWell ends × (length ends ≡ l.counter)
    × Adds (g.P.Spawner.runs l.initial.spawner) (runs_of l.program (job_of l.job) ends) (g.P.Spawner.runs l.spawner))
    × (0 < l.counter → Rose (g.P.Spawner.failed l.initial.spawner) (g.P.Spawner.failed l.spawner))
    × (g.P.Spawner.failed l.initial.spawner ≤ g.P.Spawner.failed l.spawner)
