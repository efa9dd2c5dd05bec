-- The contract of serving with a hook: all that serving promises, and what the program was run for beside it.
use Rattle.std.specs.Prelude.{◌≡◌, ℕ, ◌<◌, ◌≤◌, ◌⊎◌, List, [], Some, None, IsSome, ⊤}
use Rattle.account_hooks.specs.Drains.{IfStoreFault}
use Rattle.account_hooks.specs.declared.drains.Drained.{Drained}
use Rattle.account_hooks.specs.declared.drains.Drained.TheVariants as drained
use Rattle.account_hooks.specs.declared.runs.Spawner.{Ghosts}
use Rattle.acct_config.specs.declared.config.Config.{Config}
use Rattle.acct_config.specs.declared.config.Hook.{Hook}
use Rattle.acct_keeper.specs.Faults.{NotRisen}
use Rattle.acct_machine.specs.Outbox.{least_out}
use Rattle.acct_machine.specs.Step.{state_at}
use Rattle.acct_rows.specs.Rows.{Lists}
use Rattle.door_workers.specs.Hooking as hooking
use Rattle.door_workers.specs.declared.ends.DoorEnd.{DoorEnd}
use Rattle.door_workers.specs.declared.ends.DoorEnd.TheVariants as stop
use Rattle.acct_server.specs.Serving.{ServesQuietly, IsComplete, TellingDoors, HasNotServed, HasServedDoors, IsServe}
use Rattle.acct_server.specs.Serving.{served_status}
use Rattle.acct_server.specs.Headlines.{ServeComesTo}
use Rattle.acct_server.specs.declared.serving.Served.{Served}
use Rattle.acct_server.specs.declared.status.Status.{Status}
use Rattle.acct_server.specs.declared.status.Status.TheVariants.{Done, NoMemory, DoorFault, HistoryFull, HookHeld}
use Rattle.acct_server.specs.declared.status.Status.TheVariants.{HookStore}

-- ---- statuses

-- how the doors ended, and where all of them are closed this status
abbrev pub after_doors : DoorEnd → Status → Status
after_doors stop.Closed status = status
after_doors stop.Failed status = DoorFault
after_doors (stop.Full n) status = HistoryFull n
after_doors stop.NoMemory status = NoMemory

-- The status, by how the doors and the drains ended: out of memory stands before a full history, that before a failed
-- door, and that before a drain that stopped before its end.
abbrev pub status_beside : DoorEnd → Drained → Status
status_beside end drained.NoMemory = NoMemory
status_beside end drained.Empty = after_doors end Done
status_beside end (drained.Held number) = after_doors end (HookHeld number)
status_beside end (drained.StoreFault count) = after_doors end (HookStore count)

-- A count of faults is told only where the keeper's, once it is back, has come to it; else it is as if memory had run
-- out.
abbrev pub Settles : ℕ → Drained → Drained → Type 0
Settles faults (drained.StoreFault count) told =
    ((count ≤ faults) × (told ≡ drained.StoreFault count)) ⊎ ((faults < count) × (told ≡ drained.NoMemory))
Settles faults drained.Empty told = told ≡ drained.Empty
Settles faults (drained.Held number) told = told ≡ drained.Held number
Settles faults drained.NoMemory told = told ≡ drained.NoMemory

-- ---- the outbox

-- What is left in the outbox: nothing; or first the change for which the program failed, or the one that couldn't be
-- taken out.
abbrev pub LeavesOuts : Drained → Lists → Type 0
LeavesOuts drained.Empty r = r.outs ≡ []
LeavesOuts (drained.Held number) r = least_out r ≡ Some number
LeavesOuts (drained.StoreFault count) r = IsSome (least_out r)
LeavesOuts drained.NoMemory r = ⊤

-- ---- serving

-- what doors, their links and the keeper tell, and what runs programs
pub record TellingBeside (D L K P : Type 0) : Type 1 where
  pub serving : TellingDoors D L K
  pub spawner : Ghosts P

module _ {D L K P : Type 0} (telling : TellingBeside D L K P) where
  -- The doors were served, as serving serves them but for the status. Over the whole history the runs are in order for
  -- its changes, those of which a run ended with 0 were taken out, except the last one where it couldn't be, and the
  -- drains ended so.
  pub record HasServedBeside (config : Config) (hook : Hook) (before now : List D) (keeper : K) (spawner : P)
      (left : Served K) (after : P) : Type 0 where
    pub outcome : DoorEnd
    pub serves : HasServedDoors telling.serving config before now keeper
        (record left { status = served_status outcome })
    pub answer : Drained
    pub status : left.status ≡ status_beside outcome answer
    pub drains : hooking.HasDrained telling.spawner hook serves.start spawner after left.history (Some answer)
    pub fault : IfStoreFault answer (λ count. count ≤ telling.serving.faults left.keeper)
    pub outs : LeavesOuts answer (state_at serves.start left.history).rows

  -- No door was served, and no program was run.
  pub record ServesNoneBeside (config : Config) (before now : List D) (keeper : K) (spawner : P) (left : Served K)
      (after : P) : Type 0 where
    pub serves : HasNotServed telling.serving config before now keeper left
    pub spawner_same : after ≡ spawner

  pub record IsServeBeside (config : Config) (hook : Hook) (before now : List D) (keeper : K) (spawner : P)
      (left : Served K) (after : P) : Type 0 where
    pub leaves : ServesNoneBeside config before now keeper spawner left after
        ⊎ HasServedBeside config hook before now keeper spawner left after
    pub later : telling.serving.faults keeper ≤ telling.serving.faults left.keeper
    pub failed_later : telling.spawner.failed spawner ≤ telling.spawner.failed after

  -- ---- laws

  -- What serving promises, of another status where doors were served.
  pub record ServesBut (config : Config) (before now : List D) (keeper : K) (left : Served K) : Type 0 where
    pub status : Status
    pub serves : IsServe telling.serving config before now keeper (record left { status = status })
    pub unserved : left.opening ≡ None → status ≡ left.status

  abbrev pub ServesAsWell : Type 0
  ServesAsWell =
      (config : Config) (hook : Hook) (before now : List D) (keeper : K) (spawner : P) (left : Served K) (after : P)
      → IsServeBeside config hook before now keeper spawner left after → ServesBut config before now keeper left

  -- and so the headline
  abbrev pub ServeBesideGivesHeadline : Type 0
  ServeBesideGivesHeadline =
      (config : Config) (hook : Hook) (before now : List D) (keeper : K) (spawner : P) (left : Served K) (after : P)
      → IsServeBeside config hook before now keeper spawner left after → IsSome left.opening
      → ServeComesTo telling.serving config before now keeper left

  -- where nothing of the store, of the doors and of the runs failed, it comes to its end
  abbrev pub ServingBesideIsComplete : Type 0
  ServingBesideIsComplete =
      (config : Config) (hook : Hook) (before now : List D) (keeper : K) (spawner : P) (left : Served K) (after : P)
      → IsServeBeside config hook before now keeper spawner left after
      → ServesQuietly telling.serving before now keeper left
      → NotRisen (telling.spawner.failed spawner) (telling.spawner.failed after)
      → IsComplete left.history left.status
