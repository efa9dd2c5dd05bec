-- What running a program for the changes in the outbox of a store does: the contract of `run_hooks`.
use Rattle.std.specs.Prelude.{◌≡◌, ◌≢◌, ℕ, ◌≤◌, ◌⊎◌, List, [], ◌∷◌, Option, Some, ⊤}
use Rattle.account_hooks.specs.Drains.{Job, Run, Adds, Drains, IfHeld, IfStoreFault}
use Rattle.account_hooks.specs.declared.drains.Drained.{Drained}
use Rattle.account_hooks.specs.declared.drains.Drained.TheVariants as drained
use Rattle.acct_config.specs.declared.config.Config.{Config}
use Rattle.acct_config.specs.declared.config.Hook.{Hook}
use Rattle.acct_keeper.specs.declared.pairs.Pair.{Pair}
use Rattle.acct_keeper.specs.Faults.{Rose, NotRisen}
use Rattle.acct_machine.specs.State.{Start}
use Rattle.acct_machine.specs.Outbox.{HoldsRows}
use Rattle.acct_machine.specs.Jobs.{jobs_of}
use Rattle.acct_rows.specs.PairRules.{AreUnbroken}
use Rattle.acct_rows.specs.Rows.{Lists, remove_row}
use Rattle.acct_tables.specs.declared.row.RowKey.TheVariants as keys
use Rattle.acct_server.specs.Begun.{IsBegun}
use Rattle.acct_server.specs.Leaves.{StoreCause, StoreKept}
use Rattle.acct_server.specs.declared.status.Status.{Status}
use Rattle.acct_server.specs.declared.status.Status.TheVariants.{Done, NoMemory, HookHeld, HookStore}

-- the status of a drain
abbrev pub hook_status : Drained → Status
hook_status drained.Empty = Done
hook_status (drained.Held number) = HookHeld number
hook_status (drained.StoreFault count) = HookStore count
hook_status drained.NoMemory = NoMemory

-- the jobs of the changes in the outbox
abbrev pub jobs_in : Lists → List Job
jobs_in r = jobs_of r r.outs

-- the rows without the changes of these numbers
abbrev pub without_outs : List ℕ → Lists → Lists
without_outs [] r = r
without_outs (n ∷ ns) r = without_outs ns (remove_row (keys.Out n) r)

-- it is done, or memory ran out
abbrev pub IsDrainsEnd : Status → Type 0
IsDrainsEnd Done = ⊤
IsDrainsEnd NoMemory = ⊤
IsDrainsEnd _ = ⊥

-- what a keeper and a spawner tell: the pairs, and the runs, each with its count of faults
pub record TellingHooks (K P : Type 0) : Type 0 where
  pub pairs : K → Option (List Pair)
  pub faults : K → ℕ
  pub runs : P → Option (List Run)
  pub failed : P → ℕ

-- a keeper and a spawner at one time
pub record HookParts (K P : Type 0) : Type 0 where
  pub keeper : K
  pub spawner : P

module _ {K P : Type 0} (telling : TellingHooks K P) where
  -- The store wasn't opened, or there was no memory for a machine: no program was run.
  pub record RunsNone (config : Config) (before after : HookParts K P) (status : Status) : Type 0 where
    pub cause : StoreCause (telling.pairs before.keeper) (telling.faults before.keeper)
        (telling.faults after.keeper) status
    pub kept : StoreKept config (telling.pairs before.keeper) (telling.pairs after.keeper) status
    pub spawner : after.spawner ≡ before.spawner

  -- The outbox of the rows with which the store was opened was drained once, with this hook: the runs are in order for
  -- its changes, those of which a run ended with 0 have gone, except the last one where it couldn't be taken out, and
  -- the keeper has the pairs of the rows without them. Where it is done no change is left, and nothing else has
  -- changed.
  pub record HasDrained (config : Config) (hook : Hook) (before after : HookParts K P) (status : Status) : Type 0 where
    pub start : Start
    pub begun : IsBegun config (telling.pairs before.keeper) (telling.faults before.keeper) start
    pub answer : Drained
    pub is : status ≡ hook_status answer
    pub runs : List Run
    pub told : Adds (telling.runs before.spawner) runs (telling.runs after.spawner)
    pub gone : List ℕ
    pub drains : Drains answer hook.program hook.tries [] (jobs_in start.rows) gone runs
    pub stored : HoldsRows (telling.pairs after.keeper) (without_outs gone start.rows)
    pub emptied : status ≡ Done → HoldsRows (telling.pairs after.keeper) (record start.rows { outs = [] })
    pub held : IfHeld answer (Rose (telling.failed before.spawner) (telling.failed after.spawner))
    pub fault : IfStoreFault answer
        (λ count. (count ≡ telling.faults after.keeper) × Rose (telling.faults before.keeper) count)

  pub record RunsHooks (config : Config) (hook : Hook) (before after : HookParts K P) (status : Status) : Type 0 where
    pub runs : RunsNone config before after status ⊎ HasDrained config hook before after status
    pub store_later : telling.faults before.keeper ≤ telling.faults after.keeper
    pub failed_later : telling.failed before.spawner ≤ telling.failed after.spawner

  -- ---- where nothing fails

  -- The keeper tells its pairs, which break no rule where there are any; neither its count of faults nor that of the
  -- runs that failed rose.
  pub record DrainsQuietly (before after : HookParts K P) : Type 0 where
    pub pairs : List Pair
    pub told : telling.pairs before.keeper ≡ Some pairs
    pub unbroken : pairs ≢ [] → AreUnbroken pairs
    pub store : NotRisen (telling.faults before.keeper) (telling.faults after.keeper)
    pub runs : NotRisen (telling.failed before.spawner) (telling.failed after.spawner)

  abbrev pub HooksAreComplete : Type 0
  HooksAreComplete = (config : Config) (hook : Hook) (before after : HookParts K P) (status : Status)
      → RunsHooks config hook before after status → DrainsQuietly before after → IsDrainsEnd status
