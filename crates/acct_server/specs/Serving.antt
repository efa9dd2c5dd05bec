-- The contract of serving, and that it is complete.
use Rattle.std.specs.Prelude.{◌≡◌, ℕ, ◌≤◌, ◌⊎◌, List, [], Option, Some, None, ◌≢◌, ◌<◌, ◌∷◌, ◌++◌, length}
use Rattle.std.specs.Prelude.{slice_index_or, ⊤}
use Rattle.acct_calls.specs.declared.calls.Call.{Call}
use Rattle.acct_config.specs.declared.config.Config.{Config}
use Rattle.acct_keeper.specs.Faults.{NotRisen}
use Rattle.acct_keeper.specs.declared.pairs.Pair.{Pair}
use Rattle.acct_rows.specs.PairRules.{AreUnbroken}
use Rattle.acct_machine.specs.State.{Start}
use Rattle.acct_machine.specs.Step.{state_at}
use Rattle.acct_machine.specs.Outbox.{HoldsRows, AreCounted}
use Rattle.acct_machine.specs.declared.entry.Entry.{Entry}
use Rattle.acct_machine.specs.declared.entry.Entry.TheVariants.{Called}
use Rattle.acct_machine.specs.declared.entry.Verdict.TheVariants.{StoreFault}
use Rattle.acct_links.specs.Links.{Told}
use Rattle.acct_links.specs.declared.doors.Door.{Ghosts}
use Rattle.door_workers.specs.Doors.{IsServed}
use Rattle.door_workers.specs.declared.ends.DoorEnd.{DoorEnd}
use Rattle.door_workers.specs.declared.ends.DoorEnd.TheVariants as stop
use Rattle.acct_server.specs.Begun.{IsBegun, DeniesExactlyIn}
use Rattle.acct_server.specs.Leaves.{StoreCause, StoreKept}
use Rattle.acct_server.specs.Replaying.{lists_in}
use Rattle.acct_server.specs.declared.serving.Served.{Served}
use Rattle.acct_server.specs.declared.status.Status.{Status}
use Rattle.acct_server.specs.declared.status.Status.TheVariants.{Done, NoMemory, DoorFault, HistoryFull}

-- ======== the contract of serving, by the doors and the keeper before and after it, and what it leaves

-- the status of serving, by how it ended
abbrev pub served_status : DoorEnd → Status
served_status stop.Closed = Done
served_status stop.Failed = DoorFault
served_status (stop.Full n) = HistoryFull n
served_status stop.NoMemory = NoMemory

-- what doors, their links and the keeper tell
pub record TellingDoors (D L K : Type 0) : Type 1 where
  pub door : Ghosts D L
  pub told : L → Told
  pub pairs : K → Option (List Pair)
  pub faults : K → ℕ

-- The store wasn't opened, or no machine was made: no link was taken, nothing has happened, and the keeper holds what
-- it held, or what it holds once it is opened where memory ran out after that.
pub record HasNotServed {D L K : Type 0} (telling : TellingDoors D L K) (config : Config) (before now : List D)
    (keeper : K)
    (left : Served K) : Type 0 where
  pub opening : left.opening ≡ None
  pub nothing : left.history ≡ []
  pub rows : left.rows ≡ None
  pub ends : left.ends ≡ []
  pub doors : now ≡ before
  pub cause : StoreCause (telling.pairs keeper) (telling.faults keeper) (telling.faults left.keeper) left.status
  pub kept : StoreKept config (telling.pairs keeper) (telling.pairs left.keeper) left.status

-- The doors were served, on a machine under the configuration, from the rows whose pairs the keeper held, or the seed
-- rows where it held none. The history is legal, and access is denied there exactly where a grant or an opening's check
-- lacks a bit. The keeper holds the pairs of the rows after it, and its count has risen by one at each commit that
-- failed in it, and at nothing else.
pub record HasServedDoors {D L K : Type 0} (telling : TellingDoors D L K) (config : Config) (before now : List D)
    (keeper : K) (left : Served K) : Type 0 where
  pub start : Start
  pub begun : IsBegun config (telling.pairs keeper) (telling.faults keeper) start
  pub outcome : DoorEnd
  pub status : left.status ≡ served_status outcome
  pub served : IsServed telling.door telling.told start config.limits.max_read before now left.history outcome
      left.ends
  pub opening : lists_in left.opening ≡ Some start.rows
  pub rows : lists_in left.rows ≡ Some (state_at start left.history).rows
  pub denies : DeniesExactlyIn start left.history
  pub stored : HoldsRows (telling.pairs left.keeper) (state_at start left.history).rows
  pub counts : AreCounted (telling.faults left.keeper) start left.history

pub record IsServe {D L K : Type 0} (telling : TellingDoors D L K) (config : Config) (before now : List D) (keeper : K)
    (left : Served K) : Type 0 where
  pub leaves : HasNotServed telling config before now keeper left
      ⊎ HasServedDoors telling config before now keeper left
  pub later : telling.faults keeper ≤ telling.faults left.keeper

-- ======== that serving is complete: where the store can be opened and nothing of it and of the doors failed, it comes
-- to its end

-- The keeper tells its pairs, which break no rule where there are any; and neither its count of faults rose nor that of
-- a door.
pub record ServesQuietly {D L K : Type 0} (telling : TellingDoors D L K) (before now : List D) (keeper : K)
    (left : Served K) : Type 0 where
  pub pairs : List Pair
  pub told : telling.pairs keeper ≡ Some pairs
  pub unbroken : pairs ≢ [] → AreUnbroken pairs
  pub store : NotRisen (telling.faults keeper) (telling.faults left.keeper)
  pub doors : (i : ℕ) (d e : D) → i < length now
      → NotRisen (telling.door.faults (slice_index_or before i d)) (telling.door.faults (slice_index_or now i e))

-- it is done, or the history was full, or memory ran out
abbrev pub IsServingsEnd : Status → Type 0
IsServingsEnd Done = ⊤
IsServingsEnd NoMemory = ⊤
IsServingsEnd (HistoryFull n) = ⊤
IsServingsEnd _ = ⊥

-- no commit failed in the history
abbrev pub CommitsAll : List Entry → Type 0
CommitsAll history =
    (before after : List Entry) (conn : ℕ) (call : Call) (n bytes : ℕ)
    → history ≡ before ++ Called conn call (StoreFault n) bytes ∷ after → ⊥

pub record IsComplete (history : List Entry) (status : Status) : Type 0 where
  pub ends : IsServingsEnd status
  pub commits : CommitsAll history

abbrev pub ServingIsComplete : {D L K : Type 0} → TellingDoors D L K → Type 0
ServingIsComplete {D} {L} {K} telling =
    (config : Config) (before now : List D) (keeper : K) (left : Served K)
    → IsServe telling config before now keeper left → ServesQuietly telling before now keeper left
    → IsComplete left.history left.status
