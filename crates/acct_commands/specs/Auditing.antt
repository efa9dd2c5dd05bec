-- The command `audit CONFIG` between its parts: its sources are read whole, their events are replayed over parts in
-- memory, and the traces of the history are written where that was run to its end.
use Rattle.std.specs.Prelude.{◌≡◌, ◌≢◌, ℕ, ◌≤◌, List, [], ◌⊎◌, Option, Some, None, All, MatchOption}
use Rattle.acct_config.specs.declared.config.Config.{Config}
use Rattle.acct_keeper.specs.declared.memory_streams.SteadySink.{SteadySink}
use Rattle.acct_keeper.specs.Faults.{faults_after, IsWhole}
use Rattle.acct_keeper.specs.Memory.{SteadyInMemory}
use Rattle.acct_machine.specs.declared.entry.Entry.{Entry}
use Rattle.acct_rows.specs.Rows.{Lists, Shown}
use Rattle.acct_rows.specs.Sound.{IsSoundRows}
use Rattle.acct_server.specs.Leaves.{IsConfigured, is_write_fault}
use Rattle.acct_server.specs.Replaying.{TellingReplay, Parts, StopsAtConfig, StopsAtEvents, IsReplay, AllQuiet, AsksFor}
use Rattle.acct_server.specs.Replaying.{lists_in}
use Rattle.acct_server.specs.declared.replays.Replayed.{Replayed}
use Rattle.acct_server.specs.declared.status.Status.{Status}
use Rattle.acct_server.specs.declared.status.Status.TheVariants.{Done}
use Rattle.grant_audit.specs.Traced.{HooksAreTold, IsLegalFrom, IsTraced}
use Rattle.grant_audit.specs.Traces.{traces}
use Rattle.acct_commands.specs.AuditLines.{trace_lines}
use Rattle.acct_commands.specs.Generating.{source, IsWritten}
use Rattle.acct_commands.specs.declared.auditing.Audited.{Audited}

-- sources and a sink in memory that never fail, of which the sink tells nothing, and the keeper
abbrev pub in_memory : {S T K : Type 0} → TellingReplay S T K → TellingReplay SteadyInMemory SteadySink K
in_memory told = record {
  left = λ s. Some s.left;
  read_faults = λ s. 0;
  held = λ s. None;
  write_faults = λ s. 0;
  pairs = told.pairs;
  store_faults = told.store_faults;
}

-- ---- what is told of a replay

-- the traces of a history may be asked for, from these rows
pub record AreTraceable (config : Config) (history : List Entry) (rows : Lists) : Type 0 where
  pub sound : IsSoundRows rows
  pub legal : IsLegalFrom config rows history
  pub hooks : HooksAreTold config history

-- there are rows, and they are so
abbrev pub MayBeTraced : Config → List Entry → Option Lists → Type 0
MayBeTraced config history opening = MatchOption opening ⊥ (AreTraceable config history)

-- A line for each trace of a history was written, in order, from the rows where it began. Each trace is right: one event
-- of the history gave the handle, and no other did, and its opening granted what the line says.
pub record IsAudited (config : Config) (history : List Entry) (opening : Option Shown) (held now : Option (List ℕ))
    (before after : ℕ) (ended : Status) : Type 0 where
  pub rows : Lists
  pub there : lists_in opening ≡ Some rows
  pub written : IsWritten (trace_lines (traces config rows history)) held now before after ended
  pub right : All (IsTraced config rows history) (traces config rows history)
  -- a write failed where that is how it ended, and no other did
  pub faults : after ≡ faults_after (is_write_fault ended) before

-- What a replay left, with this status, was told to a sink: its traces, if it was run to its end; else nothing, and the
-- status stands.
pub record TellsTraces {T : Type 0} (config : Config) (status : Status) (opening : Option Shown) (history : List Entry)
    (old new : T) (held now : Option (List ℕ)) (before after : ℕ) (ended : Status) : Type 0 where
  pub done : status ≡ Done → IsAudited config history opening held now before after ended
  pub others : status ≢ Done → (ended ≡ status) × (new ≡ old)
  pub later : before ≤ after

-- ---- the command

-- The configuration wasn't taken, or it was and the events weren't: nothing was replayed and nothing was written.
pub record HasNotRead {S T K : Type 0} (told : TellingReplay S T K) (old new : Parts S T K) (left : Audited K)
    : Type 0 where
  pub cause : StopsAtConfig told old new left.ended ⊎ StopsAtEvents told old new left.ended
  pub opening : left.opening ≡ None
  pub history : left.history ≡ []
  pub rows : left.rows ≡ None
  pub out : new.out ≡ old.out

-- Both were read whole and their events replayed over these bytes and the keeper; what that left was told to the sink.
pub record HasAudited {S T K : Type 0} (told : TellingReplay S T K) (old new : Parts S T K) (left : Audited K)
    : Type 0 where
  pub config : Config
  pub document : List ℕ
  pub events : List ℕ
  pub document_is : IsWhole (told.left old.config) document
  pub events_are : IsWhole (told.left old.events) events
  pub configured : IsConfigured (Some document) config
  pub after : Parts SteadyInMemory SteadySink K
  pub replay : Replayed K
  pub replayed : IsReplay (in_memory told)
      (record { config = source document; events = source events; out = record {}; keeper = old.keeper }) after replay
  pub tells : TellsTraces config replay.status replay.opening replay.history old.out new.out (told.held old.out)
      (told.held new.out) (told.write_faults old.out) (told.write_faults new.out) left.ended
  pub opening : left.opening ≡ replay.opening
  pub history : left.history ≡ replay.history
  pub rows : left.rows ≡ replay.rows
  pub keeper : new.keeper ≡ after.keeper

pub record IsAudit {S T K : Type 0} (told : TellingReplay S T K) (old new : Parts S T K) (left : Audited K)
    : Type 0 where
  pub leaves : HasNotRead told old new left ⊎ HasAudited told old new left
  -- where no count rose, the status is the one that is asked for, as of a replay, or memory ran out
  pub complete : AllQuiet told old new
      → AsksFor (told.left old.config) (told.left old.events) (told.pairs old.keeper) left.history left.ended
  pub config_later : told.read_faults old.config ≤ told.read_faults new.config
  pub events_later : told.read_faults old.events ≤ told.read_faults new.events
  pub out_later : told.write_faults old.out ≤ told.write_faults new.out
  pub keeper_later : told.store_faults old.keeper ≤ told.store_faults new.keeper
