-- What the commands `replay CONFIG` and `audit CONFIG` do to a world: both run over the same parts.
use Rattle.std.specs.Prelude.{◌≡◌, ◌≢◌, ℕ, true, false, List, ◌∷◌, [], ◌++◌, ◌⊎◌, codes, Option, Some, None}
use Rattle.std.specs.Prelude.{MatchOption, Ok}
use Rattle.acct_machine.specs.declared.entry.Entry.{Entry}
use Rattle.acct_rows.specs.Rows.{Shown}
use Rattle.acct_keeper.specs.Faults.{Rose}
use Rattle.acct_keeper.specs.declared.pairs.Pair.{Pair}
use Rattle.acct_server.specs.declared.replays.Replayed.{Replayed}
use Rattle.acct_server.specs.Replaying.{TellingReplay, Parts, IsReplay}
use Rattle.acct_server.specs.declared.status.Status.{Status}
use Rattle.acct_server.specs.declared.status.Status.TheVariants.{ReadFault, WriteFault, StoreFault, DoorFault}
use Rattle.acct_server.specs.declared.status.Status.TheVariants.{PeerFault, SpawnFault, NoMemory}
use Rattle.link_sessions.specs.declared.ends.Ended.{Ended}
use Rattle.acct_links.specs.declared.callers.TakeError.{TakeError}
use Rattle.acct_links.specs.declared.callers.TakeError.TheVariants.{Failed, NoMemory as NoMemoryTaken}
use Rattle.acct_world.specs.declared.period.Period.{Period}
use Rattle.acct_world.specs.declared.part.Part.{Part}
use Rattle.acct_world.specs.declared.part.Part.TheVariants.{Source, Sink, Keeper}
use Rattle.acct_world.specs.World.{Seen, TakesSource, TakesSink, TakesKeeper}
use Rattle.acct_commands.specs.Auditing.{IsAudit}
use Rattle.acct_commands.specs.declared.auditing.Audited.{Audited}

-- the name of the standard input
abbrev pub standard_input : List ℕ
standard_input = codes "-"

-- the name of the keeper over which events are replayed or audited
abbrev pub no_name : List ℕ
no_name = []

-- the parts that both commands ask for, in order
abbrev pub wanted : List ℕ → List Part
wanted name = Source name ∷ Source standard_input ∷ Sink ∷ Keeper no_name ∷ []

-- The first of some parts were asked for.
pub record AsksFront (parts old new : List Part) : Type 0 where
  pub done : List Part
  pub others : List Part
  pub splits : parts ≡ done ++ others
  pub asked : new ≡ old ++ done

-- why a part wasn't handed out
abbrev pub TakeCause : {S T K E D C L P : Type 0} → Seen S T K E D C L P → Seen S T K E D C L P → Status → Type 0
TakeCause old new ReadFault = Rose old.source_faults new.source_faults
TakeCause old new WriteFault = Rose old.sink_faults new.sink_faults
TakeCause old new StoreFault = Rose old.keeper_faults new.keeper_faults
TakeCause old new DoorFault = Rose old.entrance_faults new.entrance_faults
TakeCause old new PeerFault = Rose old.caller_faults new.caller_faults
TakeCause old new SpawnFault = Rose old.spawner_faults new.spawner_faults
TakeCause old new NoMemory = Unit {0}
TakeCause old new _ = ⊥

-- One of these parts wasn't handed out: those before it were asked for, and the world has what it had.
pub record NotHandedOut {S T K E D C L P : Type 0} (parts : List Part) (old new : Seen S T K E D C L P)
    (status : Status) : Type 0 where
  pub cause : TakeCause old new status
  pub sources : old.tells ≡ true → (name : List ℕ) → new.source name ≡ old.source name
  pub sink : old.tells ≡ true → new.sink ≡ old.sink
  pub keepers : old.tells ≡ true → (name : List ℕ) → new.keeper name ≡ old.keeper name
  pub entrance : old.tells ≡ true → new.entrance ≡ old.entrance
  pub caller : old.tells ≡ true → new.caller ≡ old.caller
  pub spawner : old.tells ≡ true → new.spawner ≡ old.spawner
  pub periods : new.periods ≡ old.periods
  pub tells : new.tells ≡ old.tells
  pub knows : new.knows ≡ old.knows
  pub stores : new.stores ≡ old.stores
  pub asked : old.tells ≡ true → AsksFront parts old.asked new.asked

-- the period of rows, if there are both, a history, and the ends of sessions
abbrev pub period_between : Option Shown → List Entry → Option Shown → List Ended → Option Period
period_between (Some opening) history (Some rows) ends =
    Some (record { opening = opening; history = history; rows = rows; ends = ends })
period_between _ history _ ends = None

-- the period that a replay leaves, if its machine was made: it has no ends
abbrev pub period_of : {K : Type 0} → Replayed K → Option Period
period_of left = period_between left.opening left.history left.rows []

-- The world keeps the period, and what is answered is how it ended; or it found no memory to keep it. Where there is no
-- period, it is asked to keep none.
abbrev pub Keeps : {S T K E D C L P : Type 0} → Seen S T K E D C L P → Seen S T K E D C L P → Option Period → Status
    → Status → Type 0
Keeps old new period ended status =
    MatchOption period ((status ≡ ended) × (new.periods ≡ old.periods))
    (λ kept. ((status ≡ ended) × (old.tells ≡ true → new.periods ≡ old.periods ++ kept ∷ []))
    ⊎ ((status ≡ NoMemory) × (new.periods ≡ old.periods)))

-- A world was asked to keep a period, if there is one, and nothing else of it has changed.
pub record KeepsAny {S T K E D C L P : Type 0} (old new : Seen S T K E D C L P) (period : Option Period)
    (ended status : Status) : Type 0
  where
    pub periods : Keeps old new period ended status
    pub others : new ≡ record old { periods = new.periods }

-- a command that runs over these parts: the pairs that a keeper tells, what the command leaves by the parts before and
-- after it, and of that the period and how it ended
pub record OverParts (S T K X : Type 0) : Type 1 where
  pub pairs : K → Option (List Pair)
  pub leaves : Parts S T K → Parts S T K → X → Type 0
  pub period : X → Option Period
  pub ended : X → Status

abbrev pub replaying : {S T K : Type 0} → TellingReplay S T K → OverParts S T K (Replayed K)
replaying told = record {
  pairs = told.pairs;
  leaves = λ old new left. IsReplay told old new left;
  period = λ left. period_of left;
  ended = λ left. left.status;
}

abbrev pub auditing : {S T K : Type 0} → TellingReplay S T K → OverParts S T K (Audited K)
auditing told = record {
  pairs = told.pairs;
  leaves = λ old new left. IsAudit told old new left;
  period = λ left. period_between left.opening left.history left.rows [];
  ended = λ left. left.ended;
}

-- All parts were handed out: the command ran over them, the world keeps the period that it left, and has the parts
-- again.
pub record HasRun {S T K E D C L P X : Type 0} (over : OverParts S T K X) (name : List ℕ)
    (old new : Seen S T K E D C L P) (status : Status)
    : Type 0 where
  pub before : Parts S T K
  pub after : Parts S T K
  pub left : X
  pub ran : over.leaves before after left
  pub took_config : old.tells ≡ true → old.source name ≡ Some before.config
  pub took_events : old.tells ≡ true → old.source standard_input ≡ Some before.events
  pub took_sink : old.tells ≡ true → old.sink ≡ Some before.out
  pub took_keeper : old.tells ≡ true → old.keeper no_name ≡ Some before.keeper
  -- where the world doesn't tell its keeper, that holds no pair
  pub no_pair : old.tells ≡ false → over.pairs before.keeper ≡ Some []
  pub gave_config : old.tells ≡ true → new.source name ≡ Some after.config
  pub gave_events : old.tells ≡ true → new.source standard_input ≡ Some after.events
  pub gave_sink : old.tells ≡ true → new.sink ≡ Some after.out
  pub gave_keeper : old.tells ≡ true → new.keeper no_name ≡ Some after.keeper
  -- and no other source or keeper has changed
  pub sources : (other : List ℕ) → other ≢ name → other ≢ standard_input → new.source other ≡ old.source other
  pub keepers : (other : List ℕ) → other ≢ no_name → new.keeper other ≡ old.keeper other
  pub entrance : new.entrance ≡ old.entrance
  pub caller : new.caller ≡ old.caller
  pub spawner : new.spawner ≡ old.spawner
  pub asked : old.tells ≡ true → new.asked ≡ old.asked ++ wanted name
  pub keeps : Keeps old new (over.period left) (over.ended left) status

-- All parts were taken, one after the other.
pub record TakesParts {S T K E D C L P : Type 0} (pairs : K → Option (List Pair)) (name : List ℕ)
    (old new : Seen S T K E D C L P) (parts : Parts S T K) : Type 0 where
  pub one : Seen S T K E D C L P
  pub two : Seen S T K E D C L P
  pub three : Seen S T K E D C L P
  pub config : TakesSource old one name (Ok parts.config)
  pub events : TakesSource one two standard_input (Ok parts.events)
  pub sink : TakesSink two three (Ok parts.out)
  pub keeper : TakesKeeper pairs three new no_name (Ok parts.keeper)

-- The command ran over parts that were out: the world keeps the period that it left, and has the parts again.
pub record Returned {S T K E D C L P X : Type 0} (over : OverParts S T K X) (name : List ℕ) (before : Parts S T K)
    (old new : Seen S T K E D C L P) (status : Status) : Type 0 where
  pub after : Parts S T K
  pub left : X
  pub ran : over.leaves before after left
  pub gave_config : old.tells ≡ true → old.knows name ≡ true → new.source name ≡ Some after.config
  pub gave_events : old.tells ≡ true → old.knows standard_input ≡ true → new.source standard_input ≡ Some after.events
  pub gave_sink : old.tells ≡ true → new.sink ≡ Some after.out
  pub gave_keeper : old.tells ≡ true → old.stores no_name ≡ true → new.keeper no_name ≡ Some after.keeper
  pub sources : (other : List ℕ) → other ≢ name → other ≢ standard_input → new.source other ≡ old.source other
  pub keepers : (other : List ℕ) → other ≢ no_name → new.keeper other ≡ old.keeper other
  pub entrance : new.entrance ≡ old.entrance
  pub caller : new.caller ≡ old.caller
  pub spawner : new.spawner ≡ old.spawner
  pub asked : new.asked ≡ old.asked
  pub keeps : Keeps old new (over.period left) (over.ended left) status

abbrev pub Commanded : {S T K E D C L P X : Type 0} → OverParts S T K X → List ℕ → Seen S T K E D C L P
    → Seen S T K E D C L P → Status → Type 0
Commanded over name old new status = NotHandedOut (wanted name) old new status ⊎ HasRun over name old new status

abbrev pub read_status : TakeError → Status
read_status Failed = ReadFault
read_status NoMemoryTaken = NoMemory

abbrev pub write_status : TakeError → Status
write_status Failed = WriteFault
write_status NoMemoryTaken = NoMemory

abbrev pub link_status : TakeError → Status
link_status Failed = PeerFault
link_status NoMemoryTaken = NoMemory

abbrev pub store_status : TakeError → Status
store_status Failed = StoreFault
store_status NoMemoryTaken = NoMemory

abbrev pub door_status : TakeError → Status
door_status Failed = DoorFault
door_status NoMemoryTaken = NoMemory

abbrev pub spawn_status : TakeError → Status
spawn_status Failed = SpawnFault
spawn_status NoMemoryTaken = NoMemory
