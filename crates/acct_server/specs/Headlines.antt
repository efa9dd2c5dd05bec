-- That what a replay and what serving promise comes to the headline: of each, what the outside sees of a connection.
use Rattle.std.specs.Prelude.{◌≡◌, ℕ, ◌<◌, ◌≤◌, Bool, true, false, List, ◌∷◌, ◌++◌, length, IsSome, slice_index_or, ⊤}
use Rattle.std.specs.Io.KnownBytes.{Appends, Consumes}
use Rattle.acct_config.specs.declared.config.Config.{Config}
use Rattle.acct_links.specs.Links.{Told, IsNew}
use Rattle.acct_machine.specs.State.{Start}
use Rattle.acct_machine.specs.declared.entry.Entry.{Entry}
use Rattle.acct_machine.specs.declared.entry.Entry.TheVariants.{Opened}
use Rattle.acct_keeper.specs.Faults.{Rose, IsWhole}
use Rattle.link_sessions.specs.Sessions.{Cause}
use Rattle.link_sessions.specs.declared.ends.SessionEnd.{SessionEnd}
use Rattle.link_sessions.specs.declared.ends.SessionEnd.TheVariants as end
use Rattle.door_workers.specs.Doors.{DoorRun, ServesDoor, Has}
use Rattle.door_workers.specs.Services.{Served as ServedLink, Serves}
use Rattle.acct_server.specs.Leaves.{IsConfigured, Breaks, RunsOut, IsRunThrough, IsOfRun}
use Rattle.acct_server.specs.Replaying.{found_full, received, sent as sent_by_lines}
use Rattle.acct_server.specs.Headline.{Extent, ToTheEnd, UntilFull, UntilFullCut, UntilLost, Headline}
use Rattle.acct_server.specs.Replayed.{Effect, replayed, output_of}
use Rattle.acct_server.specs.Replaying as replaying
use Rattle.acct_server.specs.Serving as serving
use Rattle.acct_server.specs.declared.replays.Replayed.{Replayed}
use Rattle.acct_server.specs.declared.serving.Served.{Served}
use Rattle.acct_server.specs.declared.status.Status.TheVariants.{WriteFault, NoMemory}

-- the connection was opened at this listener
pub record HasOpened (k listener : ℕ) (history : List Entry) : Type 0 where
  pub before : List Entry
  pub after : List Entry
  pub is : history ≡ before ++ Opened k listener ∷ after

-- ---- a replay

abbrev pub extent_by : Bool → Extent
extent_by false = ToTheEnd
extent_by true = UntilFull

-- The lines of the events brought these bytes on the connection, and the lines that were written say that these were
-- sent on it, and whether it found the history full.
pub record IsInLines (effects : List Effect) (k : ℕ) (extent : Extent) (came sent : List ℕ) : Type 0 where
  pub full : extent ≡ extent_by (found_full k effects)
  pub brought : came ≡ received k effects
  pub printed : sent ≡ sent_by_lines k effects

-- Lines were run, under the configuration that the document spells and over the bytes of the events: to their end, to a
-- refused one, or to one that found the history full, and then the lines of their effects are written, and the headline
-- holds of each connection that they opened; or until a write failed or memory ran out, and then as the last two fields
-- say.
pub record ReplayComesTo {S T K : Type 0} (told : replaying.TellingReplay S T K) (old new : replaying.Parts S T K)
    (left : Replayed K) : Type 0 where
  pub config : Config
  pub events : List ℕ
  pub start : Start
  pub configured : IsConfigured (told.left old.config) config
  pub whole : IsWhole (told.left old.events) events
  pub ended : IsOfRun left.status
  pub lines : IsRunThrough left.status → Appends (told.held old.out) (told.held new.out)
      (output_of (replayed start events left.history).effects)
  pub headline : IsRunThrough left.status → (k listener : ℕ) → HasOpened k listener left.history
      → Headline config (told.pairs old.keeper) (told.pairs new.keeper) (told.store_faults old.keeper) start
      left.history k (IsInLines (replayed start events left.history).effects k)
  pub breaks : left.status ≡ WriteFault → Breaks start (told.held old.out) (told.held new.out) events left.history
  pub stops : left.status ≡ NoMemory → RunsOut start (told.held old.out) (told.held new.out) events left.history

-- a replay whose machine was made
abbrev pub ReplayGivesHeadline : {S T K : Type 0} → replaying.TellingReplay S T K → Type 0
ReplayGivesHeadline {S} {T} {K} told =
    (old new : replaying.Parts S T K) (left : Replayed K) → replaying.IsReplay told old new left
    → IsSome left.opening → ReplayComesTo told old new left

-- ---- serving

-- how far a session that ended so had answered
abbrev pub IsFarAs : SessionEnd → Extent → Told → Told → Type 0
IsFarAs end.End ToTheEnd given back = ⊤
IsFarAs (end.Closed place cause) ToTheEnd given back = ⊤
IsFarAs end.ReadFault ToTheEnd given back = ⊤
IsFarAs (end.ByteLimit n) ToTheEnd given back = ⊤
IsFarAs (end.Full n) UntilFull given back = ⊤
IsFarAs (end.Full n) UntilFullCut given back = Rose given.write_faults back.write_faults
IsFarAs end.WriteFault UntilLost given back = ⊤
IsFarAs end.NoMemory UntilLost given back = ⊤
IsFarAs _ _ given back = ⊥

-- A door, one of those that were served, gave a link that was new. The connection was opened at the listener of the
-- door, and served there to its end; the door took the link back. These bytes were read on it, at most so many, and
-- these were written.
pub record IsOnLink {D L K : Type 0} (telling : serving.TellingDoors D L K) (most : ℕ) (before now : List D)
    (history : List Entry) (k : ℕ) (extent : Extent) (came sent : List ℕ) : Type 0 where
  pub place : ℕ
  pub within : place < length now
  pub run : DoorRun L
  pub door : (d e : D) → ServesDoor telling.door telling.told (slice_index_or before place d)
      (slice_index_or now place e) run
  pub link : ServedLink L
  pub on : Has run.services (Serves link)
  pub conn : link.conn ≡ k
  pub new : IsNew (telling.told link.given)
  pub opened : HasOpened k link.listener history
  pub reads : Appends (telling.told link.given).received (telling.told link.back).received came
  pub takes : Consumes (telling.told link.given).left (telling.told link.back).left came
  pub short : length came ≤ most
  pub sends : Appends (telling.told link.given).sent (telling.told link.back).sent sent
  pub far : IsFarAs link.end extent (telling.told link.given) (telling.told link.back)
  pub cause : Cause link.end k most came (telling.told link.given) (telling.told link.back)

-- Doors were served: the headline holds of each connection that the history opens.
pub record ServeComesTo {D L K : Type 0} (telling : serving.TellingDoors D L K) (config : Config) (before now : List D)
    (keeper : K) (left : Served K) : Type 0 where
  pub start : Start
  pub headline : (k listener : ℕ) → HasOpened k listener left.history
      → Headline config (telling.pairs keeper) (telling.pairs left.keeper) (telling.faults keeper) start left.history k
      (IsOnLink telling config.limits.max_read before now left.history k)

-- serving whose machine was made
abbrev pub ServeGivesHeadline : {D L K : Type 0} → serving.TellingDoors D L K → Type 0
ServeGivesHeadline {D} {L} {K} telling =
    (config : Config) (before now : List D) (keeper : K) (left : Served K)
    → serving.IsServe telling config before now keeper left → IsSome left.opening
    → ServeComesTo telling config before now keeper left
