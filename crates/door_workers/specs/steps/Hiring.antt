-- A worker before it works and after, and the links of those whose passes were joined so far.
use Rattle.std.specs.Prelude.{◌≡◌, ◌≢◌, ℕ, ◌<◌, List, [], ◌++◌, length, Option, Some, slice_index_or}
use Rattle.hist_lock.specs.Histories.{placed}
use Rattle.hist_lock.specs.Passes.{view, IsPassOf}
use Rattle.hist_lock.specs.declared.kept.Kept.{Ghosts}
use Rattle.hist_lock.specs.declared.lock.HistLock.{HistLock}
use Rattle.hist_lock.specs.declared.lock.Pass.{Pass}
use Rattle.hist_lock.specs.declared.view.View.{View}
use Rattle.acct_machine.specs.State.{Start}
use Rattle.acct_machine.specs.Shown.{Past}
use Rattle.acct_machine.specs.declared.entry.Entry.{Entry}
use Rattle.acct_links.specs.Links.{Told}
use Rattle.acct_links.specs.declared.doors.Door as doors
use Rattle.link_sessions.specs.Transcript.{IsFrontOf}
use Rattle.door_workers.specs.steps.Passing.{start_under}
use Rattle.door_workers.specs.declared.kept.Begun.{Begun}
use Rattle.door_workers.specs.declared.kept.Locked.{Locked}
use Rattle.std.specs.List.{flat_map}
use Rattle.door_workers.specs.declared.ends.DoorEnd.{DoorEnd}
use Rattle.door_workers.specs.declared.ends.DoorEnd.TheVariants as stop
use Rattle.link_sessions.specs.declared.ends.Ended.{Ended}
use Rattle.door_workers.specs.Services.{Service, end_of}
use Rattle.door_workers.specs.steps.Serving.{IsServing}
use Rattle.door_workers.specs.Doors.{Runs, StopsAt, outcome_of, DoorRun, ServesDoor, ServesDoors, ComesTo, all_services}
use Rattle.door_workers.specs.Doors.{stops, ends_from}
use Rattle.door_workers.specs.steps.Working.{IsJoined}

-- The machine came back from under the lock, where the first pass had taken all others in.
pub record ClosesTo {K : Type 0} (lock : HistLock (Locked K) Entry Begun) (v : View Begun Entry) (past : Past)
    : Type 0 where
  pub start : past.start ≡ start_under lock
  pub known : IsFrontOf v.known past.history
  pub own : v.own ≡ placed 0 past.history

module _ {K : Type 0} {G : Ghosts (Locked K) Entry Begun} where
  -- another pass of the lock than the first
  pub record IsOther (lock : HistLock (Locked K) Entry Begun) (pass : Pass (Locked K) Entry Begun G) : Type 0 where
    pub pass_of : IsPassOf lock pass
    pub other : (view pass).number ≢ 0

  -- the first pass of the lock, which knows nothing yet
  pub record IsIdle (lock : HistLock (Locked K) Entry Begun) (pass : Pass (Locked K) Entry Begun G) : Type 0 where
    pub pass_of : IsPassOf lock pass
    pub first : (view pass).number ≡ 0
    pub known : (view pass).known ≡ []
    pub own : (view pass).own ≡ []

  -- A worker that hasn't begun: its own lock, its pass, the listener of its door, how much a session reads at most, and
  -- the ends so far.
  pub record IsHired (lock : HistLock (Locked K) Entry Begun) (most : ℕ) (own : HistLock (Locked K) Entry Begun)
      (pass : Pass (Locked K) Entry Begun G) (listener max_read : ℕ) (ends : List Ended) : Type 0 where
    pub same : own ≡ lock
    pub pass_of : IsOther lock pass
    pub known : (view pass).known ≡ []
    pub own_none : (view pass).own ≡ []
    pub configured : listener < length (start_under lock).config.listeners
    pub most_read : max_read ≡ most
    pub none : ends ≡ []

  -- A worker that has served its door.
  pub record HasWorked {D L : Type 0} (door : doors.Ghosts D L) (told : L → Told)
      (lock : HistLock (Locked K) Entry Begun) (most place : ℕ) (pass : Pass (Locked K) Entry Begun G)
      (end : Option DoorEnd) (before now : D) (ends : List Ended) : Type 0 where
    pub pass_of : IsOther lock pass
    pub why : DoorEnd
    pub is : end ≡ Some why
    pub serving : IsServing door told (start_under lock) most place (Some why) before now (view pass) ends

module _ {D L : Type 0} (door : doors.Ghosts D L) (told : L → Told) where
  -- A worker's pass was joined: what became of its door, from what it was given as, and what the first pass knows of
  -- its links, besides those that it knew of.
  pub record JoinsOne (start : Start) (most place : ℕ) (v u : View Begun Entry) (before now : D) (end : DoorEnd)
      (ends : List Ended) : Type 0 where
    pub services : List (Service L)
    pub runs : Runs door told before now services
    pub stops : StopsAt door told (Some end) before now services
    pub links : (ss : List (Service L)) → IsJoined told start most v ss → IsJoined told start most u (ss ++ services)
    pub noted : end ≢ stop.NoMemory → ends ≡ flat_map (end_of place) services

  -- The workers of the first doors were joined: what became of these doors, of their links in what the first pass
  -- knows, and what they come to.
  pub record AreJoined (start : Start) (most : ℕ) (v : View Begun Entry) (before now : List D) (answer : DoorEnd)
      (ends : List Ended) : Type 0 where
    pub runs : List (DoorRun L)
    pub count : length runs ≡ length now
    pub each : (i : ℕ) (d e : D) (run : DoorRun L) → i < length now
        → ServesDoor door told (slice_index_or before i d) (slice_index_or now i e) (slice_index_or runs i run)
    pub links : IsJoined told start most v (all_services runs)
    pub comes : answer ≢ stop.NoMemory → (answer ≡ outcome_of (stops runs)) × (ends ≡ ends_from 0 runs)

  -- All workers worked, and their passes were joined.
  pub record WorksDoors (start : Start) (most : ℕ) (v : View Begun Entry) (before now : List D) (answer : DoorEnd)
      (ends : List Ended) : Type 0 where
    pub runs : List (DoorRun L)
    pub doors : ServesDoors door told before now runs
    pub links : IsJoined told start most v (all_services runs)
    pub comes : ComesTo runs answer ends
