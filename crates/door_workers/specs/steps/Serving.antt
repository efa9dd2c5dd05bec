-- What a worker does with the links of its door, by what the door's ghost members and those of its links tell.
use Rattle.std.specs.Prelude.{◌≡◌, ℕ, List, [], ◌∷◌, ◌++◌, Option, Some, None, option_map, ⊤, ◌⊎◌, ◌≢◌}
use Rattle.std.specs.List.{flat_map}
use Rattle.hist_lock.specs.declared.view.View.{View}
use Rattle.acct_machine.specs.State.{Start}
use Rattle.acct_machine.specs.declared.entry.Entry.{Entry}
use Rattle.acct_links.specs.Links.{Told}
use Rattle.acct_links.specs.declared.doors.Door.{Ghosts}
use Rattle.link_sessions.specs.Sessions.{IsSession}
use Rattle.link_sessions.specs.declared.ends.SessionEnd.{SessionEnd}
use Rattle.link_sessions.specs.declared.ends.SessionEnd.TheVariants as end
use Rattle.door_workers.specs.declared.kept.Begun.{Begun}
use Rattle.door_workers.specs.steps.Passing.{MovesOn}
use Rattle.link_sessions.specs.declared.ends.Ended.{Ended}
use Rattle.door_workers.specs.declared.ends.DoorEnd.{DoorEnd}
use Rattle.door_workers.specs.declared.ends.DoorEnd.TheVariants as stop
use Rattle.door_workers.specs.Services.{Service, given_of, finished_of, IsAtListener, full_count, end_of}
use Rattle.door_workers.specs.steps.Working.{IsWorking}
use Rattle.door_workers.specs.Doors.{Runs, StopsAt}

-- why no further link is taken after a session that ended so
abbrev pub door_end : SessionEnd → Option DoorEnd
door_end (end.Full n) = Some (stop.Full n)
door_end _ = None

-- the ends that a link adds, and why no further link is taken after it
abbrev pub EndsLink : {L : Type 0} → Option DoorEnd → ℕ → Service L → List Ended → List Ended → Type 0
EndsLink None place s old new = (full_count s ≡ None) × (new ≡ old ++ end_of place s)
EndsLink (Some (stop.Full n)) place s old new = (full_count s ≡ Some n) × (new ≡ old ++ end_of place s)
EndsLink (Some stop.NoMemory) place s old new = ⊤
EndsLink (Some stop.Closed) place s old new = ⊥
EndsLink (Some stop.Failed) place s old new = ⊥

-- the end of a session was noted, and no further link is taken where it found the history full; or memory ran out
abbrev pub NotesEnd : Option DoorEnd → ℕ → ℕ → SessionEnd → List Ended → List Ended → Type 0
NotesEnd answer place k end old new =
    ((answer ≡ door_end end) × (new ≡ old ++ (record { conn = k; door = place; end = end }) ∷ []))
    ⊎ (answer ≡ Some stop.NoMemory)

module _ {D L : Type 0} (door : Ghosts D L) (told : L → Told) where
  -- A door took a link back with a number, and is else as it was.
  pub record TakesBack (k : ℕ) (back : L) (old new : D) : Type 0 where
    pub finished : door.finished new ≡ option_map (λ l. l ++ (k, back) ∷ []) (door.finished old)
    pub coming : door.coming new ≡ door.coming old
    pub listener : door.listener new ≡ door.listener old
    pub faults : door.faults new ≡ door.faults old

  -- A connection was served on a link, which the door took back.
  pub record ServesLink (start : Start) (most place k : ℕ) (link : L) (u w : View Begun Entry) (old new : D)
      (ends_before ends_behind : List Ended) (answer : Option DoorEnd) : Type 0 where
    pub end : SessionEnd
    pub back : L
    pub session : IsSession start k most end (told link) (told back) u.known w.known
    pub moves : MovesOn start k u w
    pub takes : TakesBack k back old new
    pub notes : NotesEnd answer place k end ends_before ends_behind

  -- A link that the door gave was served or given back unread, and what the pass knows of all links has one more.
  pub record HandlesLink (start : Start) (most place : ℕ) (link : L) (v w : View Begun Entry) (old new : D)
      (ends_before ends_behind : List Ended) (answer : Option DoorEnd) : Type 0 where
    pub service : Service L
    pub given : given_of service ≡ link
    pub at : IsAtListener (door.listener old) service
    pub works : (ss : List (Service L)) → IsWorking told start most v ss
        → IsWorking told start most w (ss ++ service ∷ [])
    pub takes : TakesBack (finished_of service).0 (finished_of service).1 old new
    pub ends : EndsLink answer place service ends_before ends_behind

  -- A worker so far: what became of the links that its door gave, what its pass knows of them, and their ends, which
  -- are all noted, unless memory ran out.
  pub record IsServing (start : Start) (most place : ℕ) (answer : Option DoorEnd) (before now : D)
      (v : View Begun Entry) (ends : List Ended) : Type 0 where
    pub services : List (Service L)
    pub runs : Runs door told before now services
    pub working : IsWorking told start most v services
    pub stops : StopsAt door told answer before now services
    pub noted : answer ≢ Some stop.NoMemory → ends ≡ flat_map (end_of place) services
