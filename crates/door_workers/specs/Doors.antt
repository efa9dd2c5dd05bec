-- What an entrance is asked, and what serving leaves.
use Rattle.std.specs.Prelude.{◌≡◌, ℕ, ◌+◌, ◌<◌, ◌≤◌, false, All, List, [], ◌∷◌, ◌++◌, length, map, replicate, take}
use Rattle.std.specs.Prelude.{Option, option_map, IfSome, ◌≢◌, true, Some, None, ⊤, slice_index_or}
use Rattle.std.specs.List.{flat_map}
use Rattle.std.specs.List.Sorted.{IsPermutation, IsNonDecreasingBy}
use lib.ListN.{get_elem?}
use mathlib.Core.Option.{some}
use Rattle.acct_config.specs.declared.config.Config.{Config}
use Rattle.acct_config.specs.declared.config.Listener.{Listener}
use Rattle.acct_keeper.specs.Faults.{KeepCause, one_more}
use Rattle.acct_keeper.specs.declared.keeper.KeepError.{KeepError}
use Rattle.acct_machine.specs.Legal.{Legal}
use Rattle.acct_machine.specs.State.{Start}
use Rattle.acct_machine.specs.declared.entry.Entry.{Entry}
use Rattle.acct_machine.specs.declared.entry.Entry.TheVariants as entry
use Rattle.hist_lock.specs.Histories.{At}
use Rattle.acct_links.specs.Links.{Told}
use Rattle.acct_links.specs.declared.asking.Asking.{Asking}
use Rattle.acct_links.specs.declared.doors.Door.{Ghosts}
use Rattle.link_sessions.specs.declared.ends.Ended.{Ended}
use Rattle.door_workers.specs.Services.{Service, IsOfConn, IsService, given_of, finished_of, IsAtListener, NoneFull}
use Rattle.door_workers.specs.Services.{LastIsFull, NoneFullBeforeLast, end_of}
use Rattle.door_workers.specs.declared.ends.DoorEnd.{DoorEnd}
use Rattle.door_workers.specs.declared.ends.DoorEnd.TheVariants as stop
use Rattle.door_workers.specs.declared.ends.DoorEnd.TheVariants.{NoMemory}

-- ======== what an entrance is asked for the listeners of a configuration, and the doors that it gives for them

-- the asking for the doors of a listener that has this number
abbrev pub asking_of : ℕ → Listener → Asking
asking_of number listener = record {
  listener = number;
  address = listener.address;
  workers = listener.workers;
  links = listener.links;
}

-- one asking for each listener, in order, of which the first has this number
abbrev pub askings_from : ℕ → List Listener → List Asking
askings_from number [] = []
askings_from number (listener ∷ listeners) = asking_of number listener ∷ askings_from (number + 1) listeners

abbrev pub askings_of : Config → List Asking
askings_of config = askings_from 0 config.listeners

-- the listeners of the doors that askings ask for, door by door: for each as many doors of its own as it says
abbrev pub listeners_for : List Asking → List ℕ
listeners_for askings = flat_map (λ asking. replicate asking.workers asking.listener) askings

module _ {D L : Type 0} (door : Ghosts D L) where
  -- The doors that askings ask for, in their order. None has answered that it is closed, and none has finished a link.
  pub record AreDoorsFor (askings : List Asking) (doors : List D) : Type 0 where
    pub listeners : map door.listener doors ≡ listeners_for askings
    pub going : All (λ d. door.closed d ≡ false) doors
    pub unused : All (λ d. IfSome (door.finished d) (λ links. links ≡ [])) doors

-- what an entrance was asked besides, as far as it tells
abbrev pub asked_besides : List Asking → Option (List Asking) → Option (List Asking)
asked_besides askings asked = option_map (λ before. before ++ askings) asked

-- The entrance was asked once for each of the first so many listeners, in order, and gave these doors.
pub record OpensDoors {D L : Type 0} (door : Ghosts D L) (config : Config) (count : ℕ)
    (before now : Option (List Asking))
    (given : List D) : Type 0 where
  pub within : count ≤ length config.listeners
  pub asked : now ≡ asked_besides (take count (askings_of config)) before
  pub doors : AreDoorsFor door (take count (askings_of config)) given

-- The asking for one of the listeners wasn't answered with doors, and those after it weren't asked for: it failed, and
-- the entrance's count of faults rose, or memory ran out. The doors of the listeners before it are there.
pub record StopsAsking {D L : Type 0} (door : Ghosts D L) (config : Config) (asked now : Option (List Asking))
    (before after : ℕ) (doors : List D) (error : KeepError) : Type 0 where
  pub count : ℕ
  pub some : count < length config.listeners
  pub opens : OpensDoors door config count asked now doors
  pub cause : KeepCause before after error

-- ======== how serving ends, by why each worker took no further link

-- How some doors together ended, and after them one more: out of memory stands before a full history, of which the
-- first is told, that before a failed door, and that before all doors being closed.
abbrev pub behind : DoorEnd → DoorEnd → DoorEnd
behind stop.NoMemory end = stop.NoMemory
behind (stop.Full n) stop.NoMemory = stop.NoMemory
behind (stop.Full n) stop.Closed = stop.Full n
behind (stop.Full n) stop.Failed = stop.Full n
behind (stop.Full n) (stop.Full m) = stop.Full n
behind stop.Failed stop.NoMemory = stop.NoMemory
behind stop.Failed stop.Closed = stop.Failed
behind stop.Failed stop.Failed = stop.Failed
behind stop.Failed (stop.Full m) = stop.Full m
behind stop.Closed stop.NoMemory = stop.NoMemory
behind stop.Closed stop.Closed = stop.Closed
behind stop.Closed stop.Failed = stop.Failed
behind stop.Closed (stop.Full m) = stop.Full m

-- what the workers of the doors come to, in the order of the doors
abbrev pub behind_all : DoorEnd → List DoorEnd → DoorEnd
behind_all so_far [] = so_far
behind_all so_far (end ∷ ends) = behind_all (behind so_far end) ends

abbrev pub outcome_of : List DoorEnd → DoorEnd
outcome_of ends = behind_all stop.Closed ends

-- One more door, with the ends of its sessions, unless memory ran out.
abbrev pub Adds : DoorEnd → List Ended → DoorEnd → List Ended → DoorEnd → List Ended → Type 0
Adds end ends old before new now = new ≢ stop.NoMemory → (new ≡ behind old end) × (now ≡ before ++ ends)

-- ======== what stands of the links in the one history

module _ {A : Type 0} where
  -- the list has this element at some place
  abbrev pub Has : List A → A → Type 0
  Has xs x = (i : ℕ) × (get_elem? xs i ≡ some x)

module _ {L : Type 0} where
  -- no connection was served on two links
  abbrev pub AreDistinct : List (Service L) → Type 0
  AreDistinct ss =
      (i j k : ℕ) (s t : Service L) → get_elem? ss i ≡ some s → get_elem? ss j ≡ some t → IsOfConn k s → IsOfConn k t
      → i ≡ j

  -- one of the links served the connection
  abbrev pub IsServedOn : List (Service L) → ℕ → Type 0
  IsServedOn ss k = (s : Service L) × Has ss s × IsOfConn k s

  -- What serving leaves in the history, which is legal: each link's, and each connection was served on just one link.
  pub record AreServed (told : L → Told) (start : Start) (most : ℕ) (history : List Entry) (ss : List (Service L))
      : Type 0 where
    pub legal : Legal start history
    pub each : (s : Service L) → Has ss s → IsService told start most history s
    pub all : (p k listener : ℕ) → At history p (entry.Opened k listener) → IsServedOn ss k
    pub once : AreDistinct ss

-- ======== the links of one door

-- The links were given in order, and are no longer to come.
abbrev pub Gives : {L : Type 0} → Option (List L) → List L → Option (List L) → Type 0
Gives None links now = ⊤
Gives (Some old) links None = ⊥
Gives (Some old) links (Some now) = old ≡ links ++ now

module _ {D L : Type 0} (door : Ghosts D L) (told : L → Told) where
  -- From one state of a door to another it gave the links of these services in order, and took them back in order.
  pub record Runs (before now : D) (ss : List (Service L)) : Type 0 where
    pub coming : Gives (door.coming before) (map given_of ss) (door.coming now)
    pub finished : door.finished now ≡ option_map (λ l. l ++ map finished_of ss) (door.finished before)
    pub listener : door.listener now ≡ door.listener before
    pub later : door.faults before ≤ door.faults now
    pub at : (s : Service L) → Has ss s → IsAtListener (door.listener before) s

  -- Why no further link is taken from the door: it is closed, and none is to come, where it tells; it failed once; the
  -- last link found the history full, or memory ran out once it had been served. None before the last link found the
  -- history full, and no other call of the door failed.
  abbrev pub StopsAt : Option DoorEnd → D → D → List (Service L) → Type 0
  StopsAt None before now ss = NoneFull ss × (door.faults now ≡ door.faults before)
  StopsAt (Some stop.Closed) before now ss =
      NoneFull ss × (door.faults now ≡ door.faults before) × (door.closed now ≡ true)
      × IfSome (door.coming before) (λ _. door.coming now ≡ Some [])
  StopsAt (Some stop.Failed) before now ss = NoneFull ss × (door.faults now ≡ one_more (door.faults before))
  StopsAt (Some (stop.Full n)) before now ss = LastIsFull ss n × (door.faults now ≡ door.faults before)
  StopsAt (Some stop.NoMemory) before now ss = NoneFullBeforeLast ss × (door.faults now ≡ door.faults before)

-- ======== what serving leaves

-- What became of one door: the links that it gave, in order, and why no further one was taken.
pub record DoorRun (L : Type 0) : Type 0 where
  pub services : List (Service L)
  pub stop : DoorEnd

module _ {L : Type 0} where
  -- the links of all doors
  abbrev pub all_services : List (DoorRun L) → List (Service L)
  all_services runs = flat_map (λ run. run.services) runs

  -- why each door's worker took no further link
  abbrev pub stops : List (DoorRun L) → List DoorEnd
  stops runs = map (λ run. run.stop) runs

  -- the ends of all connections, door by door, where the first door has this place
  abbrev pub ends_from : ℕ → List (DoorRun L) → List Ended
  ends_from place [] = []
  ends_from place (run ∷ runs) = flat_map (end_of place) run.services ++ ends_from (place + 1) runs

-- The ends are those of the connections that were served, each once, by ascending number.
pub record AreEnds {L : Type 0} (runs : List (DoorRun L)) (ends : List Ended) : Type 0 where
  pub each : IsPermutation (ends_from 0 runs) ends
  pub sorted : IsNonDecreasingBy (λ end. end.conn) ends

-- What serving comes to, and the ends that it tells. Running out of memory is free, and then it tells none.
abbrev pub ComesTo : {L : Type 0} → List (DoorRun L) → DoorEnd → List Ended → Type 0
ComesTo runs NoMemory ends = ends ≡ []
ComesTo runs answer ends = (answer ≡ outcome_of (stops runs)) × AreEnds runs ends

module _ {D L : Type 0} (door : Ghosts D L) (told : L → Told) where
  -- From one state of a door to another it gave the links of this run, in order, and took them back, in order; and why
  -- no further one was taken.
  pub record ServesDoor (before now : D) (run : DoorRun L) : Type 0 where
    pub runs : Runs door told before now run.services
    pub stops : StopsAt door told (Some run.stop) before now run.services

  -- each door, by its place
  pub record ServesDoors (before now : List D) (runs : List (DoorRun L)) : Type 0 where
    pub doors : length now ≡ length before
    pub count : length runs ≡ length now
    pub each : (i : ℕ) (d e : D) (run : DoorRun L) → i < length now
        → ServesDoor (slice_index_or before i d) (slice_index_or now i e) (slice_index_or runs i run)

  -- The doors were served side by side, each to the end that its run tells: what each link read and wrote, in the one
  -- history, which is legal; each connection of the history was served on just one link, from its opening at the
  -- listener of its door to its end.
  pub record IsServed (start : Start) (most : ℕ) (before now : List D) (history : List Entry) (answer : DoorEnd)
      (ends : List Ended) : Type 0 where
    pub runs : List (DoorRun L)
    pub doors : ServesDoors before now runs
    pub links : AreServed told start most history (all_services runs)
    pub comes : ComesTo runs answer ends
