-- What doors and entrances in memory show, and which of their calls fail.
use Rattle.std.specs.Prelude.{◌≡◌, ℕ, zero, suc, ◌+◌, ◌==◌, ◌&&◌, ◌<◌, Bool, false, not, List, [], ◌∷◌, length}
use Rattle.std.specs.Prelude.{Result, drop}
use Rattle.acct_keeper.specs.declared.keeper.KeepError.{KeepError}
use Rattle.acct_keeper.specs.Memory.{is_fault}
use Rattle.acct_keeper.specs.Faults.{one_more, faults_after}
use Rattle.acct_links.specs.declared.asking.Asking.{Asking}
use Rattle.acct_links.specs.declared.doors.Next.{Next}
use Rattle.acct_links.specs.declared.memory_entrances.DoorPlan.{DoorPlan}
use Rattle.acct_links.specs.Doors.{is_failed}
use Rattle.acct_links.specs.Memory.{next_fails}

-- ---- doors

-- the links to come, the links that were finished, the place of the listener, whether it has answered that it is
-- closed, and how many links may be finished in all
pub record SteadyDoorInMemory (L : Type 0) : Type 0 where
  pub coming : List L
  pub finished : List (ℕ × L)
  pub listener : ℕ
  pub closed : Bool
  pub room : ℕ

-- a link that it gave isn't finished yet
abbrev pub Lends : {L : Type 0} → SteadyDoorInMemory L → Type 0
Lends door = length door.finished + length door.coming < door.room

-- a door that gives these links
abbrev pub opened : {L : Type 0} → ℕ → List L → SteadyDoorInMemory L
opened listener links = record {
  coming = links;
  finished = [];
  listener = listener;
  closed = false;
  room = length links;
}

-- besides how many calls have failed, how many were made, and the numbers of those that fail
pub record DoorInMemory (L : Type 0) : Type 0 where
  pub door : SteadyDoorInMemory L
  pub faults : ℕ
  pub calls : ℕ
  pub failing : List ℕ

-- A call for the next link has the next number, and fails exactly where that is one of those that fail and a link is to
-- come. Then the count of faults rises, and else it stays.
pub record NextInMemory {L : Type 0} (old new : DoorInMemory L) (result : Next L) : Type 0 where
  pub number : new.calls ≡ one_more old.calls
  pub failing : new.failing ≡ old.failing
  pub room : new.door.room ≡ old.door.room
  pub fails : is_failed result ≡ (next_fails old.failing old.calls && not (length old.door.coming == 0))
  pub count : new.faults ≡ faults_after (is_failed result) old.faults

-- ---- entrances

-- the door of a plan
abbrev pub door_of : {L : Type 0} → ℕ → DoorPlan L → DoorInMemory L
door_of listener plan = record {
  door = opened listener plan.links;
  faults = 0;
  calls = 0;
  failing = plan.failing;
}

-- a door without links
abbrev pub plain : {L : Type 0} → DoorPlan L
plain = record { links = []; failing = [] }

abbrev pub first_or : {P : Type 0} → P → List P → P
first_or other [] = other
first_or other (plan ∷ plans) = plan

-- so many doors: those of the plans in order, and plain ones where there are no more plans
abbrev pub dealt : {P D : Type 0} → (P → D) → P → ℕ → List P → List D
dealt make other zero plans = []
dealt make other (suc n) plans = make (first_or other plans) ∷ dealt make other n (drop 1 plans)

-- the plans of the doors to be made, in order, the askings that were answered with doors, how many calls have failed,
-- how many were made, and the numbers of those that fail
pub record EntranceInMemory (L : Type 0) : Type 0 where
  pub plans : List (DoorPlan L)
  pub asked : List Asking
  pub faults : ℕ
  pub calls : ℕ
  pub failing : List ℕ

-- A call has the next number, and fails exactly where that is one of those that
-- fail. Then the count of faults rises, and else it stays.
pub record AsksInMemory {L T : Type 0} (old new : EntranceInMemory L) (result : Result T KeepError) : Type 0 where
  pub number : new.calls ≡ one_more old.calls
  pub failing : new.failing ≡ old.failing
  pub fails : is_fault result ≡ next_fails old.failing old.calls
  pub count : new.faults ≡ faults_after (is_fault result) old.faults

-- the links of the doors to be made, in order, and the askings that were answered with doors
pub record SteadyEntranceInMemory (L : Type 0) : Type 0 where
  pub plans : List (List L)
  pub asked : List Asking
