-- What the indexes of handles show, and what they must keep.
use Rattle.std.specs.Prelude.{◌≡◌, ℕ, ◌+◌, ◌^◌, ◌<◌, ◌≤◌, List, [], ◌∷◌, map, ⊤}
use Rattle.acct_tables.specs.Keyed.{sorted}
use Rattle.acct_machine.specs.declared.state.Held.{Held}
use Rattle.acct_machine.specs.declared.arrivals.Arrival.{Arrival}
use Rattle.acct_machine.specs.steps.Arrivals.{object_key, turn_key}

abbrev pub held_of : Arrival → Held
held_of a = a.held

-- the handles in the order in which they came
unfoldable pub arrived : List Arrival → List Held
arrived numbers = map held_of (sorted turn_key numbers)

-- all came before that turn
abbrev pub CameBefore : ℕ → List Arrival → Type 0
CameBefore next [] = ⊤
CameBefore next (a ∷ rest) = (a.turn < next) × CameBefore next rest

-- Those by object are those by number, rearranged; the next turn is a new one, and there is one for each handle that
-- there is room for.
pub record AreIndexed (numbers objects : List Arrival) (next spare number_room object_room : ℕ) : Type 0 where
  pub same : objects ≡ sorted object_key numbers
  pub before : CameBefore next numbers
  pub turns : next + spare < 2 ^ 64
  pub by_number : spare ≤ number_room
  pub by_object : spare ≤ object_room
