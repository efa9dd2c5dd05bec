-- What stands of the links of several workers, where the pass of one took the others' passes in.
use Rattle.std.specs.Prelude.{◌≡◌, ℕ, List, [], ◌++◌}
use Rattle.hist_lock.specs.Histories.{Apart, merged, longer, placed}
use Rattle.hist_lock.specs.declared.view.View.{View}
use Rattle.acct_machine.specs.State.{Start}
use Rattle.acct_machine.specs.Legal.{Legal}
use Rattle.acct_machine.specs.declared.entry.Entry.{Entry}
use Rattle.acct_links.specs.Links.{Told}
use Rattle.link_sessions.specs.Transcript.{IsFrontOf}
use Rattle.door_workers.specs.declared.kept.Begun.{Begun}
use Rattle.door_workers.specs.Services.{Service}
use Rattle.door_workers.specs.steps.Working.{IsWorking, IsJoined}
use Rattle.door_workers.specs.Doors.{AreServed}

-- A pass took another one in: it knows and owns what both knew and owned.
pub record TakesIn (v w u : View Begun Entry) : Type 0 where
  pub own : u.own ≡ merged v.own w.own
  pub apart : Apart v.own w.own
  pub first : IsFrontOf v.known u.known
  pub second : IsFrontOf w.known u.known
  pub known : u.known ≡ longer v.known w.known

module _ {L : Type 0} (told : L → Told) where
  -- a pass that knows nothing served no link
  abbrev pub StartsIdle : Type 0
  StartsIdle = (start : Start) (most : ℕ) (v : View Begun Entry) → v.known ≡ [] → v.own ≡ []
      → IsJoined told start most v []

  -- the links of one worker alone
  abbrev pub WorksAlone : Type 0
  WorksAlone = (start : Start) (most : ℕ) (v : View Begun Entry) (ss : List (Service L))
      → IsWorking told start most v ss → IsJoined told start most v ss

  -- what stood of the links of two passes stands where one took the other in
  abbrev pub JoinsLinks : Type 0
  JoinsLinks = (start : Start) (most : ℕ) (v w u : View Begun Entry) (ss ts : List (Service L)) → TakesIn v w u
      → IsJoined told start most v ss → IsJoined told start most w ts → IsJoined told start most u (ss ++ ts)

  -- where a pass owns all entries of a history, what stood of the links stands there
  abbrev pub ServesAll : Type 0
  ServesAll = (start : Start) (most : ℕ) (v : View Begun Entry) (ss : List (Service L)) (history : List Entry)
      → IsJoined told start most v ss → Legal start history → IsFrontOf v.known history → v.own ≡ placed 0 history
      → AreServed told start most history ss
