-- What an opening of a connection appends to the history under the lock.
use Rattle.std.proofs.Common.{◌≡◌, ℕ, inl, inr, Some, ap}
use Rattle.hist_lock.specs.Lanes.{names_none, IsOfLane}
use Rattle.hist_lock.specs.Histories.{Appends}
use Rattle.acct_machine.specs.declared.entry.Entry.{Entry}
use Rattle.acct_machine.specs.declared.entry.Entry.TheVariants as entry
use Rattle.acct_machine.specs.declared.machine.Opened.{Opened}
use Rattle.acct_machine.specs.declared.machine.Opened.TheVariants as answer
use Rattle.acct_machine.specs.Machine.{Opens, OpensFresh}
use Rattle.acct_machine.specs.Passing.{conn_of}
use Rattle.acct_machine.specs.Shown.{Past}
use Rattle.door_workers.specs.steps.Lanes.{lane_of}
use Rattle.door_workers.proofs.Passing.{others-at}

-- an entry of a lane is of that connection
lane-conn : (e : Entry) (k : ℕ) → IsOfLane (lane_of e) k → conn_of e ≡ Some k
lane-conn (entry.Opened conn listener) k (inl is) = cc
lane-conn (entry.Opened conn listener) k (inr is) = absurd cc
lane-conn (entry.Called conn call verdict bytes) k (inl is) = absurd cc
lane-conn (entry.Called conn call verdict bytes) k (inr is) = cc
lane-conn (entry.Gone conn) k (inl is) = absurd cc
lane-conn (entry.Gone conn) k (inr is) = cc
lane-conn (entry.Hooked number) k (inl is) = absurd cc
lane-conn (entry.Hooked number) k (inr is) = absurd cc

pub opening-appends : (old new : Past) (listener : ℕ) (out : Opened) → Opens old listener out new → OpensFresh old out
    → Appends lane_of names_none old.history new.history
opening-appends old new listener (answer.Conn k) opened fresh = inr (
  entry.Opened k listener,
  ap (λ (s : Past). s.history) opened.2,
  λ p e at of. others-at k old.history p e fresh at (lane-conn e k of),
)
opening-appends old new listener (answer.Full count) opened fresh = inl (ap (λ (s : Past). s.history) opened.1)
