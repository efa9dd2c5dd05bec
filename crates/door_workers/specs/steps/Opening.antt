-- How a pass opens a connection at a listener.
use Rattle.std.specs.Prelude.{◌≡◌, ℕ, List, [], ◌∷◌, ◌++◌, Some}
use Rattle.hist_lock.specs.declared.view.View.{View}
use Rattle.acct_machine.specs.State.{Start}
use Rattle.acct_machine.specs.Legal.{Legal, conns_full}
use Rattle.acct_machine.specs.declared.entry.Entry.{Entry}
use Rattle.acct_machine.specs.declared.entry.Entry.TheVariants as entry
use Rattle.acct_machine.specs.declared.machine.Opened as answer
use Rattle.acct_machine.specs.declared.machine.Opened.TheVariants as opens
use Rattle.door_workers.specs.declared.kept.Begun.{Begun}
use Rattle.door_workers.specs.steps.Passing.{OpensConn, OpensNone}

-- A connection was opened at the listener, and that is the last that the pass knows.
pub record OpensWith (start : Start) (listener k : ℕ) (v w : View Begun Entry) : Type 0 where
  pub conn : OpensConn start k v w
  pub legal : Legal start w.known
  pub before : List Entry
  pub entered : w.known ≡ before ++ entry.Opened k listener ∷ []

-- None was opened: what the pass knows takes no further connection, having so many.
pub record OpensNot (start : Start) (count : ℕ) (v w : View Begun Entry) : Type 0 where
  pub none : OpensNone start v w
  pub legal : Legal start w.known
  pub full : conns_full start w.known ≡ Some count

abbrev pub OpensAt : Start → ℕ → answer.Opened → View Begun Entry → View Begun Entry → Type 0
OpensAt start listener (opens.Conn k) v w = OpensWith start listener k v w
OpensAt start listener (opens.Full count) v w = OpensNot start count v w
