-- What a pass over the machine's lock knows of its connections.
use Rattle.std.specs.Prelude.{◌≡◌, ◌≢◌, ℕ, ◌⊎◌, List, true, MatchOption}
use Rattle.hist_lock.specs.Histories.{In, Opened}
use Rattle.hist_lock.specs.Passes.{first_value}
use Rattle.hist_lock.specs.declared.lock.HistLock.{HistLock}
use Rattle.hist_lock.specs.Views.{Finds}
use Rattle.hist_lock.specs.declared.view.View.{View}
use Rattle.acct_machine.specs.State.{Start, is_live}
use Rattle.acct_machine.specs.Step.{state_at}
use Rattle.acct_machine.specs.declared.entry.Entry.{Entry}
use Rattle.acct_machine.specs.declared.machine.Opened as answer
use Rattle.acct_machine.specs.declared.machine.Opened.TheVariants as opens
use Rattle.acct_machine.specs.Passing.{KeepsConnection, conn_of}
use Rattle.link_sessions.specs.Turns.{HasNoCall}
use Rattle.link_sessions.specs.Transcript.{IsFrontOf}
use Rattle.door_workers.specs.steps.Lanes.{lane_of}
use Rattle.door_workers.specs.declared.kept.Begun.{Begun}
use Rattle.door_workers.specs.declared.kept.Locked.{Locked}

-- where the history of the machine under a lock began
abbrev pub start_under : {K : Type 0} → HistLock (Locked K) Entry Begun → Start
start_under lock = (first_value lock).machine.value.past.start

-- the pass opened the connection
abbrev pub IsMine : View Begun Entry → ℕ → Type 0
IsMine v k = Opened lane_of v.own k

-- the entry is of a connection that the pass opened
abbrev pub IsOfMine : View Begun Entry → Entry → Type 0
IsOfMine v e = MatchOption (conn_of e) ⊥ (IsMine v)

-- What the pass knows is a history that it may find: its own entries stand there, and of its connections there are no
-- others. And each of its own entries is of a connection that it opened.
pub record OwnsLanes (v : View Begun Entry) : Type 0 where
  pub finds : Finds lane_of v v.known
  pub opened : (p : ℕ) (e : Entry) → In v.own p e → IsOfMine v e

-- The pass opened the connection, which is live.
pub record ServesLive (start : Start) (v : View Begun Entry) (k : ℕ) : Type 0 where
  pub mine : IsMine v k
  pub live : is_live k (state_at start v.known).conns ≡ true

-- A history goes on from what the pass knows, and whatever is said of a connection that the pass opened is as it was.
pub record IsPassing (start : Start) (v : View Begun Entry) (found : List Entry) : Type 0 where
  pub grows : IsFrontOf v.known found
  pub own : (k : ℕ) → IsMine v k → KeepsConnection start k v.known found

-- Turns on one connection took the pass from one state to another: what it knew is known, the same connections are its
-- own, and of those but this one all is as it was.
pub record MovesOn (start : Start) (k : ℕ) (v w : View Begun Entry) : Type 0 where
  pub number : w.number ≡ v.number
  pub grows : IsFrontOf v.known w.known
  pub mine : (j : ℕ) → IsMine v j → IsMine w j
  pub no_more : (j : ℕ) → IsMine w j → IsMine v j
  pub others : (j : ℕ) → j ≢ k → IsMine v j → KeepsConnection start j v.known w.known

-- The connection is new, live and without a call; all others of the pass are as they were.
pub record OpensConn (start : Start) (k : ℕ) (v w : View Begun Entry) : Type 0 where
  pub serves : ServesLive start w k
  pub silent : HasNoCall start w.known k
  pub new : IsMine v k → ⊥
  pub grows : IsFrontOf v.known w.known
  pub mine : (j : ℕ) → IsMine v j → IsMine w j
  pub no_more : (j : ℕ) → IsMine w j → (j ≡ k) ⊎ IsMine v j
  pub others : (j : ℕ) → IsMine v j → KeepsConnection start j v.known w.known

-- No connection was opened, and all of the pass are as they were.
pub record OpensNone (start : Start) (v w : View Begun Entry) : Type 0 where
  pub grows : IsFrontOf v.known w.known
  pub mine : (j : ℕ) → IsMine v j → IsMine w j
  pub no_more : (j : ℕ) → IsMine w j → IsMine v j
  pub others : (j : ℕ) → IsMine v j → KeepsConnection start j v.known w.known

-- what an opening of a connection leaves a pass with
abbrev pub OpensOn : Start → answer.Opened → View Begun Entry → View Begun Entry → Type 0
OpensOn start (opens.Conn k) v w = OpensConn start k v w
OpensOn start (opens.Full count) v w = OpensNone start v w
