-- What a turn of a gate finds and leaves: the machine's own clauses, at the history that the turn itself finds.
use Rattle.std.specs.Prelude.{◌≡◌, ℕ, List, []}
use Rattle.acct_calls.specs.declared.calls.Call.{Call}
use Rattle.acct_machine.specs.declared.entry.Entry.{Entry}
use Rattle.acct_machine.specs.declared.machine.Acted.{Acted}
use Rattle.acct_machine.specs.declared.machine.Opened.{Opened}
use Rattle.acct_machine.specs.declared.machine.Opened.TheVariants as opens
use Rattle.acct_machine.specs.State.{Start}
use Rattle.acct_machine.specs.Step.{state_at}
use Rattle.acct_machine.specs.Shown.{Past}
use Rattle.acct_machine.specs.Legal.{Legal, calls_of, replies}
use Rattle.acct_machine.specs.Machine.{Opens, OpensFresh, OpensLive, Acts, ActsCalls, SameLive, SameCalls, Ends}
use Rattle.acct_machine.specs.Machine.{OneLessLive}

abbrev pub shown : Start → List Entry → Past
shown start history = record { start = start; history = history }

-- A turn found one of the histories that it may find, and did this to it.
pub record Turn (finds : List Entry → Type 0) (does : List Entry → List Entry → Type 0) (left : List Entry) : Type 0
  where
    pub found : List Entry
    pub finds_it : finds found
    pub does_it : does found left

-- what an opening of a connection does
pub record MachineOpens (start : Start) (listener : ℕ) (answer : Opened) (found left : List Entry) : Type 0 where
  pub opens : Opens (shown start found) listener answer (shown start left)
  pub fresh : OpensFresh (shown start found) answer
  pub live : OpensLive (shown start found) answer (shown start left)
  pub calls : SameCalls (shown start found) (shown start left)
  pub legal : Legal start left

-- what a call does
pub record MachineActs (start : Start) (conn : ℕ) (call : Call) (bytes : ℕ) (answer : Acted)
    (found left : List Entry) : Type 0 where
  pub acts : Acts (shown start found) conn call bytes answer (shown start left)
  pub live : SameLive (state_at start found) (state_at start left)
  pub calls : ActsCalls (shown start found) conn call bytes answer (shown start left)
  pub legal : Legal start left

-- what the end of a connection does
pub record MachineEnds (start : Start) (conn : ℕ) (found left : List Entry) : Type 0 where
  pub ends : Ends (shown start found) conn (shown start left)
  pub live : OneLessLive (state_at start found) (state_at start left) conn
  pub calls : SameCalls (shown start found) (shown start left)
  pub legal : Legal start left

-- the connection has made no call yet
pub record HasNoCall (start : Start) (history : List Entry) (conn : ℕ) : Type 0 where
  pub calls : calls_of conn history ≡ []
  pub replies : replies start conn history ≡ []

-- P holds of the connection that was opened
abbrev pub IfConn : Opened → (ℕ → Type 0) → Type 0
IfConn (opens.Conn conn) P = P conn
IfConn (opens.Full count) P = Unit {0}
