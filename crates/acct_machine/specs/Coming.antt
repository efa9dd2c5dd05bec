-- How handles come: one at a time, each with the next serial of its connection, by a call that ran and opened it.
use Rattle.std.specs.Prelude.{◌≡◌, ◌≢◌, ℕ, ◌≤◌, List, length, Option, Some, None, ◌⊎◌}
use Rattle.acct_config.specs.Spelled.{IsRightConfig}
use Rattle.acct_calls.specs.declared.calls.Call.{Call}
use Rattle.acct_rows.specs.Sound.{IsSoundRows}
use Rattle.acct_rules.specs.declared.planned.Opening.{Opening}
use Rattle.acct_rules.specs.Profiles.{Operation}
use Rattle.acct_machine.specs.declared.entry.Verdict.TheVariants.{Ran}
use Rattle.acct_machine.specs.declared.entry.Entry.{Entry}
use Rattle.acct_machine.specs.declared.entry.Entry.TheVariants.{Called}
use Rattle.acct_machine.specs.declared.state.Held.{Held}
use Rattle.acct_machine.specs.State.{State, Start, last_serial, number_of, find_handle}
use Rattle.acct_machine.specs.Step.{step, state_at}
use Rattle.acct_machine.specs.Legal.{May, Legal}
use Rattle.acct_machine.specs.Grants.{OpensHandle}

-- the connection's handle with a serial
abbrev pub handle_at : State → ℕ → ℕ → Option Held
handle_at s conn serial = find_handle conn (number_of conn serial) s.handles

-- The connection was given no handle: its last serial is as it was, and each handle that it has it had before.
pub record GivesNone (s new : State) (conn : ℕ) : Type 0 where
  pub last : last_serial conn new.conns ≡ last_serial conn s.conns
  pub had : (serial : ℕ) (held : Held) → handle_at new conn serial ≡ Some held → handle_at s conn serial ≡ Some held

-- The connection was given one handle: the event is a call that ran and opened it. The handle has the serial that came
-- next, which no handle had, and each other handle that the connection has it had before.
pub record GivesOne (s : State) (e : Entry) (new : State) (conn : ℕ) : Type 0 where
  pub held : Held
  pub call : Call
  pub bytes : ℕ
  pub o : Operation
  pub opening : Opening
  pub event : e ≡ Called conn call Ran bytes
  pub of_conn : held.conn ≡ conn
  pub opened : OpensHandle s held call o opening
  pub last : last_serial conn new.conns ≡ held.serial
  pub fresh : handle_at s conn held.serial ≡ None
  pub there : handle_at new conn held.serial ≡ Some held
  pub others : (serial : ℕ) (other : Held) → serial ≢ held.serial → handle_at new conn serial ≡ Some other
      → handle_at s conn serial ≡ Some other

-- so it is with each event that may come after a legal history, of each connection
abbrev pub HandlesComeInOrder : Type 0
HandlesComeInOrder =
    (start : Start) (before : List Entry) (e : Entry) (conn : ℕ) → IsRightConfig start.config → IsSoundRows start.rows
    → Legal start before → May start before e
    → GivesNone (state_at start before) (step (state_at start before) e) conn
    ⊎ GivesOne (state_at start before) e (step (state_at start before) e) conn

-- no serial is above the number of events
abbrev pub SerialsAreFew : Type 0
SerialsAreFew =
    (start : Start) (history : List Entry) (conn : ℕ)
    → last_serial conn (state_at start history).conns ≤ length history

-- a handle that is found by a number is of that connection, and its serial gives the number
abbrev pub HandlesAreFound : Type 0
HandlesAreFound =
    (s : State) (conn number : ℕ) (held : Held) → find_handle conn number s.handles ≡ Some held
    → (held.conn ≡ conn) × (number_of conn held.serial ≡ number)
