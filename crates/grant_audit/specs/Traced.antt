-- What holds of the traces of each legal history.
use Rattle.std.specs.Prelude.{◌≡◌, ℕ, ◌<◌, true, false, List, [], ◌∷◌, Some, All}
use Rattle.acct_config.specs.declared.config.Config.{Config}
use Rattle.acct_config.specs.Spelled.{IsRightConfig}
use Rattle.acct_rows.specs.Rows.{Lists}
use Rattle.acct_rows.specs.Sound.{IsSoundRows}
use Rattle.acct_machine.specs.declared.entry.Entry.{Entry}
use Rattle.acct_machine.specs.declared.state.Held.{Held}
use Rattle.acct_machine.specs.State.{Start}
use Rattle.acct_machine.specs.Access.{has_bits}
use Rattle.acct_machine.specs.Coming.{handle_at}
use Rattle.acct_machine.specs.Legal.{Legal, hooked_count}
use Rattle.acct_machine.specs.Outbox.{has_hook}
use Rattle.acct_machine.specs.Step.{state_at}
use Rattle.grant_audit.specs.declared.trace.Trace.{Trace}
use Rattle.grant_audit.specs.Origins.{origins}
use Rattle.grant_audit.specs.Traces.{begun, traces}

-- A history is legal that began under the configuration with the rows, whatever faults the store had had.
pub record IsLegalFrom (config : Config) (rows : Lists) (history : List Entry) : Type 0 where
  pub faults : ℕ
  pub legal : Legal (record { config = config; rows = rows; faults = faults }) history

-- Where no program is told of changes, none left the outbox: so it is in the history of each machine.
abbrev pub HooksAreTold : Config → List Entry → Type 0
HooksAreTold config history = has_hook config ≡ false → hooked_count history ≡ 0

-- One event of the history gave the handle, and no other: it came before the call, and the access check granted there
-- what the trace says. That has each bit that the call needed.
pub record IsTraced (config : Config) (rows : Lists) (history : List Entry) (trace : Trace) : Type 0 where
  pub origin : origins (begun config rows) history trace.conn trace.serial
      ≡ record { event = trace.opened; grant = Some trace.grant } ∷ []
  pub before : trace.opened < trace.entry
  pub enough : has_bits trace.grant trace.needed ≡ true

-- so it is with each trace of each legal history that begins with sound rows under a right configuration
abbrev pub TracesAreRight : Type 0
TracesAreRight =
    (config : Config) (rows : Lists) (history : List Entry) → IsRightConfig config → IsSoundRows rows
    → IsLegalFrom config rows history
    → All (IsTraced config rows history) (traces config rows history)

-- ---- each handle

-- One event gave the handle, and its opening granted what the handle has.
pub record HasOrigin (config : Config) (rows : Lists) (history : List Entry) (held : Held) : Type 0 where
  pub event : ℕ
  pub only : origins (begun config rows) history held.conn held.serial
      ≡ record { event = event; grant = Some held.granted } ∷ []

-- so it is with each handle after each such history
abbrev pub HandlesHaveOrigins : Type 0
HandlesHaveOrigins =
    (start : Start) (history : List Entry) (conn serial : ℕ) (held : Held) → IsRightConfig start.config
    → IsSoundRows start.rows → Legal start history
    → handle_at (state_at start history) conn serial ≡ Some held
    → HasOrigin start.config start.rows history held
