-- The traces of a history: for each call whose handle passed, which event gave the handle and what was granted there.
use Rattle.std.specs.Prelude.{◌+◌, List, [], ◌∷◌, ◌++◌, length, Option, Some, None, unwrap_or}
use Rattle.acct_config.specs.declared.config.Config.{Config}
use Rattle.acct_calls.specs.declared.calls.Call.{Call}
use Rattle.acct_rows.specs.Rows.{Lists}
use Rattle.acct_machine.specs.declared.entry.Entry.{Entry}
use Rattle.acct_machine.specs.declared.entry.Entry.TheVariants.{Opened, Called, Gone, Hooked}
use Rattle.acct_machine.specs.declared.state.Held.{Held}
use Rattle.acct_machine.specs.State.{State}
use Rattle.acct_machine.specs.Step.{state_after}
use Rattle.acct_machine.specs.Given.{needed_of, passed_handle}
use Rattle.grant_audit.specs.declared.trace.Trace.{Trace}
use Rattle.grant_audit.specs.Origins.{origins, first_event, first_grant}

-- The trace of a call after some events, whose handle passed: the events before it that gave the handle are one, as
-- `IsTraced` says.
abbrev pub traced : State → List Entry → Call → Option Held → List Trace
traced s before call None = []
traced s before call (Some held) =
    let from = origins s before held.conn held.serial in
    record {
      entry = length before + 1;
      conn = held.conn;
      serial = held.serial;
      opened = unwrap_or (first_event from) 0;
      grant = unwrap_or (first_grant from) 0;
      needed = needed_of (state_after s before) call;
    } ∷ []

-- the trace of an event after some others: that of a call that brings a handle which the check lets pass, if it is one,
-- whatever came of the call
abbrev pub traces_at : State → List Entry → Entry → List Trace
traces_at s before (Called conn call verdict bytes) =
    traced s before call (passed_handle (state_after s before) conn call)
traces_at s before (Opened conn listener) = []
traces_at s before (Gone conn) = []
traces_at s before (Hooked number) = []

-- the traces of events after some others, in order
abbrev pub traces_after : State → List Entry → List Entry → List Trace
traces_after s before [] = []
traces_after s before (e ∷ es) = traces_at s before e ++ traces_after s (before ++ e ∷ []) es

-- the state where a history begins: no connection, and no handle
abbrev pub begun : Config → Lists → State
begun config rows = record { config = config; rows = rows; conns = []; handles = [] }

unfoldable pub traces : Config → Lists → List Entry → List Trace
traces config rows history = traces_after (begun config rows) [] history
