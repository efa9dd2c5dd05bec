-- How the audit's own machine follows a history, and what is kept of the handles that it gave.
use Rattle.std.specs.Prelude.{◌≡◌, ℕ, ◌+◌, ◌^◌, ◌≤◌, ◌<◌, ◌==◌, Bool, true, false, List, [], ◌∷◌, ◌++◌, length}
use Rattle.std.specs.Prelude.{Option, Some, None, unwrap_or, option_to_list, if◌then◌else◌, ⊤}
use Rattle.std.specs.List.{filter}
use Rattle.acct_config.specs.declared.config.Config.{Config}
use Rattle.acct_config.specs.Spelled.{IsRightConfig}
use Rattle.acct_calls.specs.declared.calls.Call.{Call}
use Rattle.acct_rows.specs.Rows.{Lists}
use Rattle.acct_rows.specs.Sound.{IsSoundRows}
use Rattle.acct_machine.specs.declared.entry.Verdict.TheVariants.{Ran, StoreFault, NoMemory}
use Rattle.acct_machine.specs.declared.entry.Entry.{Entry}
use Rattle.acct_machine.specs.declared.entry.Entry.TheVariants.{Opened, Called, Gone, Hooked}
use Rattle.acct_machine.specs.declared.state.Held.{Held}
use Rattle.acct_machine.specs.State.{State, is_live, last_serial, number_of}
use Rattle.acct_machine.specs.Access.{IsCall}
use Rattle.acct_machine.specs.Legal.{conns_full, TakesCall}
use Rattle.acct_machine.specs.Step.{state_after}
use Rattle.acct_machine.specs.Given.{needed_of, passed_handle}
use Rattle.acct_machine.specs.Hooking.{IsFirst}
use Rattle.acct_machine.specs.Outbox.{has_hook}
use Rattle.acct_machine.specs.Shown.{Past}
use Rattle.acct_machine.specs.Machine.{state_of, with_entry}
use Rattle.grant_audit.specs.declared.trace.Trace.{Trace}
use Rattle.grant_audit.specs.Origins.{origins, first_event}
use Rattle.grant_audit.specs.Traced.{HooksAreTold, IsLegalFrom}
use Rattle.grant_audit.specs.Traces.{begun, traces}

-- ---- the machine

-- an event changed the state, as far as its verdict tells: a call whose commit failed or that ran out of memory didn't
abbrev pub has_effect : Entry → Bool
has_effect (Opened conn listener) = true
has_effect (Called conn call Ran bytes) = true
has_effect (Called conn call (StoreFault n) bytes) = false
has_effect (Called conn call NoMemory bytes) = false
has_effect (Gone conn) = true
has_effect (Hooked number) = true

-- the machine follows an event
abbrev pub followed : Past → Entry → Past
followed past e = if has_effect e then with_entry past e else past

-- where it can
abbrev pub MayFollow : Past → Entry → Type 0
MayFollow past (Opened conn listener) =
    (listener < length past.start.config.listeners) × (conns_full past.start past.history ≡ None)
    × (conn ≡ length (state_of past).conns + 1)
MayFollow past (Called conn call verdict bytes) =
    (is_live conn (state_of past).conns ≡ true) × IsCall call × TakesCall past.start past.history bytes
MayFollow past (Gone conn) = is_live conn (state_of past).conns ≡ true
MayFollow past (Hooked number) = (has_hook past.start.config ≡ true) × IsFirst past number

-- a change of an account was taken from the outbox
abbrev pub is_hooked : Entry → Bool
is_hooked (Opened conn listener) = false
is_hooked (Called conn call verdict bytes) = false
is_hooked (Gone conn) = false
is_hooked (Hooked number) = true

-- the last event of a history is a call that ran
abbrev pub has_run : Option Entry → Bool
has_run (Some (Called conn call Ran bytes)) = true
has_run _ = false

-- ---- the openings: the event that gave each handle, by the handle's number

abbrev pub Openings : Type 0
Openings = ℕ → Option ℕ

-- The last handle of a connection had one number and has another: where they differ it was given by this event.
abbrev pub noted : ℕ → ℕ → ℕ → Openings → Openings
noted was now event at number =
    if was == now then at number else if now == number then Some event else at number

-- the trace of a call whose handle passed, by the handle that the machine has
abbrev pub seen : State → Openings → ℕ → Call → Option Held → Option Trace
seen s at event call None = None
seen s at event call (Some held) = Some (record {
  entry = event;
  conn = held.conn;
  serial = held.serial;
  opened = unwrap_or (at call.handle.number) 0;
  grant = held.granted;
  needed = needed_of s call;
})

-- the number of the last handle of a connection
abbrev pub last_number : State → ℕ → ℕ
last_number s conn = number_of conn (last_serial conn s.conns)

-- what an event adds to the traces, and what is known of the openings after it
abbrev pub traces_more : Past → Openings → ℕ → Entry → List Trace
traces_more past at event (Called conn call verdict bytes) =
    option_to_list (seen (state_of past) at event call (passed_handle (state_of past) conn call))
traces_more past at event (Opened conn listener) = []
traces_more past at event (Gone conn) = []
traces_more past at event (Hooked number) = []

abbrev pub openings_more : Past → Openings → ℕ → Entry → Openings
openings_more past at event (Called conn call verdict bytes) =
    noted (last_number (state_of past) conn)
    (last_number (state_of (followed past (Called conn call verdict bytes))) conn) event at
openings_more past at event (Opened conn listener) = at
openings_more past at event (Gone conn) = at
openings_more past at event (Hooked number) = at

-- An event of this number was traced and followed.
pub record TracesEvent (old : Past) (old_at : Openings) (event : ℕ) (e : Entry) (found : List Trace) (new : Past)
    (new_at : Openings) (all : List Trace) : Type 0 where
  pub past : new ≡ followed old e
  pub openings : (number : ℕ) → new_at number ≡ openings_more old old_at event e number
  pub traces : all ≡ found ++ traces_more old old_at event e

-- ---- all events of a history

-- the machine may follow each, one after the other
abbrev pub MayWalk : Past → List Entry → Type 0
MayWalk past [] = ⊤
MayWalk past (e ∷ es) = MayFollow past e × MayWalk (followed past e) es

-- Each was traced and followed, from the event with the number n on.
abbrev pub Walks : Past → Openings → ℕ → List Entry → List Trace → Past → Openings → List Trace → Type 0
Walks past at n [] found new new_at all = (new ≡ past) × (new_at ≡ at) × (all ≡ found)
Walks past at n (e ∷ es) found new new_at all =
    (mid : Past) × (mid_at : Openings) × (more : List Trace) × TracesEvent past at n e found mid mid_at more
    × Walks mid mid_at (n + 1) es more new new_at all

-- what was found so is what the definition says
abbrev pub WalksAreTraces : Type 0
WalksAreTraces =
    (config : Config) (rows : Lists) (history : List Entry) → IsRightConfig config → IsSoundRows rows
    → IsLegalFrom config rows history → HooksAreTold config history → (past : Past) (at : Openings)
    → past ≡ record { start = record { config = config; rows = rows; faults = 0 }; history = [] }
    → ((number : ℕ) → at number ≡ None)
    → MayWalk past history
    × ((new : Past) (new_at : Openings) (all : List Trace) → length history < 2 ^ 64
    → Walks past at 1 history [] new new_at all → all ≡ traces config rows history)

-- ---- a whole history

-- The machine has followed the events, and the openings of all handles that were given are known.
pub record Follows (config : Config) (rows : Lists) (before : List Entry) (past : Past) (at : Openings) : Type 0 where
  pub start : past.start ≡ record { config = config; rows = rows; faults = 0 }
  pub history : past.history ≡ filter has_effect before
  pub known : (conn serial : ℕ) → serial ≤ last_serial conn (state_after (begun config rows) before).conns
      → at (number_of conn serial) ≡ first_event (origins (begun config rows) before conn serial)
