-- Where a handle comes from: the events whose step gave it to its connection.
use Rattle.std.specs.Prelude.{ℕ, ◌+◌, Bool, ◌&&◌, is_none, is_some, List, [], ◌∷◌, Option, Some, None}
use Rattle.std.specs.Prelude.{if◌then◌else◌}
use Rattle.acct_calls.specs.declared.calls.Call.{Call}
use Rattle.acct_rules.specs.declared.planned.Opening.{Opening}
use Rattle.acct_rules.specs.Planned.{opening_of}
use Rattle.acct_rules.specs.Profiles.{Operation}
use Rattle.acct_machine.specs.declared.entry.Entry.{Entry}
use Rattle.acct_machine.specs.declared.entry.Entry.TheVariants.{Opened, Called, Gone, Hooked}
use Rattle.acct_machine.specs.State.{State}
use Rattle.acct_machine.specs.Access.{grant_of, operation_of}
use Rattle.acct_machine.specs.Step.{planned_of, step}
use Rattle.acct_machine.specs.Coming.{handle_at}

-- the step of an event gives the connection the handle with this serial: it wasn't there before, and is there after
abbrev pub gives : State → Entry → ℕ → ℕ → Bool
gives s e conn serial = is_none (handle_at s conn serial) && is_some (handle_at (step s e) conn serial)

-- ---- what the access check granted there

-- what an opening grants that is planned
abbrev pub granted_to : State → ℕ → Option Opening → Option ℕ
granted_to s conn None = None
granted_to s conn (Some opening) = grant_of s conn opening.object opening.desired

abbrev pub granted_by : Option Operation → State → ℕ → Call → Option ℕ
granted_by None s conn call = None
granted_by (Some o) s conn call = granted_to s conn (opening_of (planned_of o s conn call).effect)

-- what the opening of an event's call grants: what the access check gives over the descriptor that the object has then
-- and the token of the connection's listener
abbrev pub granted_in : State → Entry → Option ℕ
granted_in s (Called conn call verdict bytes) = granted_by (operation_of call) s conn call
granted_in s (Opened conn listener) = None
granted_in s (Gone conn) = None
granted_in s (Hooked number) = None

-- ---- the events of a history that gave a handle

-- the number of the event, and what its opening granted
pub record Origin : Type 0 where
  pub event : ℕ
  pub grant : Option ℕ

-- From a state on, where the next event has the number n: the events that gave the handle, in order.
abbrev pub origins_from : State → ℕ → List Entry → ℕ → ℕ → List Origin
origins_from s n [] conn serial = []
origins_from s n (e ∷ es) conn serial =
    let later = origins_from (step s e) (n + 1) es conn serial in
    if gives s e conn serial then record { event = n; grant = granted_in s e } ∷ later else later

-- the events of a history that gave the handle, where events are numbered from 1
abbrev pub origins : State → List Entry → ℕ → ℕ → List Origin
origins s history conn serial = origins_from s 1 history conn serial

-- the number of the first of them
abbrev pub first_event : List Origin → Option ℕ
first_event [] = None
first_event (origin ∷ later) = Some origin.event

-- what was granted at the first of them
abbrev pub first_grant : List Origin → Option ℕ
first_grant [] = None
first_grant (origin ∷ later) = origin.grant
