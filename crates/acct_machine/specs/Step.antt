-- What a call does whose handle passed, and what an event does.
use Rattle.std.specs.Prelude.{ℕ, ◌+◌, ◌==◌, List, [], ◌∷◌, ◌++◌, map, Option, Some, None, if◌then◌else◌, true, false}
use Rattle.acct_codes.specs.Pdus.{fault_context_mismatch, fault_operation_range}
use Rattle.acct_codes.specs.Statuses.{status_access_denied, status_internal_db_error, status_no_memory}
use Rattle.acct_codes.specs.Statuses.{status_object_type_mismatch}
use Rattle.acct_calls.specs.declared.calls.Call.{Call}
use Rattle.acct_calls.specs.declared.handle.Handle.{Handle}
use Rattle.acct_calls.specs.declared.replies.Outs.{Outs}
use Rattle.acct_calls.specs.declared.replies.Outs.TheVariants as outs
use Rattle.acct_calls.specs.declared.replies.Reply.{Reply}
use Rattle.acct_calls.specs.declared.replies.Reply.TheVariants.{Done, Fault}
use Rattle.acct_layouts.specs.Refusals.{is_refusal, refused_outs}
use Rattle.acct_layouts.specs.Table.{layout_of}
use Rattle.acct_layouts.specs.declared.table.Layout.{Layout}
use Rattle.acct_rows.specs.Rows.{after, remove_row}
use Rattle.acct_tables.specs.declared.object.Object.{Object}
use Rattle.acct_rows.specs.declared.plan.Plan.{Plan}
use Rattle.acct_tables.specs.declared.row.RowKey.TheVariants as keys
use Rattle.acct_rules.specs.Planned.{filled, Ruled, decision}
use Rattle.acct_rules.specs.Profiles.{Operation}
use Rattle.acct_rules.specs.declared.planned.Effect.{Effect}
use Rattle.acct_rules.specs.declared.planned.Effect.TheVariants as effects
use Rattle.acct_rules.specs.declared.planned.Planned.{Planned}
use Rattle.acct_machine.specs.Access.{held_by, object_of, access, operation_of, described, grant_of}
use Rattle.acct_machine.specs.Outbox.{outboxed}
use Rattle.acct_machine.specs.State.{State, last_serial, number_of, without_handle, without_object, Start, first}
use Rattle.acct_machine.specs.State.{without_conn}
use Rattle.acct_machine.specs.declared.checks.Access.{Access}
use Rattle.acct_machine.specs.declared.checks.Access.TheVariants.{Passed, Unknown, WrongKind, Denied}
use Rattle.acct_machine.specs.declared.entry.Entry.{Entry}
use Rattle.acct_machine.specs.declared.entry.Entry.TheVariants.{Opened, Called, Gone, Hooked}
use Rattle.acct_machine.specs.declared.entry.Verdict.{Verdict}
use Rattle.acct_machine.specs.declared.entry.Verdict.TheVariants.{Ran, StoreFault, NoMemory}
use Rattle.acct_machine.specs.declared.state.Conn.{Conn}
use Rattle.acct_machine.specs.declared.state.Held.{Held}

-- ======== what a call does whose handle passed: its operation's conditions in order, an opening as the last of them,
-- and the change

-- ---- replies

abbrev pub refused_by : Option Layout → Call → Outs
refused_by None call = outs.Nothing
refused_by (Some layout) call = refused_outs layout.outputs call.args call.handle

-- the outputs of a refusal, by the layout of the call's operation
abbrev pub refusal_outs : Call → Outs
refusal_outs call = refused_by (layout_of call.face call.opnum) call

-- the reply of what was planned: where its status is a refusal, the outputs are those of a refusal
abbrev pub replied : Call → Planned → Reply
replied call planned = Done planned.status (if is_refusal planned.status then refusal_outs call else planned.outs)

abbrev pub filled_by : Option Layout → Handle → ℕ → Outs → Outs
filled_by None handle granted out = out
filled_by (Some layout) handle granted out = filled layout.outputs handle granted out

-- what was planned, with the handle that was opened and its grant among the outputs
abbrev pub with_opened : Call → Handle → ℕ → Planned → Planned
with_opened call handle granted planned =
    record planned { outs = filled_by (layout_of call.face call.opnum) handle granted planned.outs }

-- ---- changes

-- The handle that was brought goes where it is closed, and every handle to a deleted object goes.
abbrev pub left : Effect → ℕ → ℕ → List Held → List Held
left effects.Closes conn number handles = without_handle conn number handles
left (effects.Deletes object) conn number handles = without_object object handles
left effects.Nothing conn number handles = handles
left (effects.Opens opening) conn number handles = handles
left (effects.Checks opening) conn number handles = handles

abbrev pub with_plan : State → Plan → State
with_plan s plan = record s { rows = after plan s.rows }

-- the rows after the plan, and the handles that are left
abbrev pub changed : State → ℕ → Call → Planned → State
changed s conn call planned =
    record (with_plan s planned.plan) { handles = left planned.effect conn call.handle.number s.handles }

-- the connection was given one more serial
abbrev pub serial_set : ℕ → ℕ → Conn → Conn
serial_set conn serial c = if c.number == conn then record c { serial = serial } else c

-- one more handle, with the connection's next serial
abbrev pub with_handle : State → ℕ → Object → ℕ → State
with_handle s conn object granted =
    let serial = last_serial conn s.conns + 1 in
    record s {
      conns = map (serial_set conn serial) s.conns;
      handles = s.handles ++ record { conn = conn; serial = serial; object = object; granted = granted } ∷ [];
    }

-- the handle that comes next
abbrev pub next_handle : State → ℕ → Handle
next_handle s conn = record { number = number_of conn (last_serial conn s.conns + 1) }

-- ---- the outcome

-- a refusal leaves the state as it was
abbrev pub refused : State → Call → ℕ → State × Reply
refused s call status = (s, Done status (refusal_outs call))

-- what was planned is done
abbrev pub done : State → ℕ → Call → Planned → State × Reply
done s conn call planned = (changed s conn call planned, replied call planned)

-- the same, or that its commit failed or memory ran out for it
abbrev pub done_by : State → ℕ → Call → Planned → Verdict → State × Reply
done_by s conn call planned Ran = done s conn call planned
done_by s conn call planned (StoreFault n) = refused s call status_internal_db_error
done_by s conn call planned NoMemory = refused s call status_no_memory

-- what was planned is done, and a handle to the object comes
abbrev pub opened_to : State → ℕ → Call → Planned → Object → ℕ → State × Reply
opened_to s conn call planned object granted = (
  with_handle (changed s conn call planned) conn object granted,
  replied call (with_opened call (next_handle s conn) granted planned),
)

-- an opening that isn't granted is refused
abbrev pub by_grant : State × Reply → (ℕ → State × Reply) → Option ℕ → State × Reply
by_grant denied passed None = denied
by_grant denied passed (Some granted) = passed granted

abbrev pub by_effect : State → ℕ → Call → Planned → Effect → State × Reply
by_effect s conn call planned (effects.Opens opening) =
    by_grant (refused s call status_access_denied) (opened_to s conn call planned opening.object)
    (grant_of s conn opening.object opening.desired)
by_effect s conn call planned (effects.Checks opening) =
    by_grant (refused s call status_access_denied) (λ granted. done s conn call planned)
    (grant_of s conn opening.object opening.desired)
by_effect s conn call planned effects.Nothing = done s conn call planned
by_effect s conn call planned effects.Closes = done s conn call planned
by_effect s conn call planned (effects.Deletes object) = done s conn call planned

-- what comes of a plan: its opening is checked, and then it is done
abbrev pub concluded : State → ℕ → Call → Planned → State × Reply
concluded s conn call planned = by_effect s conn call planned planned.effect

-- the same, or that its commit failed or memory ran out for it
abbrev pub concluded_by : State → ℕ → Call → Planned → Verdict → State × Reply
concluded_by s conn call planned Ran = concluded s conn call planned
concluded_by s conn call planned (StoreFault n) = refused s call status_internal_db_error
concluded_by s conn call planned NoMemory = refused s call status_no_memory

-- what the operation of a call decides, by the rows, the object of the handle and its descriptor
abbrev pub decided_of : Operation → State → Object → Call → Ruled
decided_of o s object call = o.rule s.rows (described s object) object call.args

-- what the machine does with it
abbrev pub ruled_of : Operation → State → ℕ → Call → Ruled
ruled_of o s conn call = outboxed s.config s.rows (decided_of o s (object_of (held_by s conn call)) call)

abbrev pub planned_of : Operation → State → ℕ → Call → Planned
planned_of o s conn call = decision (ruled_of o s conn call)

abbrev pub outcome : Operation → State → ℕ → Call → State × Reply
outcome o s conn call = concluded s conn call (planned_of o s conn call)

-- ======== what an event does: the state before and after it, and for a call its reply

-- ---- calls

-- what a call that ran does, by the check of its handle
abbrev pub by_access : Operation → State → ℕ → Call → Access → State × Reply
by_access o s conn call Passed = outcome o s conn call
by_access o s conn call Unknown = (s, Fault fault_context_mismatch)
by_access o s conn call WrongKind = refused s call status_object_type_mismatch
by_access o s conn call Denied = refused s call status_access_denied

-- what a call of an operation does, by its verdict
abbrev pub by_verdict : Operation → State → ℕ → Call → Verdict → State × Reply
by_verdict o s conn call Ran = by_access o s conn call (access o s conn call)
by_verdict o s conn call (StoreFault n) = refused s call status_internal_db_error
by_verdict o s conn call NoMemory = refused s call status_no_memory

-- a call that is none of an operation changes nothing; a legal history has none
abbrev pub by_operation : Option Operation → State → ℕ → Call → Verdict → State × Reply
by_operation None s conn call verdict = (s, Fault fault_operation_range)
by_operation (Some o) s conn call verdict = by_verdict o s conn call verdict

-- what a call does, and its reply
abbrev pub acted : State → ℕ → Call → Verdict → State × Reply
acted s conn call verdict = by_operation (operation_of call) s conn call verdict

-- ---- events

-- a connection that was just opened
abbrev pub new_conn : ℕ → ℕ → Conn
new_conn conn listener = record { number = conn; listener = listener; serial = 0; live = true }

-- the connection is gone
abbrev pub live_ended : ℕ → Conn → Conn
live_ended conn c = if c.number == conn then record c { live = false } else c

abbrev pub step : State → Entry → State
step s (Opened conn listener) = record s { conns = s.conns ++ new_conn conn listener ∷ [] }
step s (Called conn call verdict bytes) = (acted s conn call verdict).0
step s (Gone conn) = record s { conns = map (live_ended conn) s.conns; handles = without_conn conn s.handles }
step s (Hooked number) = record s { rows = remove_row (keys.Out number) s.rows }

-- the state after some events
abbrev pub state_after : State → List Entry → State
state_after s [] = s
state_after s (e ∷ es) = state_after (step s e) es

-- the state after a history
abbrev pub state_at : Start → List Entry → State
state_at start history = state_after (first start) history
