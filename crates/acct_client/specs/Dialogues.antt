-- The dialogue of a client with its peer: what is sent in each state, and how it stands after an answer.
use Rattle.std.specs.Prelude.{ℕ, ◌+◌, ◌%◌, ◌^◌, ◌≤◌, Bool, true, false, List, [], ◌++◌}
use Rattle.std.specs.Prelude.{Option, Some, None, Result, Ok, Err, if◌then◌else◌}
use Rattle.acct_codes.specs.Limits.{least_fragment, most_fragment}
use Rattle.acct_calls.specs.declared.calls.Call.{Call}
use Rattle.acct_calls.specs.declared.calls.Face.{Face}
use Rattle.acct_calls.specs.declared.calls.Face.TheVariants.{Samr, Lsa}
use Rattle.acct_calls.specs.declared.replies.Reply.{Reply}
use Rattle.acct_stubs.specs.Calls.{spell}
use Rattle.acct_stubs.specs.Replies.{reply_at}
use Rattle.acct_stubs.specs.Arguments.{Wire}
use Rattle.acct_stubs.specs.declared.errors.WireError.{WireError}
use Rattle.samr_wire.specs.Interface.{samr}
use Rattle.lsa_wire.specs.Interface.{lsa}
use Rattle.acct_client.specs.declared.answers.Awaited.{Awaited}
use Rattle.acct_client.specs.declared.answers.Awaited.TheVariants as awaited
use Rattle.acct_client.specs.declared.answers.Answer.{Answer}
use Rattle.acct_client.specs.declared.answers.Answer.TheVariants as answer
use Rattle.client_commands.specs.declared.command.Command.{Command}
use Rattle.acct_client.specs.declared.dialogue.State.{State}
use Rattle.acct_client.specs.declared.dialogue.State.TheVariants.{Binding, Calling, Ended, Failed}
use Rattle.acct_client.specs.declared.dialogue.Progress.{Progress}
use Rattle.acct_client.specs.declared.dialogue.Talk.{Talk}
use Rattle.acct_client.specs.declared.errors.AskError.{AskError}
use Rattle.acct_client.specs.declared.errors.AskError.TheVariants.{PeerBytes, PeerFault, Refused}
use Rattle.acct_client.specs.declared.hearing.Listening.{Listening}
use Rattle.acct_client.specs.declared.hearing.Heard.{Heard}
use Rattle.acct_client.specs.declared.hearing.Heard.TheVariants as heard
use Rattle.client_commands.specs.declared.outcomes.Outcome.{Outcome}
use Rattle.client_commands.specs.declared.outcomes.Outcome.TheVariants.{Goes, Ends, Refuses, Unfit}
use Rattle.client_commands.specs.declared.steps.Step.{Step}
use Rattle.client_commands.specs.declared.steps.Step.TheVariants.{Opening}
use Rattle.client_commands.specs.Fit.{IsFitCommand, IsFitStep}
use Rattle.acct_client.specs.Hearings.{on, listening}
use Rattle.client_commands.specs.Outcomes.{after, refused_line}
use Rattle.acct_client.specs.Requests.{bind_bytes, context_of, request_bytes}
use Rattle.rpc_session.specs.Answers.{size_for}
use Rattle.client_commands.specs.Words.{call_of}

-- ---- what is sent

abbrev pub wire_of : Face → Wire
wire_of Samr = samr
wire_of Lsa = lsa

-- the requests of a call
unfoldable pub call_bytes : ℕ → ℕ → Call → List ℕ
call_bytes id size call = request_bytes id (context_of call.face) call.opnum size (spell (wire_of call.face) call)

-- the bind first, then the call of each step
abbrev pub sent : State → Option (List ℕ)
sent (Binding command) = Some bind_bytes
sent (Calling step id size) = Some (call_bytes id size (call_of step))
sent Ended = None
sent (Failed e) = None

-- whether an answer is awaited once this was sent
abbrev pub awaits : State → Bool
awaits (Binding command) = true
awaits (Calling step id size) = true
awaits Ended = false
awaits (Failed e) = false

abbrev pub asked : Talk → Talk
asked t = record t { is_awaiting = awaits t.state }

-- ---- what an answer does

-- the answer isn't whole
abbrev pub waits : State → Listening → Progress
waits state left = record { state = state; is_awaiting = true; left = left; printed = [] }

-- the answer is whole: the next state, and the lines that are printed
abbrev pub goes_to : State → Listening → List ℕ → Progress
goes_to state left lines = record { state = state; is_awaiting = false; left = left; printed = lines }

-- nothing is left to hear
abbrev pub silence : Listening
silence = listening 0 None []

-- after an error nothing more is heard
abbrev pub failed : AskError → Progress
failed e = goes_to (Failed e) silence []

-- a refusal with its line
abbrev pub refused : AskError → ℕ → Progress
refused e status = goes_to (Failed e) silence (refused_line status)

-- call ids are counted from 1, which is the bind's
abbrev pub next_id : ℕ → ℕ
next_id id = (id + 1) % 2 ^ 32

unfoldable pub turned : ℕ → ℕ → ℕ → Listening → Outcome → Progress
turned id size place left (Goes lines next) = goes_to (Calling next (next_id id) size) left lines
turned id size place left (Ends lines) = goes_to Ended left lines
turned id size place left (Refuses status) = refused (Refused status) status
turned id size place left Unfit = failed (PeerBytes place)

-- a stub that spells no reply is no answer from its first response on
unfoldable pub replied : Step → ℕ → ℕ → ℕ → Listening → Result Reply WireError → Progress
replied step id size place left (Ok reply) = turned id size place left (after step reply)
replied step id size place left (Err e) = failed (PeerBytes place)

unfoldable pub reply_in : Call → List ℕ → Result Reply WireError
reply_in call stub = reply_at (wire_of call.face) call.opnum stub

-- A fault and a bind_nak end the dialogue. No bind_ack comes while a reply is awaited, and no reply before it.
unfoldable pub answered : State → Listening → Answer → Progress
answered state left (answer.Fault status) = refused (PeerFault status) status
answered state left answer.Nak = refused (PeerFault 0) 0
answered (Binding command) left (answer.Bound recv) = goes_to (Calling (Opening command) 2 (size_for recv)) left []
answered (Calling step id size) left (answer.Stub place stub) =
    replied step id size place left (reply_in (call_of step) stub)
answered state left _ = failed (PeerBytes left.place)

unfoldable pub told : State → Heard → Progress
told state (heard.Waits left) = waits state left
told state (heard.NoAnswer place) = failed (PeerBytes place)
told state (heard.Answered answer left) = answered state left answer

abbrev pub awaited_of : State → Awaited
awaited_of (Calling step id size) = awaited.Reply id
awaited_of _ = awaited.Binding

abbrev pub is_failed : State → Bool
is_failed (Failed e) = true
is_failed _ = false

-- what more bytes of the peer do while an answer is awaited
unfoldable pub progress : State → Listening → List ℕ → Progress
progress state left piece = told state (on (awaited_of state) left piece)

abbrev pub joined : Talk → Progress → Talk
joined t p = record { state = p.state; is_awaiting = p.is_awaiting; left = p.left; lines = t.lines ++ p.printed }

-- after an error nothing changes
unfoldable pub took : Talk → List ℕ → Talk
took t piece = if is_failed t.state then t else joined t (progress t.state t.left piece)

-- ---- what stands

-- the first state of a command
abbrev pub begun : Command → Talk
begun command = record { state = Binding command; is_awaiting = false; left = listening 0 None []; lines = [] }

-- what every state keeps: its call can be written
abbrev pub IsFitState : State → Type 0
IsFitState (Binding command) = IsFitCommand command
IsFitState (Calling step id size) = IsFitStep step × (least_fragment ≤ size) × (size ≤ most_fragment)
IsFitState Ended = Unit {0}
IsFitState (Failed e) = Unit {0}
