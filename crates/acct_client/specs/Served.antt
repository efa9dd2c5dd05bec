-- What a server's replies come to: the bytes that bring them, of which their lines are printed.
use Rattle.std.specs.Prelude.{◌≡◌, ℕ, ◌≤◌, List, [], ◌∷◌, ◌++◌, length}
use Rattle.acct_codes.specs.Limits.{least_fragment, most_stub}
use Rattle.acct_codes.specs.Pdus.{result_acceptance}
use Rattle.acct_calls.specs.declared.calls.Call.{Call}
use Rattle.acct_calls.specs.declared.replies.Reply.{Reply}
use Rattle.acct_calls.specs.declared.replies.Reply.TheVariants as reply
use Rattle.acct_layouts.specs.ReplyShapes.{HasShape}
use Rattle.acct_stubs.specs.Replies.{spell_reply}
use Rattle.rpc_pdu.specs.declared.pdus.Outcome.{Outcome}
use Rattle.rpc_pdu.specs.declared.pdus.Pdu.TheVariants.{BindAck}
use Rattle.rpc_pdu.specs.Written.{written, IsWholeOutcome}
use Rattle.rpc_session.specs.Answers.{fault_bytes, reply_bytes}
use Rattle.client_commands.specs.declared.command.Command.{Command}
use Rattle.client_commands.specs.declared.outcomes.Outcome.{Outcome as Brought}
use Rattle.client_commands.specs.declared.outcomes.Outcome.TheVariants.{Goes, Ends, Refuses, Unfit}
use Rattle.client_commands.specs.declared.steps.Step.{Step}
use Rattle.client_commands.specs.declared.steps.Step.TheVariants.{Opening}
use Rattle.client_commands.specs.Outcomes.{after}
use Rattle.client_commands.specs.Words.{call_of}
use Rattle.acct_client.specs.Answered.{bytes_on, lines_of}
use Rattle.acct_client.specs.Dialogues.{next_id, wire_of}
use Rattle.acct_client.specs.Requests.{context_of}
use Rattle.acct_client.specs.Talks.{spoken}

-- ---- the bytes

abbrev pub stub_of : Call → Reply → List ℕ
stub_of call r = spell_reply (wire_of call.face) call.opnum r

-- a call's reply: a fault, or its stub in responses of at most so many bytes
abbrev pub answer_bytes : ℕ → ℕ → Call → Reply → List ℕ
answer_bytes size id call (reply.Fault status) = fault_bytes id (context_of call.face) status
answer_bytes size id call (reply.Done status outs) =
    reply_bytes id (context_of call.face) size (stub_of call (reply.Done status outs))

-- a step's reply and those after it, with call ids from this one on
unfoldable pub bytes_of : ℕ → List Reply → ℕ → Step → List ℕ
bytes_of size [] id step = []
bytes_of size (r ∷ replies) id step =
    answer_bytes size id (call_of step) r ++ bytes_on (after step r) (λ next. bytes_of size replies (next_id id) next)

-- ---- which replies a server sends

-- a fault, or a reply that has its operation's shape, with a stub of at most 1,048,576 bytes
abbrev pub IsAnswer : Call → Reply → Type 0
IsAnswer call (reply.Fault status) = Unit {0}
IsAnswer call (reply.Done status outs) =
    HasShape call.face call.opnum (reply.Done status outs)
    × (length (stub_of call (reply.Done status outs)) ≤ most_stub)

abbrev pub AreOn : Brought → (Step → Type 0) → Type 0
AreOn (Goes lines next) later = later next
AreOn (Ends lines) later = Unit {0}
AreOn (Refuses status) later = Unit {0}
AreOn Unfit later = Unit {0}

unfoldable pub AreAnswers : List Reply → Step → Type 0
AreAnswers [] step = Unit {0}
AreAnswers (r ∷ replies) step = IsAnswer (call_of step) r × AreOn (after step r) (λ next. AreAnswers replies next)

-- ---- the law

-- both contexts are accepted
abbrev pub accepted : ℕ → ℕ → ℕ → Outcome → Outcome → List ℕ
accepted xmit recv group first second = written (BindAck 1 xmit recv group (first ∷ second ∷ []))

-- Over the bytes that a server's replies are brought by, in fragments of any size, the lines are those of the replies.
abbrev pub PrintsReplies : Type 0
PrintsReplies = (command : Command) (replies : List Reply) (xmit recv group size : ℕ) (first second : Outcome)
    → first.result ≡ result_acceptance → second.result ≡ result_acceptance
    → IsWholeOutcome first → IsWholeOutcome second
    → least_fragment ≤ size → AreAnswers replies (Opening command)
    → (spoken command (accepted xmit recv group first second ++ bytes_of size replies 2 (Opening command))).lines
    ≡ lines_of replies (Opening command)
