-- What the bytes of a peer answer to a command's calls, and what the client sends and prints of these answers (C706,
-- sections 12.6.3.1 and 12.6.4).
use Rattle.std.specs.Prelude.{◌≡◌, ℕ, ◌≤◌, Bool, true, false, not, ◌==◌, bit_and, List, [], ◌∷◌, ◌++◌, length}
use Rattle.std.specs.Prelude.{Option, Some, None, is_none, unwrap_or, Result, Ok, Err}
use Rattle.acct_codes.specs.Limits.{most_stub}
use Rattle.acct_codes.specs.Pdus.{result_acceptance, pfc_first_frag, pfc_last_frag}
use Rattle.acct_calls.specs.declared.replies.Reply.{Reply}
use Rattle.acct_calls.specs.declared.replies.Reply.TheVariants as reply
use Rattle.rpc_pdu.specs.Grammar.{IsPdu}
use Rattle.rpc_pdu.specs.declared.pdus.Pdu.{Pdu}
use Rattle.rpc_pdu.specs.declared.pdus.Pdu.TheVariants.{BindAck, BindNak, Response, Fault}
use Rattle.rpc_pdu.specs.declared.pdus.Side.TheVariants.{Client}
use Rattle.rpc_session.specs.Answers.{size_for}
use Rattle.client_commands.specs.declared.command.Command.{Command}
use Rattle.client_commands.specs.declared.outcomes.Outcome.{Outcome}
use Rattle.client_commands.specs.declared.outcomes.Outcome.TheVariants.{Goes, Ends, Refuses, Unfit}
use Rattle.client_commands.specs.declared.steps.Step.{Step}
use Rattle.client_commands.specs.declared.steps.Step.TheVariants.{Opening}
use Rattle.client_commands.specs.Outcomes.{after, refused_line}
use Rattle.client_commands.specs.Words.{call_of}
use Rattle.acct_client.specs.declared.ends.TalkEnd.{TalkEnd}
use Rattle.acct_client.specs.declared.ends.TalkEnd.TheVariants.{Done, Refused}
use Rattle.acct_client.specs.Dialogues.{call_bytes, next_id, reply_in}
use Rattle.acct_client.specs.Requests.{bind_bytes}

-- ======== one answer: the whole PDUs that bring it

-- bytes begin with these PDUs, whole one after the other, and then comes the rest
unfoldable pub BeginWith : List Pdu → List ℕ → List ℕ → Type 0
BeginWith [] bytes rest = rest ≡ bytes
BeginWith (pdu ∷ pdus) bytes rest =
    (own : List ℕ) × (later : List ℕ) × (bytes ≡ own ++ later) × IsPdu Client pdu own × BeginWith pdus later rest

-- a fault, or a bind_nak, which has no status: 0
abbrev pub Denies : ℕ → Pdu → Type 0
Denies status (Fault id context given) = given ≡ status
Denies status (BindNak id reason) = 0 ≡ status
Denies status _ = ⊥

-- To the bind: a bind_ack that accepts both contexts, of a peer that takes fragments of so many bytes; or a denial.
abbrev pub AnswersBind : Result ℕ ℕ → Pdu → Type 0
AnswersBind (Ok size) (BindAck id xmit recv group (first ∷ second ∷ [])) =
    (recv ≡ size) × (first.result ≡ result_acceptance) × (second.result ≡ result_acceptance)
AnswersBind (Ok size) _ = ⊥
AnswersBind (Err status) pdu = Denies status pdu

abbrev pub has_flag : ℕ → ℕ → Bool
has_flag flags flag = not (bit_and flags flag == 0)

-- One more response to the call with this id, with which its stub is this so far: PFC_FIRST_FRAG marks exactly the
-- first one, PFC_LAST_FRAG exactly the last one.
pub record IsNextResponse (id : ℕ) (is_last : Bool) (before : Option (List ℕ)) (now : List ℕ) (pdu : Pdu) : Type 0 where
  pub flags : ℕ
  pub context : ℕ
  pub hint : ℕ
  pub part : List ℕ
  pub pdu_is : pdu ≡ Response id flags context hint part
  pub first : has_flag flags pfc_first_frag ≡ is_none before
  pub last : has_flag flags pfc_last_frag ≡ is_last
  pub joined : now ≡ unwrap_or before [] ++ part
  pub within : length now ≤ most_stub

-- To a call: responses up to the last one bring its stub, or a denial comes before that. Before these PDUs this part of
-- the stub came, if a response did.
unfoldable pub AnswerCall : ℕ → Option (List ℕ) → List Pdu → Result (List ℕ) ℕ → Type 0
AnswerCall id before [] answer = ⊥
AnswerCall id before (pdu ∷ []) (Ok stub) = IsNextResponse id true before stub pdu
AnswerCall id before (pdu ∷ []) (Err status) = Denies status pdu
AnswerCall id before (pdu ∷ next ∷ pdus) answer =
    (now : List ℕ) × IsNextResponse id false before now pdu × AnswerCall id (Some now) (next ∷ pdus) answer

-- ======== the answers, one after the other

-- an answer to the bind stands at the beginning of the bytes
pub record HasBindAnswer (answer : Result ℕ ℕ) (bytes rest : List ℕ) : Type 0 where
  pub pdu : Pdu
  pub begins : BeginWith (pdu ∷ []) bytes rest
  pub answers : AnswersBind answer pdu

-- an answer to the call with this id does, of whose stub this part came before
pub record HasAnswer (id : ℕ) (before : Option (List ℕ)) (answer : Result (List ℕ) ℕ) (bytes rest : List ℕ) : Type 0
  where
    pub pdus : List Pdu
    pub begins : BeginWith pdus bytes rest
    pub answers : AnswerCall id before pdus answer

-- a reply that the step can use
abbrev pub IsFitFor : Outcome → Type 0
IsFitFor Unfit = ⊥
IsFitFor _ = Unit {0}

-- a reply to the call of a step does: a denial, or a stub that is a reply of the call's operation
abbrev pub HasReply : ℕ → Step → Reply → List ℕ → List ℕ → Type 0
HasReply id step (reply.Fault status) bytes rest = HasAnswer id None (Err status) bytes rest
HasReply id step (reply.Done status outs) bytes rest = (stub : List ℕ) × HasAnswer id None (Ok stub) bytes rest
    × (reply_in (call_of step) stub ≡ Ok (reply.Done status outs)) × IsFitFor (after step (reply.Done status outs))

-- the replies after one are those of the step that it brings, or there is none
abbrev pub AreNext : List Reply → Outcome → (Step → Type 0) → Type 0
AreNext replies (Goes lines next) later = later next
AreNext replies _ later = replies ≡ []

-- These are the replies from a step's call on, each to the call of the step that the one before brought, with ids
-- counted on: up to one that ends the command, or as far as replies stand there, which is where no further one does.
unfoldable pub AreReplies : List Reply → ℕ → Step → List ℕ → Type 0
AreReplies [] id step bytes = (r : Reply) (rest : List ℕ) → HasReply id step r bytes rest → ⊥
AreReplies (r ∷ replies) id step bytes = (rest : List ℕ) × HasReply id step r bytes rest
    × AreNext replies (after step r) (λ next. AreReplies replies (next_id id) next rest)

-- what a peer answers in all
pub data PeerAnswers : Type 0 where
  Unanswered : PeerAnswers
  BindRefused : ℕ → PeerAnswers
  BindAccepted : ℕ → List Reply → PeerAnswers

-- the answers that a stream begins with, as many as there are
abbrev pub HasAnswers : Command → List ℕ → PeerAnswers → Type 0
HasAnswers command stream Unanswered = (answer : Result ℕ ℕ) (rest : List ℕ) → HasBindAnswer answer stream rest → ⊥
HasAnswers command stream (BindRefused status) = (rest : List ℕ) × HasBindAnswer (Err status) stream rest
HasAnswers command stream (BindAccepted size replies) =
    (rest : List ℕ) × HasBindAnswer (Ok size) stream rest × AreReplies replies 2 (Opening command) rest

-- ======== what the client makes of them

-- those of the step that a reply brings
abbrev pub bytes_on : Outcome → (Step → List ℕ) → List ℕ
bytes_on (Goes lines next) later = later next
bytes_on (Ends lines) later = []
bytes_on (Refuses status) later = []
bytes_on Unfit later = []

-- the requests of a step's call, and of those after it: each call by the reply before it alone
unfoldable pub calls_by : ℕ → List Reply → ℕ → Step → List ℕ
calls_by size [] id step = call_bytes id size (call_of step)
calls_by size (r ∷ replies) id step =
    call_bytes id size (call_of step) ++ bytes_on (after step r) (λ next. calls_by size replies (next_id id) next)

-- all that is sent
abbrev pub sent_by : Command → PeerAnswers → List ℕ
sent_by command Unanswered = bind_bytes
sent_by command (BindRefused status) = bind_bytes
sent_by command (BindAccepted size replies) = bind_bytes ++ calls_by (size_for size) replies 2 (Opening command)

-- The lines of a step's reply and of those after it, each to the call of the step that the one before brought: up to
-- the last, or to the first refusal or fault with its line.
abbrev pub lines_on : Outcome → (Step → List ℕ) → List ℕ
lines_on (Goes lines next) later = lines ++ later next
lines_on (Ends lines) later = lines
lines_on (Refuses status) later = refused_line status
lines_on Unfit later = []

unfoldable pub lines_of : List Reply → Step → List ℕ
lines_of [] step = []
lines_of (reply.Fault status ∷ replies) step = refused_line status
lines_of (reply.Done status outs ∷ replies) step =
    lines_on (after step (reply.Done status outs)) (λ next. lines_of replies next)

-- all that is printed
abbrev pub printed_by : Command → PeerAnswers → List ℕ
printed_by command Unanswered = []
printed_by command (BindRefused status) = refused_line status
printed_by command (BindAccepted size replies) = lines_of replies (Opening command)

-- how the last reply ends the command, if it does
abbrev pub end_on : Outcome → (Step → Option TalkEnd) → Option TalkEnd
end_on (Goes lines next) later = later next
end_on (Ends lines) later = Some Done
end_on (Refuses status) later = Some (Refused status)
end_on Unfit later = None

unfoldable pub end_after : List Reply → Step → Option TalkEnd
end_after [] step = None
end_after (reply.Fault status ∷ replies) step = Some (Refused status)
end_after (reply.Done status outs ∷ replies) step =
    end_on (after step (reply.Done status outs)) (λ next. end_after replies next)

-- how the command ends, if it does
abbrev pub end_by : Command → PeerAnswers → Option TalkEnd
end_by command Unanswered = None
end_by command (BindRefused status) = Some (Refused status)
end_by command (BindAccepted size replies) = end_after replies (Opening command)
