-- How a request is answered over a gate: by a call that a turn enters, or outside the history.
use Rattle.std.specs.Prelude.{◌≡◌, ℕ, List, [], ◌∷◌, ◌++◌, ◌⊎◌, Some, None, Result, Ok, Err, ⊤}
use Rattle.acct_machine.specs.State.{Start}
use Rattle.acct_calls.specs.declared.calls.Call.{Call}
use Rattle.acct_calls.specs.declared.calls.Face.{Face}
use Rattle.acct_calls.specs.declared.replies.Reply.{Reply}
use Rattle.acct_calls.specs.declared.replies.Reply.TheVariants.{Fault, Done}
use Rattle.acct_layouts.specs.ReplyShapes.{HasShape}
use Rattle.acct_machine.specs.declared.entry.Entry.{Entry}
use Rattle.acct_machine.specs.declared.entry.Entry.TheVariants.{Called}
use Rattle.acct_machine.specs.declared.entry.Verdict.{Verdict}
use Rattle.acct_machine.specs.Step.{state_at, acted}
use Rattle.acct_machine.specs.Legal.{call_full}
use Rattle.acct_machine.specs.Machine.{SameLive, OneMoreCall}
use Rattle.acct_stubs.specs.declared.errors.WireError.{WireError}
use Rattle.rpc_session.specs.declared.sessions.Request.{Request}
use Rattle.link_sessions.specs.declared.requests.Answer.{Answer}
use Rattle.link_sessions.specs.declared.requests.Answer.TheVariants as answer
use Rattle.link_sessions.specs.Transcript.{answer_bytes, undecoded_bytes}
use Rattle.link_sessions.specs.Turns.{shown}

-- A call was entered in a history that a turn found, and that took it; the same connections are live, and the
-- connection has this call and its reply more.
pub record EntersCall (start : Start) (k : ℕ) (finds : List Entry → Type 0) (left : List Entry) (call : Call)
    (size : ℕ) : Type 0 where
  pub found : List Entry
  pub finds_it : finds found
  pub taken : call_full start found size ≡ None
  pub verdict : Verdict
  pub entered : left ≡ found ++ Called k call verdict size ∷ []
  pub live : SameLive (state_at start found) (state_at start left)
  pub more : OneMoreCall (shown start found) (shown start left) k call size
      (acted (state_at start found) k call verdict).1

-- A decoded call was entered, and its answer has the reply of the state before it.
pub record AnswersCall (start : Start) (k : ℕ) (finds : List Entry → Type 0) (left : List Entry) (asked : Request)
    (size : ℕ) (call : Call) (bytes : List ℕ) : Type 0 where
  pub enters : EntersCall start k finds left call size
  pub bytes_are :
      bytes ≡ answer_bytes asked call.face call.opnum (acted (state_at start enters.found) k call enters.verdict).1

-- A turn found a history that takes no call of so many bytes, and left it as it was.
pub record FindsFull (start : Start) (finds : List Entry → Type 0) (left : List Entry) (size count : ℕ) : Type 0 where
  pub finds_it : finds left
  pub full : call_full start left size ≡ Some count

-- A request was answered with these bytes, which is this call or none; one that is none is answered by a fault, and
-- nothing else happened.
abbrev pub AnswersBy : Start → ℕ → (List Entry → Type 0) → List Entry → List Entry → Request → ℕ
    → Result Call WireError → List ℕ → Type 0
AnswersBy start k finds known left asked size (Err e) bytes = (left ≡ known) × (bytes ≡ undecoded_bytes asked e)
AnswersBy start k finds known left asked size (Ok call) bytes = AnswersCall start k finds left asked size call bytes

-- a call was met by a full history
abbrev pub MeetsFullBy : Start → (List Entry → Type 0) → List Entry → ℕ → ℕ → Result Call WireError → Type 0
MeetsFullBy start finds left size count (Err e) = ⊥
MeetsFullBy start finds left size count (Ok call) = FindsFull start finds left size count

-- what came of a request
abbrev pub AnswersRequest : Start → ℕ → (List Entry → Type 0) → List Entry → List Entry → Request → ℕ
    → Result Call WireError → Answer → Type 0
AnswersRequest start k finds known left asked size r (answer.Bytes bytes) =
    AnswersBy start k finds known left asked size r bytes.items
AnswersRequest start k finds known left asked size r (answer.Full count) = MeetsFullBy start finds left size count r

-- Where memory ran out: nothing has happened, or the call was entered.
abbrev pub BeginsRequest : Start → ℕ → (List Entry → Type 0) → List Entry → List Entry → ℕ → Result Call WireError
    → Type 0
BeginsRequest start k finds known left size (Err e) = left ≡ known
BeginsRequest start k finds known left size (Ok call) = (left ≡ known) ⊎ EntersCall start k finds left call size

-- a reply that is no fault has the shape of the operation of the interface and opnum
abbrev pub IsAnswerOf : Face → ℕ → Reply → Type 0
IsAnswerOf face opnum (Fault fault) = ⊤
IsAnswerOf face opnum (Done status outs) = HasShape face opnum (Done status outs)
