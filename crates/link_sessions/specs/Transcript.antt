-- What is written on a connection: the transcript of what came on it.
use Rattle.std.specs.Prelude.{ℕ, List, Result, [], ◌∷◌, ◌++◌, length, Ok, Err, ◌≡◌, Bool, false, if◌then◌else◌}
use Rattle.acct_codes.specs.Pdus.{fault_operation_range, fault_bad_stub_data, fault_server_too_busy}
use Rattle.acct_calls.specs.declared.calls.Call.{Call}
use Rattle.acct_calls.specs.declared.calls.Face.{Face}
use Rattle.acct_calls.specs.declared.calls.Face.TheVariants.{Samr, Lsa}
use Rattle.acct_calls.specs.declared.replies.Reply.{Reply}
use Rattle.acct_calls.specs.declared.replies.Reply.TheVariants.{Fault, Done}
use Rattle.rpc_session.specs.Sessions.{acts}
use Rattle.rpc_session.specs.Answers.{fault_bytes, reply_bytes}
use Rattle.rpc_session.specs.declared.sessions.Act.{Act}
use Rattle.rpc_session.specs.declared.sessions.Act.TheVariants as act
use Rattle.rpc_session.specs.declared.sessions.Request.{Request}
use Rattle.acct_stubs.specs.Calls.{call_at}
use Rattle.acct_stubs.specs.Replies.{spell_reply}
use Rattle.acct_stubs.specs.Arguments.{Wire}
use Rattle.acct_stubs.specs.declared.errors.WireError.{WireError}
use Rattle.acct_stubs.specs.declared.errors.WireError.TheVariants.{NotServed, BadStub, Memory}
use Rattle.samr_wire.specs.Interface.{samr}
use Rattle.lsa_wire.specs.Interface.{lsa}
use Rattle.acct_machine.specs.Legal.{replies, calls_of}
use Rattle.acct_machine.specs.State.{Start}
use Rattle.acct_machine.specs.declared.entry.Entry.{Entry}

-- ======== which call a request is, and which fault answers one that is none

-- how an interface encodes its calls and replies
abbrev pub wire_of : Face → Wire
wire_of Samr = samr
wire_of Lsa = lsa

-- the call that the stub encodes on an interface
abbrev pub call_on : Face → ℕ → List ℕ → Result Call WireError
call_on face opnum stub = call_at (wire_of face) opnum stub

-- operation range (C706 appendix E, nca_s_op_rng_error), or bad stub data (MS-ERREF 2.2, RPC_X_BAD_STUB_DATA); by its
-- definition no reading runs out of memory
abbrev pub undecoded_status : WireError → ℕ
undecoded_status (NotServed opnum) = fault_operation_range
undecoded_status (BadStub place) = fault_bad_stub_data
undecoded_status Memory = fault_bad_stub_data

-- ======== what is written on a connection: the answers to its acts in order, with the replies of its calls

-- the answer to a decoded call of an interface and an opnum, by its reply
unfoldable pub answer_bytes : Request → Face → ℕ → Reply → List ℕ
answer_bytes asked face opnum (Fault status) = fault_bytes asked.id asked.context status
answer_bytes asked face opnum (Done status outs) =
    reply_bytes asked.id asked.context asked.size (spell_reply (wire_of face) opnum (Done status outs))

-- the answer to a request that is no decoded call
abbrev pub undecoded_bytes : Request → WireError → List ℕ
undecoded_bytes asked error = fault_bytes asked.id asked.context (undecoded_status error)

-- the answer to a call that finds the history full: the server is too busy
abbrev pub busy_bytes : Request → List ℕ
busy_bytes asked = fault_bytes asked.id asked.context fault_server_too_busy

abbrev pub no_bytes : Request → List ℕ
no_bytes asked = []

-- a decoded call takes the next reply; where there is none, this is the last that is written
abbrev pub answered : (Request → List ℕ) → Request → Result Call WireError → List Reply → (List Reply → List ℕ) → List ℕ
answered last asked (Err e) replies later = undecoded_bytes asked e ++ later replies
answered last asked (Ok call) [] later = last asked
answered last asked (Ok call) (reply ∷ replies) later = answer_bytes asked call.face call.opnum reply ++ later replies

-- what is written up to the first decoded call that has no reply, and what is written there
abbrev pub written : (Request → List ℕ) → List Act → List Reply → List ℕ
written last [] replies = []
written last (act.Answered bytes ∷ acts) replies = bytes ++ written last acts replies
written last (act.Call asked ∷ acts) replies =
    answered last asked (call_on asked.face asked.opnum asked.stub) replies (λ others. written last acts others)
written last (act.Closed place cause bytes ∷ acts) replies = bytes ++ written last acts replies

-- The transcript of acts: it stops before a decoded call that has no reply.
abbrev pub transcript : List Act → List Reply → List ℕ
transcript acts replies = written no_bytes acts replies

-- the same, where that call found the history full
abbrev pub busy : List Act → List Reply → List ℕ
busy acts replies = written busy_bytes acts replies

-- the decoded calls among acts in order, each with the length of its stub
abbrev pub with_call : Result Call WireError → ℕ → List (Call × ℕ) → List (Call × ℕ)
with_call (Err e) size others = others
with_call (Ok call) size others = (call, size) ∷ others

abbrev pub decoded_calls : List Act → List (Call × ℕ)
decoded_calls [] = []
decoded_calls (act.Answered bytes ∷ acts) = decoded_calls acts
decoded_calls (act.Call asked ∷ acts) =
    with_call (call_on asked.face asked.opnum asked.stub) (length asked.stub) (decoded_calls acts)
decoded_calls (act.Closed place cause bytes ∷ acts) = decoded_calls acts

-- ======== that what was written on a connection is the transcript of what came on it

-- what is written last: where the history was found full, that the server is too busy
abbrev pub last_bytes : Bool → Request → List ℕ
last_bytes full asked = if full then busy_bytes asked else no_bytes asked

-- What was written on a connection on which these bytes came: it is the transcript of their acts with the replies of
-- the connection's calls in the history; where it found the history full, with the answer that the server is too busy
-- after it. The decoded calls of the acts, in order, each with the length of its stub, are the connection's calls, and
-- where it found the history full those that stand outside it.
pub record IsTranscribed (start : Start) (history : List Entry) (k : ℕ) (full : Bool) (came sent : List ℕ) : Type 0
  where
    pub is : sent ≡ written (last_bytes full) (acts k came) (replies start k history)
    pub outside : List (Call × ℕ)
    pub calls : decoded_calls (acts k came) ≡ calls_of k history ++ outside
    pub all : full ≡ false → outside ≡ []

-- ======== prefixes of a history

-- what is known of a history is a prefix of it
abbrev pub IsFrontOf : List Entry → List Entry → Type 0
IsFrontOf known history = (rest : List Entry) × (history ≡ known ++ rest)
