-- The acts of a connection's stream.
use Rattle.std.specs.Prelude.{◌≡◌, ◌↔◌, ℕ, ◌+◌, ◌≤◌, ◌<◌, ◌^◌, Bool, true, false, List, [], ◌∷◌, ◌++◌, length, All}
use Rattle.std.specs.Prelude.{Option, Some, None, slice_get}
use Rattle.acct_codes.specs.Limits.{least_fragment, most_fragment, most_stub}
use Rattle.rpc_pdu.specs.declared.pdus.Pdu.{Pdu}
use Rattle.rpc_pdu.specs.declared.pdus.Side.TheVariants.{Server}
use Rattle.rpc_pdu.specs.Bodies.{Front, Whole, Rest, Refused, front}
use Rattle.rpc_pdu.specs.Laws.{IsDivided}
use Rattle.rpc_pdu.specs.Written.{type_of, call_id}
use Rattle.rpc_session.specs.declared.sessions.Act.{Act}
use Rattle.rpc_session.specs.declared.sessions.Act.TheVariants.{Answered, Call, Closed}
use Rattle.rpc_session.specs.declared.sessions.Request.{Request}
use Rattle.rpc_session.specs.declared.sessions.Session.{Session}
use Rattle.rpc_session.specs.declared.sessions.Session.TheVariants.{Unbound}
use Rattle.rpc_session.specs.declared.sessions.Step.{Step}
use Rattle.rpc_session.specs.declared.sessions.Step.TheVariants.{Refuses, Goes}
use Rattle.rpc_session.specs.declared.hearing.Hearing.{Hearing}
use Rattle.rpc_session.specs.declared.hearing.Hearing.TheVariants.{Ended}
use Rattle.rpc_session.specs.Answers.{closing}
use Rattle.rpc_session.specs.Sessions.{taken, acts, Heard, listed, hear, joined, on, HasRoom}

-- The acts of whole PDUs one after the other, each with its own bytes, the first of which begins at a place, and of the
-- end after them. Nothing after a refusal is an act.
abbrev pub acts_of_step : ℕ → Pdu → Step → (Session → List Act) → List Act
acts_of_step place pdu (Refuses cause) later = closing place cause (type_of pdu) (call_id pdu) ∷ []
acts_of_step place pdu (Goes act session) later = listed act ++ later session

abbrev pub acts_of_end : ℕ → Front → List Act
acts_of_end place (Whole pdu size) = []
acts_of_end place Rest = []
acts_of_end place (Refused at cause ptype id) = closing (place + at) cause ptype id ∷ []

abbrev pub acts_of : ℕ → ℕ → Session → List (Pdu × List ℕ) → List ℕ → List Act
acts_of conn place session [] end = acts_of_end place (front Server end)
acts_of conn place session (part ∷ parts) end =
    acts_of_step place part.0 (taken conn session part.0)
    (λ after. acts_of conn (place + length part.1) after parts end)

-- The acts of a stream: it is whole PDUs and an end, and these are the PDUs' acts in order, and then none or a refusal.
pub record HasActs (conn : ℕ) (stream : List ℕ) (told : List Act) : Type 0 where
  pub pdus : List (Pdu × List ℕ)
  pub end : List ℕ
  pub divided : IsDivided Server pdus end stream
  pub acts_are : told ≡ acts_of conn 0 Unbound pdus end

-- the acts of a stream are those of its PDUs, however it is divided into some
abbrev pub AreOfPdus : Type 0
AreOfPdus = (conn : ℕ) (stream : List ℕ) (parts : List (Pdu × List ℕ)) (end : List ℕ)
    → IsDivided Server parts end stream → acts conn stream ≡ acts_of conn 0 Unbound parts end

-- the acts of a stream are these and no others
abbrev pub AreActs : Type 0
AreActs = (conn : ℕ) (stream : List ℕ) (told : List Act) → HasActs conn stream told ↔ (told ≡ acts conn stream)

-- what was heard, and what is left to hear, after the stream so far
pub record IsSoFar (conn : ℕ) (stream : List ℕ) (hearing : Hearing) (acts_so_far : List Act) : Type 0 where
  pub told : acts_so_far ≡ acts conn stream
  pub stands : hearing ≡ (hear conn 0 Unbound stream).leaves

-- pieces may be heard one after the other
abbrev pub IsCutAnywhere : Type 0
IsCutAnywhere = (hearing : Hearing) (front more : List ℕ)
    → on hearing (front ++ more) ≡ joined (on hearing front).acts (on (on hearing front).leaves more)

-- the pieces so far with this one have fewer than 2 ^ 64 bytes
abbrev pub IsRoomByLength : Type 0
IsRoomByLength = (conn : ℕ) (stream : List ℕ) (hearing : Hearing) (acts_so_far : List Act) (piece : List ℕ)
    → IsSoFar conn stream hearing acts_so_far → length stream + length piece < 2 ^ 64 → HasRoom hearing piece

-- what a request's reply is cut by, and its stub, lie within the limits
abbrev pub IsFitRequest : Request → Type 0
IsFitRequest request =
    (least_fragment ≤ request.size) × (request.size ≤ most_fragment) × (length request.stub ≤ most_stub)

abbrev pub IsFit : Act → Type 0
IsFit (Answered bytes) = Unit {0}
IsFit (Call request) = IsFitRequest request
IsFit (Closed place cause bytes) = Unit {0}

abbrev pub AllFit : Type 0
AllFit = (conn : ℕ) (stream : List ℕ) → All IsFit (acts conn stream)

abbrev pub is_refusal : Act → Bool
is_refusal (Answered bytes) = false
is_refusal (Call request) = false
is_refusal (Closed place cause bytes) = true

-- an act at a place of what was heard that is a refusal is the last one, and nothing more is heard
abbrev pub IsLastOf : Heard → ℕ → Option Act → Type 0
IsLastOf heard i None = Unit {0}
IsLastOf heard i (Some act) = is_refusal act ≡ true → (i + 1 ≡ length heard.acts) × (heard.leaves ≡ Ended)

abbrev pub AreRefusalsLast : Type 0
AreRefusalsLast = (conn : ℕ) (stream : List ℕ) (i : ℕ)
    → IsLastOf (hear conn 0 Unbound stream) i (slice_get (hear conn 0 Unbound stream).acts i)
