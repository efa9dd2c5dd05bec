-- What a whole PDU says, and what stands at the beginning of a stream.
use Rattle.std.specs.Prelude.{◌≡◌, ℕ, ◌+◌, ◌*◌, ◌/◌, Bool, true, false, List, length, drop, Option, Some, None, Result}
use Rattle.std.specs.Prelude.{Ok, Err, if◌then◌else◌, nat_lt, slice_index, take}
use Rattle.acct_base.specs.Reading.{◌>>=◌, many}
use Rattle.acct_base.specs.declared.fields.Unread.{Unread}
use Rattle.acct_base.specs.declared.fields.Unread.TheVariants.{Memory, Misspelled}
use Rattle.acct_codes.specs.Pdus.{cause_body}
use Rattle.rpc_pdu.specs.Headers.{has_object, header_of, element_at, outcome_at, u16_at, u32_at}
use Rattle.rpc_pdu.specs.declared.headers.Header.{Header}
use Rattle.rpc_pdu.specs.declared.headers.Header.TheVariants.{Bad, Long}
use Rattle.rpc_pdu.specs.declared.headers.Kind.{Kind}
use Rattle.rpc_pdu.specs.declared.headers.Kind.TheVariants as kind
use Rattle.rpc_pdu.specs.declared.pdus.Outcome.{Outcome}
use Rattle.rpc_pdu.specs.declared.pdus.Pdu.{Pdu}
use Rattle.rpc_pdu.specs.declared.pdus.Pdu.TheVariants.{Bind, Alter, Request, Cancel, Orphaned, BindAck, AlterResp}
use Rattle.rpc_pdu.specs.declared.pdus.Pdu.TheVariants.{BindNak, Response, Fault}
use Rattle.rpc_pdu.specs.declared.pdus.Side.{Side}

-- ======== what a whole PDU says, by its type (C706, section 12.6.4)

unfoldable pub bind_of : List ℕ → Option Pdu
bind_of bytes = do
  elements ← many element_at (slice_index bytes 24) (drop 28 bytes)
  Some (Bind (u32_at bytes 12) (u16_at bytes 16) (u16_at bytes 18) (u32_at bytes 20) elements.0)

unfoldable pub alter_of : List ℕ → Option Pdu
alter_of bytes = do
  elements ← many element_at (slice_index bytes 24) (drop 28 bytes)
  Some (Alter (u32_at bytes 12) (u16_at bytes 16) (u16_at bytes 18) (u32_at bytes 20) elements.0)

-- where the number of outcomes stands: at the first multiple of 4 after the secondary address, whose length stands at
-- 24
abbrev pub outcomes_place : List ℕ → ℕ
outcomes_place bytes = (u16_at bytes 24 + 29) / 4 * 4

unfoldable pub outcomes_in : List ℕ → Option (List Outcome)
outcomes_in bytes =
    if nat_lt (length bytes) (outcomes_place bytes + 4) then None
    else (do
      outcomes ← many outcome_at (slice_index bytes (outcomes_place bytes)) (drop (outcomes_place bytes + 4) bytes)
      Some outcomes.0)

unfoldable pub bind_ack_of : List ℕ → Option Pdu
bind_ack_of bytes = do
  outcomes ← outcomes_in bytes
  Some (BindAck (u32_at bytes 12) (u16_at bytes 16) (u16_at bytes 18) (u32_at bytes 20) outcomes)

unfoldable pub alter_resp_of : List ℕ → Option Pdu
alter_resp_of bytes = do
  outcomes ← outcomes_in bytes
  Some (AlterResp (u32_at bytes 12) (u16_at bytes 16) (u16_at bytes 18) (u32_at bytes 20) outcomes)

-- where the stub of a request begins: an object UUID is passed over
abbrev pub stub_place : ℕ → ℕ
stub_place flags = if has_object flags then 40 else 24

abbrev pub request_of : List ℕ → Option Pdu
request_of bytes =
    Some (Request (u32_at bytes 12) (slice_index bytes 3) (u16_at bytes 20) (u16_at bytes 22)
    (drop (stub_place (slice_index bytes 3)) bytes))

abbrev pub response_of : List ℕ → Option Pdu
response_of bytes =
    Some (Response (u32_at bytes 12) (slice_index bytes 3) (u16_at bytes 20) (u32_at bytes 16) (drop 24 bytes))

abbrev pub fault_of : List ℕ → Pdu
fault_of bytes = Fault (u32_at bytes 12) (u16_at bytes 20) (u32_at bytes 24)

-- what a whole PDU of a type says, if its body has a reading
unfoldable pub body_of : Kind → List ℕ → Option Pdu
body_of kind.Request bytes = request_of bytes
body_of kind.Response bytes = response_of bytes
body_of kind.Fault bytes = Some (fault_of bytes)
body_of kind.Bind bytes = bind_of bytes
body_of kind.BindAck bytes = bind_ack_of bytes
body_of kind.BindNak bytes = Some (BindNak (u32_at bytes 12) (u16_at bytes 16))
body_of kind.Alter bytes = alter_of bytes
body_of kind.AlterResp bytes = alter_resp_of bytes
body_of kind.Cancel bytes = Some (Cancel (u32_at bytes 12))
body_of kind.Orphaned bytes = Some (Orphaned (u32_at bytes 12))

-- how many outcomes there are: none where the PDU ends before their number
abbrev pub outcome_count : List ℕ → ℕ
outcome_count bytes =
    if nat_lt (length bytes) (outcomes_place bytes + 4) then 0 else slice_index bytes (outcomes_place bytes)

-- whether reading a whole PDU takes memory: it has a stub, an element or an outcome
abbrev pub takes_memory : Kind → List ℕ → Bool
takes_memory kind.Request bytes = nat_lt (stub_place (slice_index bytes 3)) (length bytes)
takes_memory kind.Response bytes = nat_lt 24 (length bytes)
takes_memory kind.Bind bytes = nat_lt 0 (slice_index bytes 24)
takes_memory kind.Alter bytes = nat_lt 0 (slice_index bytes 24)
takes_memory kind.BindAck bytes = nat_lt 0 (outcome_count bytes)
takes_memory kind.AlterResp bytes = nat_lt 0 (outcome_count bytes)
takes_memory kind.Fault bytes = false
takes_memory kind.BindNak bytes = false
takes_memory kind.Cancel bytes = false
takes_memory kind.Orphaned bytes = false

-- memory runs out only where some is taken
abbrev pub WantsOnlyIf : {A : Type 0} → Bool → Result A Unread → Type 0
WantsOnlyIf _ (Ok x) = Unit {0}
WantsOnlyIf _ (Err Misspelled) = Unit {0}
WantsOnlyIf takes (Err Memory) = takes ≡ true

-- ======== what stands at the beginning of a stream: a whole PDU with its length, a refusal by the first cause that
-- holds of it, or less than that

-- Refused has the place, the cause, the type byte and the call id
pub data Front : Type 0 where
  Whole : Pdu → ℕ → Front
  Rest : Front
  Refused : ℕ → ℕ → ℕ → ℕ → Front

abbrev pub refusal : List ℕ → ℕ → ℕ → Front
refusal head place cause = Refused place cause (slice_index head 2) (u32_at head 12)

-- a body without a reading is refused after the header
abbrev pub front_of_body : List ℕ → ℕ → Option Pdu → Front
front_of_body head size None = refusal head 16 cause_body
front_of_body head size (Some pdu) = Whole pdu size

abbrev pub front_of_header : List ℕ → List ℕ → Header → Front
front_of_header head bytes (Bad place cause) = refusal head place cause
front_of_header head bytes (Long kind size) = if nat_lt (length bytes) size then Rest
    else front_of_body head size (body_of kind (take size bytes))

unfoldable pub front : Side → List ℕ → Front
front side bytes = if nat_lt (length bytes) 16 then Rest
    else front_of_header (take 16 bytes) bytes (header_of side (take 16 bytes))
