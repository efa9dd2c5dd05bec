-- The PDUs that a side reads, field by field at their places in the bytes of one whole PDU (C706, section 12.6;
-- MS-RPCE, section 2.2.2).
use Rattle.std.specs.Prelude.{◌≡◌, ℕ, ◌+◌, ◌*◌, ◌/◌, ◌≤◌, true, false, List, [], ◌∷◌, length, take, drop, slice_index}
use Rattle.uuid.specs.Parts.{swap_fields}
use Rattle.acct_codes.specs.Pdus.{rpc_vers, most_rpc_vers_minor, drep_little_endian_ascii, drep_ieee, ptype_request}
use Rattle.acct_codes.specs.Pdus.{ptype_response, ptype_fault, ptype_bind, ptype_bind_ack, ptype_bind_nak}
use Rattle.acct_codes.specs.Pdus.{ptype_alter_context, ptype_alter_context_resp, ptype_co_cancel, ptype_orphaned}
use Rattle.rpc_pdu.specs.declared.syntaxes.Syntax.{Syntax}
use Rattle.rpc_pdu.specs.declared.pdus.Side.{Side}
use Rattle.rpc_pdu.specs.declared.pdus.Side.TheVariants.{Server, Client}
use Rattle.rpc_pdu.specs.declared.pdus.Element.{Element}
use Rattle.rpc_pdu.specs.declared.pdus.Outcome.{Outcome}
use Rattle.rpc_pdu.specs.declared.pdus.Pdu.{Pdu}
use Rattle.rpc_pdu.specs.declared.pdus.Pdu.TheVariants.{Bind, Alter, Request, Cancel, Orphaned, BindAck, AlterResp}
use Rattle.rpc_pdu.specs.declared.pdus.Pdu.TheVariants.{BindNak, Response, Fault}
use Rattle.rpc_pdu.specs.Headers.{u16_at, u32_at, has_object, element_size}

-- a header: version 5.0 or 5.1, the type, integers low byte first with ASCII and IEEE floats, the PDU's own length, no
-- verifier, the call id. Its flags stand at 3, and bytes 6 and 7 aren't looked at
pub record IsHeader (bytes : List ℕ) (ptype id : ℕ) : Type 0 where
  pub version : slice_index bytes 0 ≡ rpc_vers
  pub minor : slice_index bytes 1 ≤ most_rpc_vers_minor
  pub kind : slice_index bytes 2 ≡ ptype
  pub integers : slice_index bytes 4 ≡ drep_little_endian_ascii
  pub floats : slice_index bytes 5 ≡ drep_ieee
  pub frag_length : u16_at bytes 8 ≡ length bytes
  pub auth_length : u16_at bytes 10 ≡ 0
  pub call_id : u32_at bytes 12 ≡ id

-- a syntax at a place: a UUID whose first three fields stand low byte first, and a version
pub record SyntaxAt (bytes : List ℕ) (place : ℕ) (syntax : Syntax) : Type 0 where
  pub there : place + 20 ≤ length bytes
  pub uuid : swap_fields (take 16 (drop place bytes)) ≡ syntax.id
  pub version : u32_at bytes (place + 16) ≡ syntax.version

-- values one after the other from a place on, each of so many bytes
abbrev pub EachAt : {A : Type 0} → (List ℕ → ℕ → A → Type 0) → (A → ℕ) → List ℕ → ℕ → List A → Type 0
EachAt At size bytes place [] = Unit {0}
EachAt At size bytes place (x ∷ xs) = At bytes place x × EachAt At size bytes (place + size x) xs

-- a context element at a place. Byte 3 of it isn't looked at
pub record ElementAt (bytes : List ℕ) (place : ℕ) (element : Element) : Type 0 where
  pub context : u16_at bytes place ≡ element.context
  pub count : slice_index bytes (place + 2) ≡ length element.transfers
  pub subject : SyntaxAt bytes (place + 4) element.subject
  pub transfers : EachAt SyntaxAt (λ syntax. 20) bytes (place + 24) element.transfers

-- the answer to one context element at a place
pub record OutcomeAt (bytes : List ℕ) (place : ℕ) (outcome : Outcome) : Type 0 where
  pub result : u16_at bytes place ≡ outcome.result
  pub reason : u16_at bytes (place + 2) ≡ outcome.reason
  pub syntax : SyntaxAt bytes (place + 4) outcome.syntax

-- the sizes of fragments and the association group, of a binding PDU and its answer
pub record HasSizes (bytes : List ℕ) (xmit recv group : ℕ) : Type 0 where
  pub xmit_frag : u16_at bytes 16 ≡ xmit
  pub recv_frag : u16_at bytes 18 ≡ recv
  pub group_id : u32_at bytes 20 ≡ group

-- bind and alter_context. Bytes 25 to 27 aren't looked at, nor is what stands after the last element
pub record IsBinding (bytes : List ℕ) (xmit recv group : ℕ) (elements : List Element) : Type 0 where
  pub long : 28 ≤ length bytes
  pub sizes : HasSizes bytes xmit recv group
  pub count : slice_index bytes 24 ≡ length elements
  pub elements_there : EachAt ElementAt element_size bytes 28 elements

-- bind_ack and alter_context_resp, the number of whose outcomes stands after the secondary address, at a multiple of 4
pub record IsBindingAnswer (bytes : List ℕ) (xmit recv group : ℕ) (outcomes : List Outcome) : Type 0 where
  pub long : 32 ≤ length bytes
  pub sizes : HasSizes bytes xmit recv group
  pub place : ℕ
  pub behind : 26 + u16_at bytes 24 ≤ place
  pub near : place ≤ 29 + u16_at bytes 24
  pub aligned : place / 4 * 4 ≡ place
  pub there : place + 4 ≤ length bytes
  pub count : slice_index bytes place ≡ length outcomes
  pub outcomes_there : EachAt OutcomeAt (λ outcome. 24) bytes (place + 4) outcomes

-- a request, its stub after an object UUID where its flags say that there is one
pub record IsRequest (bytes : List ℕ) (flags context opnum : ℕ) (stub : List ℕ) : Type 0 where
  pub flagged : slice_index bytes 3 ≡ flags
  pub context_id : u16_at bytes 20 ≡ context
  pub operation : u16_at bytes 22 ≡ opnum
  pub plain : has_object flags ≡ false → (24 ≤ length bytes) × (drop 24 bytes ≡ stub)
  pub object : has_object flags ≡ true → (40 ≤ length bytes) × (drop 40 bytes ≡ stub)

-- a response. Bytes 22 and 23, the count of cancels and a reserved byte, aren't looked at
pub record IsResponse (bytes : List ℕ) (flags context hint : ℕ) (stub : List ℕ) : Type 0 where
  pub long : 24 ≤ length bytes
  pub flagged : slice_index bytes 3 ≡ flags
  pub alloc_hint : u32_at bytes 16 ≡ hint
  pub context_id : u16_at bytes 20 ≡ context
  pub data_there : drop 24 bytes ≡ stub

pub record IsFault (bytes : List ℕ) (context status : ℕ) : Type 0 where
  pub long : 32 ≤ length bytes
  pub context_id : u16_at bytes 20 ≡ context
  pub code : u32_at bytes 24 ≡ status

-- a bind_nak. The versions after the reason aren't looked at
pub record IsBindNak (bytes : List ℕ) (reason : ℕ) : Type 0 where
  pub long : 18 ≤ length bytes
  pub reason_is : u16_at bytes 16 ≡ reason

-- these bytes are exactly one PDU of a type that the side reads, with these fields
abbrev pub IsPdu : Side → Pdu → List ℕ → Type 0
IsPdu Server (Request id flags context opnum stub) bytes = IsHeader bytes ptype_request id
    × IsRequest bytes flags context opnum stub
IsPdu Server (Bind id xmit recv group elements) bytes = IsHeader bytes ptype_bind id
    × IsBinding bytes xmit recv group elements
IsPdu Server (Alter id xmit recv group elements) bytes = IsHeader bytes ptype_alter_context id
    × IsBinding bytes xmit recv group elements
IsPdu Server (Cancel id) bytes = IsHeader bytes ptype_co_cancel id × (16 ≤ length bytes)
IsPdu Server (Orphaned id) bytes = IsHeader bytes ptype_orphaned id × (16 ≤ length bytes)
IsPdu Client (Response id flags context hint stub) bytes = IsHeader bytes ptype_response id
    × IsResponse bytes flags context hint stub
IsPdu Client (Fault id context status) bytes = IsHeader bytes ptype_fault id × IsFault bytes context status
IsPdu Client (BindAck id xmit recv group outcomes) bytes = IsHeader bytes ptype_bind_ack id
    × IsBindingAnswer bytes xmit recv group outcomes
IsPdu Client (BindNak id reason) bytes = IsHeader bytes ptype_bind_nak id × IsBindNak bytes reason
IsPdu Client (AlterResp id xmit recv group outcomes) bytes = IsHeader bytes ptype_alter_context_resp id
    × IsBindingAnswer bytes xmit recv group outcomes
IsPdu side pdu bytes = ⊥
