-- The bytes of a PDU as they are written: version 5.0, reserved bytes zero, one fragment where its value doesn't say
-- otherwise.
use Rattle.std.specs.Prelude.{◌≡◌, ℕ, ◌+◌, ◌*◌, ◌≤◌, ◌++◌, false, List, [], ◌∷◌, length, All, sum_by}
use Rattle.std.specs.List.{flat_map}
use Rattle.acct_codes.specs.Pdus.{rpc_vers, rpc_vers_minor, pfc_first_frag, pfc_last_frag, pfc_did_not_execute}
use Rattle.acct_codes.specs.Pdus.{drep_little_endian_ascii, drep_ieee, ptype_request, ptype_response, ptype_fault}
use Rattle.acct_codes.specs.Pdus.{ptype_bind, ptype_bind_ack, ptype_bind_nak, ptype_alter_context}
use Rattle.acct_codes.specs.Pdus.{ptype_alter_context_resp, ptype_co_cancel, ptype_orphaned}
use Rattle.rpc_pdu.specs.declared.syntaxes.Syntax.{Syntax}
use Rattle.rpc_pdu.specs.declared.pdus.Side.{Side}
use Rattle.rpc_pdu.specs.declared.pdus.Side.TheVariants.{Server, Client}
use Rattle.rpc_pdu.specs.declared.pdus.Element.{Element}
use Rattle.rpc_pdu.specs.declared.pdus.Outcome.{Outcome}
use Rattle.rpc_pdu.specs.declared.pdus.Pdu.{Pdu}
use Rattle.rpc_pdu.specs.declared.pdus.Pdu.TheVariants.{Bind, Alter, Request, Cancel, Orphaned, BindAck, AlterResp}
use Rattle.rpc_pdu.specs.declared.pdus.Pdu.TheVariants.{BindNak, Response, Fault}
use Rattle.rpc_pdu.specs.Headers.{u16_bytes, u32_bytes, has_object, element_size, syntax_bytes}

-- the number of the type
abbrev pub type_of : Pdu → ℕ
type_of (Request id flags context opnum stub) = ptype_request
type_of (Response id flags context hint stub) = ptype_response
type_of (Fault id context status) = ptype_fault
type_of (Bind id xmit recv group elements) = ptype_bind
type_of (BindAck id xmit recv group outcomes) = ptype_bind_ack
type_of (BindNak id reason) = ptype_bind_nak
type_of (Alter id xmit recv group elements) = ptype_alter_context
type_of (AlterResp id xmit recv group outcomes) = ptype_alter_context_resp
type_of (Cancel id) = ptype_co_cancel
type_of (Orphaned id) = ptype_orphaned

-- the side that reads the type
abbrev pub reader_of : Pdu → Side
reader_of (Request id flags context opnum stub) = Server
reader_of (Response id flags context hint stub) = Client
reader_of (Fault id context status) = Client
reader_of (Bind id xmit recv group elements) = Server
reader_of (BindAck id xmit recv group outcomes) = Client
reader_of (BindNak id reason) = Client
reader_of (Alter id xmit recv group elements) = Server
reader_of (AlterResp id xmit recv group outcomes) = Client
reader_of (Cancel id) = Server
reader_of (Orphaned id) = Server

abbrev pub call_id : Pdu → ℕ
call_id (Request id flags context opnum stub) = id
call_id (Response id flags context hint stub) = id
call_id (Fault id context status) = id
call_id (Bind id xmit recv group elements) = id
call_id (BindAck id xmit recv group outcomes) = id
call_id (BindNak id reason) = id
call_id (Alter id xmit recv group elements) = id
call_id (AlterResp id xmit recv group outcomes) = id
call_id (Cancel id) = id
call_id (Orphaned id) = id

-- the flags of a PDU that is its call's only fragment
abbrev pub whole_flags : ℕ
whole_flags = pfc_first_frag + pfc_last_frag

-- a PDU is whole where its value doesn't say otherwise; a fault says too that the call was not carried out
abbrev pub flags_of : Pdu → ℕ
flags_of (Request id flags context opnum stub) = flags
flags_of (Response id flags context hint stub) = flags
flags_of (Fault id context status) = whole_flags + pfc_did_not_execute
flags_of (Bind id xmit recv group elements) = whole_flags
flags_of (BindAck id xmit recv group outcomes) = whole_flags
flags_of (BindNak id reason) = whole_flags
flags_of (Alter id xmit recv group elements) = whole_flags
flags_of (AlterResp id xmit recv group outcomes) = whole_flags
flags_of (Cancel id) = whole_flags
flags_of (Orphaned id) = whole_flags

-- the 16 bytes of a header
abbrev pub header_bytes : ℕ → ℕ → ℕ → ℕ → List ℕ
header_bytes ptype flags size id =
    rpc_vers ∷ rpc_vers_minor ∷ ptype ∷ flags ∷ drep_little_endian_ascii ∷ drep_ieee ∷ 0 ∷ 0 ∷ u16_bytes size
    ++ 0 ∷ 0 ∷ u32_bytes id

-- a context element with its transfer syntaxes
unfoldable pub element_bytes : Element → List ℕ
element_bytes element =
    u16_bytes element.context ++ length element.transfers ∷ 0 ∷ syntax_bytes element.subject
    ++ flat_map syntax_bytes element.transfers

-- the answer to one context element
unfoldable pub outcome_bytes : Outcome → List ℕ
outcome_bytes outcome = u16_bytes outcome.result ++ u16_bytes outcome.reason ++ syntax_bytes outcome.syntax

-- the largest fragments that are sent and taken, and the association group
abbrev pub sizes_bytes : ℕ → ℕ → ℕ → List ℕ
sizes_bytes xmit recv group = u16_bytes xmit ++ u16_bytes recv ++ u32_bytes group

abbrev pub elements_bytes : List Element → List ℕ
elements_bytes elements = length elements ∷ 0 ∷ 0 ∷ 0 ∷ flat_map element_bytes elements

abbrev pub outcomes_bytes : List Outcome → List ℕ
outcomes_bytes outcomes = length outcomes ∷ 0 ∷ 0 ∷ 0 ∷ flat_map outcome_bytes outcomes

-- what stands after the header. The secondary address of a bind_ack is the empty text with its zero byte, and is
-- padded to 4;
-- that of an alter_context_resp is left out. A bind_nak says that version 5.0 is served
unfoldable pub body_bytes : Pdu → List ℕ
body_bytes (Request id flags context opnum stub) =
    u32_bytes (length stub) ++ u16_bytes context ++ u16_bytes opnum ++ stub
body_bytes (Response id flags context hint stub) = u32_bytes hint ++ u16_bytes context ++ 0 ∷ 0 ∷ stub
body_bytes (Fault id context status) = u32_bytes 0 ++ u16_bytes context ++ 0 ∷ 0 ∷ u32_bytes status ++ u32_bytes 0
body_bytes (Bind id xmit recv group elements) = sizes_bytes xmit recv group ++ elements_bytes elements
body_bytes (BindAck id xmit recv group outcomes) =
    sizes_bytes xmit recv group ++ 1 ∷ 0 ∷ 0 ∷ 0 ∷ outcomes_bytes outcomes
body_bytes (BindNak id reason) = u16_bytes reason ++ 1 ∷ rpc_vers ∷ rpc_vers_minor ∷ 0 ∷ 0 ∷ 0 ∷ []
body_bytes (Alter id xmit recv group elements) = sizes_bytes xmit recv group ++ elements_bytes elements
body_bytes (AlterResp id xmit recv group outcomes) =
    sizes_bytes xmit recv group ++ 0 ∷ 0 ∷ 0 ∷ 0 ∷ outcomes_bytes outcomes
body_bytes (Cancel id) = []
body_bytes (Orphaned id) = []

-- the number of bytes that are written
abbrev pub size_of : Pdu → ℕ
size_of (Request id flags context opnum stub) = 24 + length stub
size_of (Response id flags context hint stub) = 24 + length stub
size_of (Fault id context status) = 32
size_of (Bind id xmit recv group elements) = 28 + sum_by element_size elements
size_of (BindAck id xmit recv group outcomes) = 32 + 24 * length outcomes
size_of (BindNak id reason) = 24
size_of (Alter id xmit recv group elements) = 28 + sum_by element_size elements
size_of (AlterResp id xmit recv group outcomes) = 32 + 24 * length outcomes
size_of (Cancel id) = 16
size_of (Orphaned id) = 16

unfoldable pub written : Pdu → List ℕ
written pdu = header_bytes (type_of pdu) (flags_of pdu) (size_of pdu) (call_id pdu) ++ body_bytes pdu

-- at most 255 elements, transfer syntaxes of an element, and outcomes
abbrev pub HasFewTransfers : Element → Type 0
HasFewTransfers element = length element.transfers ≤ 255

abbrev pub HasFewParts : Pdu → Type 0
HasFewParts (Request id flags context opnum stub) = Unit {0}
HasFewParts (Response id flags context hint stub) = Unit {0}
HasFewParts (Fault id context status) = Unit {0}
HasFewParts (Bind id xmit recv group elements) = (length elements ≤ 255) × All HasFewTransfers elements
HasFewParts (BindAck id xmit recv group outcomes) = length outcomes ≤ 255
HasFewParts (BindNak id reason) = Unit {0}
HasFewParts (Alter id xmit recv group elements) = (length elements ≤ 255) × All HasFewTransfers elements
HasFewParts (AlterResp id xmit recv group outcomes) = length outcomes ≤ 255
HasFewParts (Cancel id) = Unit {0}
HasFewParts (Orphaned id) = Unit {0}

-- each UUID has its 16 bytes, as that of every value has
abbrev pub IsWhole : Syntax → Type 0
IsWhole syntax = length syntax.id ≡ 16

abbrev pub IsWholeElement : Element → Type 0
IsWholeElement element = IsWhole element.subject × All IsWhole element.transfers

abbrev pub IsWholeOutcome : Outcome → Type 0
IsWholeOutcome outcome = IsWhole outcome.syntax

abbrev pub HasWholeIds : Pdu → Type 0
HasWholeIds (Request id flags context opnum stub) = Unit {0}
HasWholeIds (Response id flags context hint stub) = Unit {0}
HasWholeIds (Fault id context status) = Unit {0}
HasWholeIds (Bind id xmit recv group elements) = All IsWholeElement elements
HasWholeIds (BindAck id xmit recv group outcomes) = All IsWholeOutcome outcomes
HasWholeIds (BindNak id reason) = Unit {0}
HasWholeIds (Alter id xmit recv group elements) = All IsWholeElement elements
HasWholeIds (AlterResp id xmit recv group outcomes) = All IsWholeOutcome outcomes
HasWholeIds (Cancel id) = Unit {0}
HasWholeIds (Orphaned id) = Unit {0}

-- a request doesn't claim an object UUID, which isn't kept and so isn't written
abbrev pub LacksObject : Pdu → Type 0
LacksObject (Request id flags context opnum stub) = has_object flags ≡ false
LacksObject (Response id flags context hint stub) = Unit {0}
LacksObject (Fault id context status) = Unit {0}
LacksObject (Bind id xmit recv group elements) = Unit {0}
LacksObject (BindAck id xmit recv group outcomes) = Unit {0}
LacksObject (BindNak id reason) = Unit {0}
LacksObject (Alter id xmit recv group elements) = Unit {0}
LacksObject (AlterResp id xmit recv group outcomes) = Unit {0}
LacksObject (Cancel id) = Unit {0}
LacksObject (Orphaned id) = Unit {0}
