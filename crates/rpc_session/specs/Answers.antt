-- What is answered on a connection (C706, sections 12.6.3 and 12.6.4): to a bind, and to a call.
use Rattle.std.specs.Prelude.{ℕ, ◌==◌, Bool, not, List, [], ◌∷◌, ◌++◌, Option, Some, None, if◌then◌else◌, zero, suc}
use Rattle.std.specs.Prelude.{◌+◌, ◌-◌, ◌*◌, ◌/◌, true, false, length, take, drop, min, nat_le, ◌≡◌, ◌≤◌, ◌<◌, map, max}
use Rattle.std.specs.List.{filter, find, list_any, concat}
use Rattle.acct_codes.specs.Pdus.{cause_version, fault_protocol_error, result_acceptance, result_provider_rejection}
use Rattle.acct_codes.specs.Pdus.{reason_none, reason_abstract_syntax, reason_transfer_syntaxes, reject_none}
use Rattle.acct_codes.specs.Pdus.{reject_protocol_version, pfc_first_frag, pfc_last_frag, ptype_bind}
use Rattle.acct_codes.specs.Limits.{least_fragment, most_fragment}
use Rattle.acct_calls.specs.declared.calls.Face.{Face}
use Rattle.acct_calls.specs.declared.calls.Face.TheVariants.{Samr, Lsa}
use Rattle.rpc_pdu.specs.Headers.{u16_bytes, u32_bytes, same_syntax, samr, lsarpc, ndr}
use Rattle.rpc_pdu.specs.Written.{header_bytes, written}
use Rattle.rpc_pdu.specs.declared.pdus.Element.{Element}
use Rattle.rpc_pdu.specs.declared.pdus.Outcome.{Outcome}
use Rattle.rpc_pdu.specs.declared.pdus.Pdu.TheVariants.{Response, Fault, BindAck, AlterResp, BindNak}
use Rattle.rpc_pdu.specs.declared.syntaxes.Syntax.{Syntax}
use Rattle.rpc_session.specs.declared.contexts.Context.{Context}
use Rattle.rpc_session.specs.declared.fragments.FragmentHead.{FragmentHead}
use Rattle.rpc_session.specs.declared.sessions.Act.{Act}
use Rattle.rpc_session.specs.declared.sessions.Act.TheVariants.{Closed}
use Rattle.rpc_session.specs.declared.sessions.Sizes.{Sizes}

-- ======== which presentation contexts are accepted, and what is answered to each one that is offered (C706, sections
-- 12.6.3.1 and 12.6.4.4)

-- the interface with this abstract syntax, where it is served
unfoldable pub face_of : Syntax → Option Face
face_of subject = if same_syntax subject samr then Some Samr
    else (if same_syntax subject lsarpc then Some Lsa else None)

-- whether NDR is among the transfer syntaxes
unfoldable pub offers_ndr : List Syntax → Bool
offers_ndr transfers = list_any (λ t. same_syntax t ndr) transfers

-- the interface of an element that is accepted
abbrev pub judged : Option Face → Bool → Option Face
judged None offered = None
judged (Some face) offered = if offered then Some face else None

unfoldable pub accepted : Element → Option Face
accepted e = judged (face_of e.subject) (offers_ndr e.transfers)

-- no syntax: 16 zero bytes and version 0
abbrev pub no_syntax : Syntax
no_syntax = record { id = 0 ∷ 0 ∷ 0 ∷ 0 ∷ 0 ∷ 0 ∷ 0 ∷ 0 ∷ 0 ∷ 0 ∷ 0 ∷ 0 ∷ 0 ∷ 0 ∷ 0 ∷ 0 ∷ []; version = 0 }

-- a rejection by the provider
abbrev pub rejected : ℕ → Outcome
rejected reason = record { result = result_provider_rejection; reason = reason; syntax = no_syntax }

-- an acceptance, or a rejection because of the abstract syntax or the transfer syntaxes
abbrev pub answered : Option Face → Bool → Outcome
answered None offered = rejected reason_abstract_syntax
answered (Some face) offered = if offered then record { result = result_acceptance; reason = reason_none; syntax = ndr }
    else rejected reason_transfer_syntaxes

unfoldable pub outcome : Element → Outcome
outcome e = answered (face_of e.subject) (offers_ndr e.transfers)

-- an accepted id that comes again is replaced; a rejected element changes nothing
abbrev pub replaced : List Context → ℕ → Option Face → List Context
replaced contexts id None = contexts
replaced contexts id (Some face) = filter (λ c. not (c.id == id)) contexts ++ record { id = id; face = face } ∷ []

abbrev pub with_element : List Context → Element → List Context
with_element contexts e = replaced contexts e.context (accepted e)

-- the accepted contexts after one element and another
abbrev pub with_elements : List Context → List Element → List Context
with_elements contexts [] = contexts
with_elements contexts (e ∷ es) = with_elements (with_element contexts e) es

abbrev pub face_at : ℕ → List Context → Option Context
face_at id contexts = find (λ c. c.id == id) contexts

-- ======== how a stub is cut into fragments, those of a reply or of a client's call (C706, sections 12.6.3 and 12.6.4)

-- the largest multiple of 8 that fits a fragment's size after its first 24 bytes
abbrev pub most_of : ℕ → ℕ
most_of size = 8 * ((size - 24) / 8)

abbrev pub first_flag : Bool → ℕ
first_flag true = pfc_first_frag
first_flag false = 0

-- A fragment with these flags and a part of the stub, of which so many bytes are left with this part; the hint says so,
-- as far as 32 bits tell it.
unfoldable pub fragment : FragmentHead → ℕ → ℕ → List ℕ → List ℕ
fragment head flags left part =
    header_bytes head.ptype flags (24 + length part) head.id
    ++ (u32_bytes (min left 0xFFFFFFFF) ++ u16_bytes head.context ++ u16_bytes head.opnum ++ part)

-- In at most so many fragments and one, each as the given writing of its flags, of what is left and of its part has it:
-- each but the last has as many bytes as fit, the last has the others.
unfoldable pub cut_in : ℕ → (ℕ → ℕ → List ℕ → List ℕ) → ℕ → Bool → List ℕ → List ℕ
cut_in zero one most first stub = one (first_flag first + pfc_last_frag) (length stub) stub
cut_in (suc turns) one most first stub =
    if nat_le (length stub) most then one (first_flag first + pfc_last_frag) (length stub) stub
    else one (first_flag first) (length stub) (take most stub) ++ cut_in turns one most false (drop most stub)

unfoldable pub cut_stub : (ℕ → ℕ → List ℕ → List ℕ) → ℕ → Bool → List ℕ → List ℕ
cut_stub one most first stub = cut_in (length stub) one most first stub

-- ======== the bytes that answer a call: a fault, or a reply's stub cut into responses (C706, sections 12.6.3 and
-- 12.6.4)

unfoldable pub fault_bytes : ℕ → ℕ → ℕ → List ℕ
fault_bytes id context status = written (Fault id context status)

-- a response with a part of the stub, of which so many bytes are left with this part
unfoldable pub response : ℕ → ℕ → ℕ → ℕ → List ℕ → List ℕ
response id context flags left part = written (Response id flags context (min left 0xFFFFFFFF) part)

-- the responses that bring a reply's stub in fragments of at most so many bytes
abbrev pub reply_bytes : ℕ → ℕ → ℕ → List ℕ → List ℕ
reply_bytes id context size stub = cut_stub (response id context) (most_of size) true stub

-- The responses that bring the parts of a stub one after the other: PFC_FIRST_FRAG is on the first alone and
-- PFC_LAST_FRAG on the last alone, and each hint is the number of stub bytes from that response on.
abbrev pub responses : ℕ → ℕ → Bool → List (List ℕ) → List ℕ
responses id context first [] = []
responses id context first (part ∷ []) =
    response id context (first_flag first + pfc_last_frag) (length part) part
responses id context first (part ∷ next ∷ parts) =
    response id context (first_flag first) (length (concat (part ∷ next ∷ parts))) part
    ++ responses id context false (next ∷ parts)

-- each part but the last has as many bytes as fit, and something is left after it; the last has at most as many
abbrev pub AreParts : ℕ → List (List ℕ) → Type 0
AreParts most [] = ⊥
AreParts most (last ∷ []) = length last ≤ most
AreParts most (part ∷ next ∷ parts) = (length part ≡ most) × (0 < length (concat (next ∷ parts)))
    × AreParts most (next ∷ parts)

-- these bytes are responses whose parts, joined, are the stub
pub record BringsStub (id context most : ℕ) (first : Bool) (stub bytes : List ℕ) : Type 0 where
  pub part : List ℕ
  pub others : List (List ℕ)
  pub cut : AreParts most (part ∷ others)
  pub joined : concat (part ∷ others) ≡ stub
  pub bytes_are : bytes ≡ responses id context first (part ∷ others)

abbrev pub RepliesBringStubs : Type 0
RepliesBringStubs = (id context size : ℕ) (stub : List ℕ) → least_fragment ≤ size
    → BringsStub id context (most_of size) true stub (reply_bytes id context size stub)

-- ======== what is answered on a connection without a call (C706, sections 12.6.3.1 and 12.6.4)

-- the size of fragments that is answered, for the one that was asked
abbrev pub size_for : ℕ → ℕ
size_for asked = min most_fragment (max least_fragment asked)

-- what the client sends at most is what is received at most, and the other way round
abbrev pub sizes_for : ℕ → ℕ → Sizes
sizes_for xmit recv = record { xmit = size_for recv; recv = size_for xmit }

-- the answers to bind and to alter_context; the association group is the connection's number
unfoldable pub bind_answer : ℕ → ℕ → Sizes → List Element → List ℕ
bind_answer conn id sizes elements = written (BindAck id sizes.xmit sizes.recv conn (map outcome elements))

unfoldable pub alter_answer : ℕ → ℕ → Sizes → List Element → List ℕ
alter_answer conn id sizes elements = written (AlterResp id sizes.xmit sizes.recv conn (map outcome elements))

-- The answer to a PDU that is refused: a bind_nak where its type byte is that of a bind, whose reason tells if the
-- version is refused; otherwise the fault nca_s_proto_error, on context 0.
unfoldable pub refusal_bytes : ℕ → ℕ → ℕ → List ℕ
refusal_bytes cause ptype id =
    if ptype == ptype_bind then
    written (BindNak id (if cause == cause_version then reject_protocol_version else reject_none))
    else fault_bytes id 0 fault_protocol_error

abbrev pub closing : ℕ → ℕ → ℕ → ℕ → Act
closing place cause ptype id = Closed place cause (refusal_bytes cause ptype id)
