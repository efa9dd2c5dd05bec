-- The fields of a PDU: numbers, its header, syntaxes, and lists of them.
use Rattle.std.specs.Prelude.{ℕ, ◌+◌, ◌*◌, ◌/◌, ◌%◌, ◌^◌, ◌++◌, List, [], ◌∷◌, slice_index, ◌==◌, Bool, Option, Some}
use Rattle.std.specs.Prelude.{None, if◌then◌else◌, nat_lt, nat_le, not, ◌&&◌, bit_and, take, length}
use Rattle.std.specs.Str.{bytes_eq}
use Rattle.uuid.specs.Parts.{swap_fields}
use Rattle.acct_base.specs.Reading.{Reader, ◌>>=◌, front_at, many}
use Rattle.acct_codes.specs.Pdus.{cause_version, cause_representation, cause_packet_type, cause_length, cause_verifier}
use Rattle.acct_codes.specs.Pdus.{rpc_vers, most_rpc_vers_minor, pfc_object_uuid, drep_little_endian_ascii, drep_ieee}
use Rattle.acct_codes.specs.Pdus.{ptype_request, ptype_response, ptype_fault, ptype_bind, ptype_bind_ack}
use Rattle.acct_codes.specs.Pdus.{ptype_bind_nak, ptype_alter_context, ptype_alter_context_resp, ptype_co_cancel}
use Rattle.acct_codes.specs.Pdus.{ptype_orphaned}
use Rattle.rpc_pdu.specs.declared.headers.Header.{Header}
use Rattle.rpc_pdu.specs.declared.headers.Header.TheVariants.{Bad, Long}
use Rattle.rpc_pdu.specs.declared.headers.Kind.{Kind}
use Rattle.rpc_pdu.specs.declared.headers.Kind.TheVariants.{Request, Response, Fault, Bind, BindAck, BindNak, Alter}
use Rattle.rpc_pdu.specs.declared.headers.Kind.TheVariants.{AlterResp, Cancel, Orphaned}
use Rattle.rpc_pdu.specs.declared.pdus.Element.{Element}
use Rattle.rpc_pdu.specs.declared.pdus.Outcome.{Outcome}
use Rattle.rpc_pdu.specs.declared.pdus.Side.{Side}
use Rattle.rpc_pdu.specs.declared.pdus.Side.TheVariants.{Server, Client}
use Rattle.rpc_pdu.specs.declared.syntaxes.Syntax.{Syntax}

-- ======== numbers in bytes, the low byte first, as the data representation 10 00 00 00 has them

-- the number in two bytes from a place on, and in four
abbrev pub u16_at : List ℕ → ℕ → ℕ
u16_at bytes place = slice_index bytes place + 2 ^ 8 * slice_index bytes (place + 1)

abbrev pub u32_at : List ℕ → ℕ → ℕ
u32_at bytes place = u16_at bytes place + 2 ^ 16 * u16_at bytes (place + 2)

-- the two bytes of a number below 2 ^ 16, and the four of one below 2 ^ 32
abbrev pub u16_bytes : ℕ → List ℕ
u16_bytes number = number % 2 ^ 8 ∷ number / 2 ^ 8 ∷ []

abbrev pub u32_bytes : ℕ → List ℕ
u32_bytes number = u16_bytes (number % 2 ^ 16) ++ u16_bytes (number / 2 ^ 16)

-- ======== the header of a PDU (C706, section 12.6.3.1), and which of it is refused: version, representation, packet
-- type, length, verifier, in this order, each with its place

-- the type with this number, where the side reads it
abbrev pub kind_of : Side → ℕ → Option Kind
kind_of Server ptype =
    if ptype == ptype_request then Some Request
    else (if ptype == ptype_bind then Some Bind
    else (if ptype == ptype_alter_context then Some Alter
    else (if ptype == ptype_co_cancel then Some Cancel
    else (if ptype == ptype_orphaned then Some Orphaned else None))))
kind_of Client ptype =
    if ptype == ptype_response then Some Response
    else (if ptype == ptype_fault then Some Fault
    else (if ptype == ptype_bind_ack then Some BindAck
    else (if ptype == ptype_bind_nak then Some BindNak
    else (if ptype == ptype_alter_context_resp then Some AlterResp else None))))

-- whether the flags tell of an object UUID
abbrev pub has_object : ℕ → Bool
has_object flags = not (bit_and flags pfc_object_uuid == 0)

-- the length that a PDU has at least, by its type and flags
abbrev pub least_length : Kind → ℕ → ℕ
least_length Request flags = if has_object flags then 40 else 24
least_length Response flags = 24
least_length Fault flags = 32
least_length Bind flags = 28
least_length BindAck flags = 32
least_length BindNak flags = 18
least_length Alter flags = 28
least_length AlterResp flags = 32
least_length Cancel flags = 16
least_length Orphaned flags = 16

abbrev pub sized : List ℕ → Option Kind → Header
sized head None = Bad 2 cause_packet_type
sized head (Some known) =
    if nat_lt (u16_at head 8) (least_length known (slice_index head 3)) then Bad 8 cause_length
    else (if u16_at head 10 == 0 then Long known (u16_at head 8) else Bad 10 cause_verifier)

-- the first of these causes that holds of 16 bytes, or the type and the length of the PDU
unfoldable pub header_of : Side → List ℕ → Header
header_of side head =
    if not ((slice_index head 0 == rpc_vers) && nat_le (slice_index head 1) most_rpc_vers_minor) then
    Bad 0 cause_version
    else (if not ((slice_index head 4 == drep_little_endian_ascii) && (slice_index head 5 == drep_ieee)) then
    Bad 4 cause_representation
    else sized head (kind_of side (slice_index head 2)))

-- ======== presentation syntaxes: those that are served, their equality, and their 20 bytes (C706, section 12.6.3.1)

-- 12345778-1234-abcd-ef00-0123456789ac, version 1
abbrev pub samr : Syntax
samr = record {
  id = 0x12 ∷ 0x34 ∷ 0x57 ∷ 0x78 ∷ 0x12 ∷ 0x34 ∷ 0xab ∷ 0xcd ∷ 0xef ∷ 0x00 ∷ 0x01 ∷ 0x23 ∷ 0x45 ∷ 0x67
      ∷ 0x89 ∷ 0xac ∷ [];
  version = 1;
}

-- 12345778-1234-abcd-ef00-0123456789ab, version 0
abbrev pub lsarpc : Syntax
lsarpc = record {
  id = 0x12 ∷ 0x34 ∷ 0x57 ∷ 0x78 ∷ 0x12 ∷ 0x34 ∷ 0xab ∷ 0xcd ∷ 0xef ∷ 0x00 ∷ 0x01 ∷ 0x23 ∷ 0x45 ∷ 0x67
      ∷ 0x89 ∷ 0xab ∷ [];
  version = 0;
}

-- 8a885d04-1ceb-11c9-9fe8-08002b104860, version 2
abbrev pub ndr : Syntax
ndr = record {
  id = 0x8a ∷ 0x88 ∷ 0x5d ∷ 0x04 ∷ 0x1c ∷ 0xeb ∷ 0x11 ∷ 0xc9 ∷ 0x9f ∷ 0xe8 ∷ 0x08 ∷ 0x00 ∷ 0x2b ∷ 0x10
      ∷ 0x48 ∷ 0x60 ∷ [];
  version = 2;
}

-- whether UUID and version word are the same
abbrev pub same_syntax : Syntax → Syntax → Bool
same_syntax left right = bytes_eq left.id right.id && (left.version == right.version)

-- the syntax in 20 bytes: its UUID with the first three fields low byte first, and its version
unfoldable pub syntax_of : List ℕ → Syntax
syntax_of bytes = record { id = swap_fields (take 16 bytes); version = u32_at bytes 16 }

-- the 20 bytes of a syntax
unfoldable pub syntax_bytes : Syntax → List ℕ
syntax_bytes syntax = swap_fields syntax.id ++ u32_bytes syntax.version

-- ======== the lists of a binding PDU and its answer (p_cont_list_t and p_result_list_t of C706, section 12.6.3.1)

unfoldable pub syntax_at : Reader Syntax
syntax_at bytes = do
  front ← front_at 20 bytes
  Some (syntax_of front.0, front.1)

-- a context id, the number of transfer syntaxes, a reserved byte, the abstract syntax, the transfer syntaxes
unfoldable pub element_at : Reader Element
element_at bytes = do
  head ← front_at 4 bytes
  subject ← syntax_at head.1
  transfers ← many syntax_at (slice_index head.0 2) subject.1
  Some (record { context = u16_at head.0 0; subject = subject.0; transfers = transfers.0 }, transfers.1)

-- a result, a reason, a transfer syntax
unfoldable pub outcome_at : Reader Outcome
outcome_at bytes = do
  head ← front_at 4 bytes
  syntax ← syntax_at head.1
  Some (record { result = u16_at head.0 0; reason = u16_at head.0 2; syntax = syntax.0 }, syntax.1)

-- the number of bytes of a context element
abbrev pub element_size : Element → ℕ
element_size element = 24 + 20 * length element.transfers
