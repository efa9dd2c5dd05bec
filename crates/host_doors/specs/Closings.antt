-- Why a link was closed that hadn't ended, by the PDU that was written last. The type of a PDU is its third byte (C706
-- 12.6.3.1), and the status of a fault stands after 24 bytes (C706 12.6.4.7).
use Rattle.std.specs.Prelude.{ℕ, Bool, true, false, ◌&&◌, ◌==◌, List, length, drop, Option, Some, None}
use Rattle.std.specs.Prelude.{if◌then◌else◌, slice_get}
use Rattle.std.specs.Int.{w32, from_le_bytes}
use Rattle.acct_codes.specs.Pdus.{fault_protocol_error, fault_server_too_busy, ptype_bind_nak, ptype_fault}
use Rattle.host_doors.specs.declared.closings.LastPdu.{LastPdu}
use Rattle.host_doors.specs.declared.closings.LastPdu.TheVariants.{Refusal, Busy, Other}
use Rattle.host_doors.specs.declared.closings.CloseCause.{CloseCause}
use Rattle.host_doors.specs.declared.closings.CloseCause.TheVariants.{Refused, Full, Memory, Limit}

abbrev pub is_byte : ℕ → Option ℕ → Bool
is_byte number None = false
is_byte number (Some byte) = byte == number

-- one PDU of a type that has so many bytes
abbrev pub is_pdu : ℕ → ℕ → List ℕ → Bool
is_pdu ptype size bytes = is_byte ptype (slice_get bytes 2) && (length bytes == size)

-- a fault of a server has 32 bytes
abbrev pub fault_status : List ℕ → Option ℕ
fault_status bytes = if is_pdu ptype_fault 32 bytes then Some (from_le_bytes w32 (drop 24 bytes)) else None

-- what a fault of the status says: a PDU is refused by a protocol error
abbrev pub of_status : ℕ → LastPdu
of_status status = if status == fault_protocol_error then Refusal
    else (if status == fault_server_too_busy then Busy else Other)

abbrev pub of_fault : Option ℕ → LastPdu
of_fault None = Other
of_fault (Some status) = of_status status

-- a bind_nak of a server has 24 bytes
unfoldable pub last_of : List ℕ → LastPdu
last_of bytes = if is_pdu ptype_bind_nak 24 bytes then Refusal else of_fault (fault_status bytes)

-- Why it was closed: as the last PDU says. After any other PDU as many bytes were read as may be, the last of which
-- fill what was given for them, or memory ran out.
abbrev pub cause_of : LastPdu → ℕ → Bool → CloseCause
cause_of Refusal read filled = Refused
cause_of Busy read filled = Full
cause_of Other read true = Limit read
cause_of Other read false = Memory
