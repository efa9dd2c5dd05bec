-- What read_pdu answers.
use Rattle.std.specs.Prelude.{◌≡◌, ℕ, ◌-◌, ◌≤◌, true, List, length, take}
use Rattle.rpc_pdu.specs.declared.pdus.Side.{Side}
use Rattle.rpc_pdu.specs.declared.pdus.Pdu.{Pdu}
use Rattle.rpc_pdu.specs.declared.pdus.Pdu.TheVariants.{Bind, Alter, Request, Cancel, Orphaned, BindAck, AlterResp}
use Rattle.rpc_pdu.specs.declared.pdus.Pdu.TheVariants.{BindNak, Response, Fault}
use Rattle.rpc_pdu.specs.declared.fronts.ReadPdu.{ReadPdu}
use Rattle.rpc_pdu.specs.declared.fronts.ReadPdu.TheVariants as read
use Rattle.rpc_pdu.specs.declared.headers.Kind.{Kind}
use Rattle.rpc_pdu.specs.declared.headers.Header.TheVariants.{Long}
use Rattle.rpc_pdu.specs.Headers.{header_of}
use Rattle.rpc_pdu.specs.Bodies.{takes_memory, Whole, Rest, Refused, front}
use Rattle.rpc_pdu.specs.Written.{type_of, call_id, size_of, HasFewParts, HasWholeIds}

-- Where reading may run out of memory: the header is good, the PDU is whole, and it has a stub, an element or an
-- outcome.
pub record MayWant (side : Side) (bytes : List ℕ) : Type 0 where
  pub kind : Kind
  pub size : ℕ
  pub header : header_of side (take 16 bytes) ≡ Long kind size
  pub there : size ≤ length bytes
  pub taken : takes_memory kind (take size bytes) ≡ true

-- what is read is the prefix, with the type byte and the call id of a whole PDU, unless memory ran out
abbrev pub IsRead : ReadPdu → Side → List ℕ → Type 0
IsRead (read.Got pdu ptype id used) side bytes = (front side bytes ≡ Whole pdu used) × (16 ≤ used)
    × (used ≤ length bytes) × (ptype ≡ type_of pdu) × (id ≡ call_id pdu)
IsRead read.More side bytes = front side bytes ≡ Rest
IsRead (read.Refused place cause ptype id) side bytes = (front side bytes ≡ Refused place cause ptype id)
    × (place ≤ length bytes)
IsRead read.NoMemory side bytes = MayWant side bytes

-- the number of stub bytes of a request or a response
abbrev pub stub_length : Pdu → ℕ
stub_length (Request id flags context opnum stub) = length stub
stub_length (Response id flags context hint stub) = length stub
stub_length (Bind id xmit recv group elements) = 0
stub_length (Alter id xmit recv group elements) = 0
stub_length (Cancel id) = 0
stub_length (Orphaned id) = 0
stub_length (BindAck id xmit recv group outcomes) = 0
stub_length (AlterResp id xmit recv group outcomes) = 0
stub_length (BindNak id reason) = 0
stub_length (Fault id context status) = 0

-- what is read has at most 65,535 bytes, and can be written again
pub record IsBounded (pdu : Pdu) (used : ℕ) : Type 0 where
  pub size_most : used ≤ 65535
  pub stub_most : stub_length pdu ≤ used - 24
  pub few_parts : HasFewParts pdu
  pub written_most : size_of pdu ≤ 65535
  pub whole_ids : HasWholeIds pdu

abbrev pub IsWithin : ReadPdu → Type 0
IsWithin (read.Got pdu ptype id used) = IsBounded pdu used
IsWithin read.More = Unit {0}
IsWithin (read.Refused place cause ptype id) = Unit {0}
IsWithin read.NoMemory = Unit {0}
