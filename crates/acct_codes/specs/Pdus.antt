-- What a PDU's fields are: its type, its header, what is answered to a bind, and why it is refused.
use Rattle.std.specs.Prelude.{ℕ}

-- ======== the types of PDUs (PTYPE, C706 12.6.1), each by its section

-- a request (C706 12.6.4.9)
abbrev pub ptype_request : ℕ
ptype_request = 0

-- a response (C706 12.6.4.10)
abbrev pub ptype_response : ℕ
ptype_response = 2

-- a fault (C706 12.6.4.7)
abbrev pub ptype_fault : ℕ
ptype_fault = 3

-- a bind (C706 12.6.4.3)
abbrev pub ptype_bind : ℕ
ptype_bind = 11

-- a bind_ack (C706 12.6.4.4)
abbrev pub ptype_bind_ack : ℕ
ptype_bind_ack = 12

-- a bind_nak (C706 12.6.4.5)
abbrev pub ptype_bind_nak : ℕ
ptype_bind_nak = 13

-- an alter_context (C706 12.6.4.1)
abbrev pub ptype_alter_context : ℕ
ptype_alter_context = 14

-- an alter_context_resp (C706 12.6.4.2)
abbrev pub ptype_alter_context_resp : ℕ
ptype_alter_context_resp = 15

-- a shutdown, which neither side reads (C706 12.6.4.11)
abbrev pub ptype_shutdown : ℕ
ptype_shutdown = 17

-- a cancel (C706 12.6.4.6)
abbrev pub ptype_co_cancel : ℕ
ptype_co_cancel = 18

-- an orphaned (C706 12.6.4.8)
abbrev pub ptype_orphaned : ℕ
ptype_orphaned = 19

-- ======== the header of a PDU: its versions, its flags and its data representation (C706 12.6.3.1, 14.1)

-- the version (rpc_vers)
abbrev pub rpc_vers : ℕ
rpc_vers = 5

-- the minor version that is written (rpc_vers_minor)
abbrev pub rpc_vers_minor : ℕ
rpc_vers_minor = 0

-- the greatest minor version that is read
abbrev pub most_rpc_vers_minor : ℕ
most_rpc_vers_minor = 1

-- the first fragment
abbrev pub pfc_first_frag : ℕ
pfc_first_frag = 0x01

-- the last fragment
abbrev pub pfc_last_frag : ℕ
pfc_last_frag = 0x02

-- the call was not carried out
abbrev pub pfc_did_not_execute : ℕ
pfc_did_not_execute = 0x20

-- an object UUID stands before the stub
abbrev pub pfc_object_uuid : ℕ
pfc_object_uuid = 0x80

-- integers with the low byte first, characters in ASCII
abbrev pub drep_little_endian_ascii : ℕ
drep_little_endian_ascii = 0x10

-- floats as IEEE has them
abbrev pub drep_ieee : ℕ
drep_ieee = 0

-- ======== what is answered to the presentation contexts of a bind, and to a bind (C706 12.6.3.1)

-- the context is accepted (acceptance of p_cont_def_result_t)
abbrev pub result_acceptance : ℕ
result_acceptance = 0

-- the context is rejected, for a reason (provider_rejection of p_cont_def_result_t)
abbrev pub result_provider_rejection : ℕ
result_provider_rejection = 2

-- the reason of an acceptance (reason_not_specified of p_provider_reason_t)
abbrev pub reason_none : ℕ
reason_none = 0

-- the interface isn't served (abstract_syntax_not_supported of p_provider_reason_t)
abbrev pub reason_abstract_syntax : ℕ
reason_abstract_syntax = 1

-- no transfer syntax is (proposed_transfer_syntaxes_not_supported of p_provider_reason_t)
abbrev pub reason_transfer_syntaxes : ℕ
reason_transfer_syntaxes = 2

-- a bind is refused for a reason that isn't told (REASON_NOT_SPECIFIED of p_reject_reason_t)
abbrev pub reject_none : ℕ
reject_none = 0

-- a bind is refused for its version (PROTOCOL_VERSION_NOT_SUPPORTED of p_reject_reason_t)
abbrev pub reject_protocol_version : ℕ
reject_protocol_version = 4

-- ======== the statuses of faults (C706, appendix E; MS-RPCE 3.1.1.5.5; MS-ERREF 2.2), each by what it is answered to

-- nca_s_op_rng_error: the operation number isn't served
abbrev pub fault_operation_range : ℕ
fault_operation_range = 0x1C01_0002

-- nca_s_unk_if: the interface isn't known
abbrev pub fault_unknown_interface : ℕ
fault_unknown_interface = 0x1C01_0003

-- nca_s_proto_error: the caller broke the protocol
abbrev pub fault_protocol_error : ℕ
fault_protocol_error = 0x1C01_000B

-- nca_s_server_too_busy: the server takes no more calls
abbrev pub fault_server_too_busy : ℕ
fault_server_too_busy = 0x1C01_0014

-- nca_s_fault_context_mismatch: the context handle isn't known
abbrev pub fault_context_mismatch : ℕ
fault_context_mismatch = 0x1C00_001A

-- RPC_X_BAD_STUB_DATA: the stub data spell no call
abbrev pub fault_bad_stub_data : ℕ
fault_bad_stub_data = 0x0000_06F7

-- ======== the causes for which a PDU is refused and its connection closed, as this project numbers them
-- Where several stand together, the order of the checks decides, not the number.

-- the version isn't 5.0 or 5.1
abbrev pub cause_version : ℕ
cause_version = 1

-- the data representation isn't little-endian, ASCII, IEEE
abbrev pub cause_representation : ℕ
cause_representation = 2

-- the type isn't one that this side reads
abbrev pub cause_packet_type : ℕ
cause_packet_type = 3

-- the fragment is shorter than the least of its type
abbrev pub cause_length : ℕ
cause_length = 4

-- there is an authentication verifier
abbrev pub cause_verifier : ℕ
cause_verifier = 5

-- the body of a binding PDU has no reading
abbrev pub cause_body : ℕ
cause_body = 6

-- a first fragment while a request is being gathered
abbrev pub cause_first_twice : ℕ
cause_first_twice = 7

-- a further fragment while no request with its call id is being gathered
abbrev pub cause_no_first : ℕ
cause_no_first = 8

-- the gathered stub would be too long
abbrev pub cause_stub_too_long : ℕ
cause_stub_too_long = 9

-- a bind after a bind, or another PDU before the bind
abbrev pub cause_bind_order : ℕ
cause_bind_order = 10

-- the accepted presentation contexts would be too many
abbrev pub cause_too_many_contexts : ℕ
cause_too_many_contexts = 11
