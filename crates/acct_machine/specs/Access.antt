-- Which calls there are, the check of a call's handle, and what an opening grants.
use Rattle.std.specs.Prelude.{◌≡◌, true, Option, option_map, ℕ, ◌==◌, Bool, bit_and, Some, None, if◌then◌else◌, false}
use Rattle.std.specs.Prelude.{is_none, slice_get}
use Rattle.std.specs.Option.{option_or}
use Rattle.acct_codes.specs.declared.kind.Kind.{Kind}
use Rattle.dtyp_access.specs.Granted.{opened}
use Rattle.dtyp_access.specs.declared.descriptor.Descriptor.{Descriptor}
use Rattle.acct_calls.specs.declared.calls.Call.{Call}
use Rattle.acct_config.specs.Kinds.{kind_place}
use Rattle.acct_config.specs.declared.config.Config.{Config}
use Rattle.acct_config.specs.declared.config.Listener.{Listener}
use Rattle.acct_layouts.specs.CallShapes.{CanBeSpelled}
use Rattle.acct_tables.specs.Keys.{kind_of}
use Rattle.acct_rows.specs.Rows.{Lists, descriptor_of}
use Rattle.acct_tables.specs.declared.object.Object.{Object}
use Rattle.acct_tables.specs.declared.object.Object.TheVariants.{Server}
use Rattle.acct_rules.specs.Profiles.{Operation, takes, needed_bits}
use Rattle.acct_rules.specs.declared.planned.Opening.{Opening}
use Rattle.acct_rules.specs.declared.profile.Brings.{Brings}
use Rattle.acct_rules.specs.declared.profile.Brings.TheVariants as brings
use Rattle.acct_rules.specs.declared.profile.Kinds.{Kinds}
use Rattle.acct_operations.specs.Table.{operation, work_of, has_operation}
use Rattle.acct_machine.specs.State.{State, find_handle, find_conn}
use Rattle.acct_machine.specs.declared.checks.Access.{Access}
use Rattle.acct_machine.specs.declared.checks.Access.TheVariants.{Passed, Unknown, WrongKind, Denied}
use Rattle.acct_machine.specs.declared.state.Conn.{Conn}
use Rattle.acct_machine.specs.declared.state.Held.{Held}

-- ======== which calls there are: those of the table's operations, each spelled by some stub that is served

-- the operation of a call, by its interface and opnum
abbrev pub operation_of : Call → Option Operation
operation_of call = option_map operation (work_of call.face call.opnum)

abbrev pub IsCall : Call → Type 0
IsCall call = (has_operation call.face call.opnum ≡ true) × CanBeSpelled call

-- ======== the check of a call's handle, by the profile of its operation
-- It looks at no descriptor and at no token.

-- the handle that a call brings, among those of its connection
abbrev pub held_by : State → ℕ → Call → Option Held
held_by s conn call = find_handle conn call.handle.number s.handles

-- its object; where a call brings no handle no operation looks at it
abbrev pub object_of : Option Held → Object
object_of None = Server
object_of (Some held) = held.object

-- the mask has each of the bits
abbrev pub has_bits : ℕ → ℕ → Bool
has_bits mask bits = bit_and mask bits == bits

-- the kind of the object comes before the grant
abbrev pub access_by : Kinds → ℕ → Option Held → Access
access_by kinds bits None = Unknown
access_by kinds bits (Some held) =
    if takes kinds (kind_of held.object) then (if has_bits held.granted bits then Passed else Denied) else WrongKind

abbrev pub access_with : Brings → ℕ → Option Held → Access
access_with brings.Nothing bits held = Passed
access_with (brings.Handle kinds) bits held = access_by kinds bits held

abbrev pub access : Operation → State → ℕ → Call → Access
access o s conn call = access_with o.profile.brings (needed_bits o.profile.needs s.rows call.args) (held_by s conn call)

-- ======== what an opening of an object grants: what the access check of MS-DTYP 2.5.3 gives over the descriptor of the
-- object and the token of whoever connected

-- the descriptor that is configured for the objects of a kind
abbrev pub configured : Config → Kind → Option Descriptor
configured config k = slice_get config.descriptors (kind_place k)

-- the descriptor of an object: that of its row, where it has one, and else the one that is configured for its kind
abbrev pub described_in : Config → Lists → Object → Option Descriptor
described_in config r object = option_or (descriptor_of r object) (configured config (kind_of object))

abbrev pub described : State → Object → Option Descriptor
described s object = described_in s.config s.rows object

-- the listener at which a connection was opened, whose token stands for whoever connected
abbrev pub listener_of : Config → Option Conn → Option Listener
listener_of config None = None
listener_of config (Some c) = slice_get config.listeners c.listener

-- what the check gives; without a descriptor or a listener nothing is granted
abbrev pub checked : Kind → Option Descriptor → Option Listener → ℕ → Option ℕ
checked k None listener desired = None
checked k (Some descriptor) None desired = None
checked k (Some descriptor) (Some listener) desired = opened k descriptor listener.token desired

-- what an opening grants a connection: by the descriptor of the object and the token of the connection's listener
abbrev pub granted_to : Config → Option Descriptor → Option Conn → Object → ℕ → Option ℕ
granted_to config descriptor c object desired =
    checked (kind_of object) descriptor (listener_of config c) desired

-- what an opening of an object grants a connection that asks for the desired access, if it isn't refused
abbrev pub grant_of : State → ℕ → Object → ℕ → Option ℕ
grant_of s conn object desired =
    granted_to s.config (described s object) (find_conn conn s.conns) object desired

-- an opening that an operation plans, if it plans one, is refused
abbrev pub is_opening_refused : State → ℕ → Option Opening → Bool
is_opening_refused s conn None = false
is_opening_refused s conn (Some opening) = is_none (grant_of s conn opening.object opening.desired)
