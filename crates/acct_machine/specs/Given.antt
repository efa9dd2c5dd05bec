-- What a connection's handles stand for, what a call needs of the handle that it brings, and which handle passed.
use Rattle.std.specs.Prelude.{ℕ, Bool, true, false, ◌&&◌, Option, Some, None, option_map, if◌then◌else◌}
use Rattle.acct_calls.specs.declared.calls.Args.{Args}
use Rattle.acct_calls.specs.declared.calls.Call.{Call}
use Rattle.acct_tables.specs.declared.object.Object.{Object}
use Rattle.acct_rows.specs.Rows.{Lists}
use Rattle.acct_rules.specs.declared.profile.Brings.{Brings}
use Rattle.acct_rules.specs.declared.profile.Brings.TheVariants as brings
use Rattle.acct_rules.specs.declared.profile.Profile.{Profile}
use Rattle.acct_rules.specs.Profiles.{needed_bits, Operation}
use Rattle.acct_machine.specs.declared.checks.Access.{Access}
use Rattle.acct_machine.specs.declared.checks.Access.TheVariants.{Passed, Unknown, WrongKind, Denied}
use Rattle.acct_machine.specs.declared.state.Held.{Held}
use Rattle.acct_machine.specs.State.{State, find_handle}
use Rattle.acct_machine.specs.Access.{operation_of, held_by, access}

-- a handle's object, and the access that its opening granted
abbrev pub given_by : Held → Object × ℕ
given_by held = (held.object, held.granted)

-- the same of the connection's handle of a number, if there is one
abbrev pub given : State → ℕ → ℕ → Option (Object × ℕ)
given s conn number = option_map given_by (find_handle conn number s.handles)

-- a call of the operation brings a handle
abbrev pub is_brought : Brings → Bool
is_brought brings.Nothing = false
is_brought (brings.Handle kinds) = true

-- the bits that the grant of the handle must have; none where no handle is brought
abbrev pub needed_by : Profile → Lists → Args → ℕ
needed_by profile r asked = if is_brought profile.brings then needed_bits profile.needs r asked else 0

abbrev pub needed_in : Option Operation → Lists → Args → ℕ
needed_in None r asked = 0
needed_in (Some o) r asked = needed_by o.profile r asked

-- the bits that a call needs of its handle's grant
abbrev pub needed_of : State → Call → ℕ
needed_of s call = needed_in (operation_of call) s.rows call.args

abbrev pub is_passed : Access → Bool
is_passed Passed = true
is_passed Unknown = false
is_passed WrongKind = false
is_passed Denied = false

-- the handle that a call of the operation brings, where it brings one and the check lets it pass
abbrev pub passed_by : Operation → State → ℕ → Call → Option Held
passed_by o s conn call =
    if is_brought o.profile.brings && is_passed (access o s conn call) then held_by s conn call else None

abbrev pub passed_in : Option Operation → State → ℕ → Call → Option Held
passed_in None s conn call = None
passed_in (Some o) s conn call = passed_by o s conn call

-- the same, by the operation of the call
abbrev pub passed_handle : State → ℕ → Call → Option Held
passed_handle s conn call = passed_in (operation_of call) s conn call
