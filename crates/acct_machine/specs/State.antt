-- The state of the machine: its configuration, rows, connections and handles.
use Rattle.std.specs.Prelude.{ℕ, ◌+◌, ◌*◌, ◌^◌, ◌==◌, Bool, false, ◌&&◌, not, List, [], Option, Some, None}
use Rattle.std.specs.List.{filter, find}
use Rattle.acct_config.specs.declared.config.Config.{Config}
use Rattle.acct_tables.specs.declared.object.Object.{Object}
use Rattle.acct_tables.specs.Keys.{same_object}
use Rattle.acct_rows.specs.Rows.{Lists}
use Rattle.acct_machine.specs.declared.state.Conn.{Conn}
use Rattle.acct_machine.specs.declared.state.Held.{Held}

-- Where a history begins: the configuration, the rows, and how often the store that keeps them has failed.
pub record Start : Type 0 where
  pub config : Config
  pub rows : Lists
  pub faults : ℕ

-- Connections and handles stand in the order in which they came.
pub record State : Type 0 where
  pub config : Config
  pub rows : Lists
  pub conns : List Conn
  pub handles : List Held

-- the state where a history begins: no connection, and no handle
abbrev pub first : Start → State
first start = record { config = start.config; rows = start.rows; conns = []; handles = [] }

-- the connection of a number
abbrev pub find_conn : ℕ → List Conn → Option Conn
find_conn conn conns = find (λ c. c.number == conn) conns

abbrev pub live_of : Option Conn → Bool
live_of None = false
live_of (Some c) = c.live

-- the connection was opened and isn't gone
abbrev pub is_live : ℕ → List Conn → Bool
is_live conn conns = live_of (find_conn conn conns)

abbrev pub serial_of : Option Conn → ℕ
serial_of None = 0
serial_of (Some c) = c.serial

-- the serial of the last handle that a connection was given, 0 before the first
abbrev pub last_serial : ℕ → List Conn → ℕ
last_serial conn conns = serial_of (find_conn conn conns)

-- a handle's number: its connection's number, and its serial in the 64 bits below
abbrev pub number_of : ℕ → ℕ → ℕ
number_of conn serial = conn * 2 ^ 64 + serial

-- the connection's handle of a number
abbrev pub is_handle : ℕ → ℕ → Held → Bool
is_handle conn number held = (held.conn == conn) && (number_of held.conn held.serial == number)

abbrev pub find_handle : ℕ → ℕ → List Held → Option Held
find_handle conn number handles = find (is_handle conn number) handles

-- the handles but this one, but those of a connection, and but those to an object
abbrev pub without_handle : ℕ → ℕ → List Held → List Held
without_handle conn number handles = filter (λ h. not (is_handle conn number h)) handles

abbrev pub without_conn : ℕ → List Held → List Held
without_conn conn handles = filter (λ h. not (h.conn == conn)) handles

abbrev pub without_object : Object → List Held → List Held
without_object object handles = filter (λ h. not (same_object h.object object)) handles
