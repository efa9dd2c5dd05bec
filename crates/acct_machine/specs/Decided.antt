-- What decides the openings of a connection: the descriptor of the object, and the token of the listener where it
-- connected.
use Rattle.std.specs.Prelude.{◌≡◌, ℕ, List, Some, slice_get}
use Rattle.dtyp_access.specs.declared.descriptor.Descriptor.{Descriptor}
use Rattle.dtyp_access.specs.Granted.{opened}
use Rattle.acct_config.specs.declared.config.Config.{Config}
use Rattle.acct_config.specs.declared.config.Listener.{Listener}
use Rattle.acct_config.specs.Spelled.{IsRightConfig}
use Rattle.acct_tables.specs.declared.object.Object.{Object}
use Rattle.acct_tables.specs.Keys.{kind_of}
use Rattle.acct_machine.specs.declared.entry.Entry.{Entry}
use Rattle.acct_machine.specs.declared.state.Conn.{Conn}
use Rattle.acct_machine.specs.State.{State, Start, find_conn}
use Rattle.acct_machine.specs.Access.{described, grant_of}
use Rattle.acct_machine.specs.Step.{state_at}
use Rattle.acct_machine.specs.Legal.{Legal}

-- there are both, and each opening grants what the check gives over them
pub record IsDecided (config : Config) (s : State) (conn : ℕ) (object : Object) (c : Conn) : Type 0 where
  pub descriptor : Descriptor
  pub listener : Listener
  pub has : described s object ≡ Some descriptor
  pub connected : slice_get config.listeners c.listener ≡ Some listener
  pub grants : (desired : ℕ)
      → grant_of s conn object desired ≡ opened (kind_of object) descriptor listener.token desired

-- so it is with every connection of a legal history, under each right configuration
abbrev pub OpeningsAreDecided : Type 0
OpeningsAreDecided =
    (start : Start) (history : List Entry) (conn : ℕ) (object : Object) (c : Conn) → IsRightConfig start.config
    → Legal start history
    → find_conn conn (state_at start history).conns ≡ Some c
    → IsDecided start.config (state_at start history) conn object c
