-- How a connection stands with its peer.
use Rattle.std.specs.Prelude.{ℕ, Bool, false, [], Option, Some, None}
use Rattle.rpc_session.specs.declared.sessions.Session.TheVariants.{Unbound}
use Rattle.rpc_session.specs.declared.hearing.Hearing.{Hearing}
use Rattle.rpc_session.specs.declared.hearing.Hearing.TheVariants.{Going}
use Rattle.rpc_session.specs.Sessions.{is_going}
use Rattle.link_sessions.specs.declared.connections.Peer.{Peer}
use Rattle.link_sessions.specs.declared.connections.Peer.TheVariants.{Open, Ended}

-- a connection of which no byte has come
abbrev pub nothing_heard : ℕ → Hearing
nothing_heard conn = Going conn 0 Unbound []

-- it was opened, and neither ended nor closed by the server
abbrev pub is_served : Option Peer → Bool
is_served None = false
is_served (Some (Open hearing)) = is_going hearing
is_served (Some Ended) = false
