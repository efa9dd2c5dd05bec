-- A run of event lines so far, and what a line does to it.
use Rattle.std.specs.Prelude.{◌≡◌, ℕ, ◌^◌, ◌<◌, ◌≤◌, ◌+◌, Bool, true, false, List, ◌++◌, ◌⊎◌, Option, Some, None}
use Rattle.std.specs.Prelude.{length, [], ◌∷◌}
use Rattle.std.specs.List.{flat_map}
use Rattle.acct_machine.specs.declared.entry.Entry.{Entry}
use Rattle.acct_machine.specs.declared.entry.Entry.TheVariants.{Gone}
use Rattle.acct_machine.specs.Shown.{Past}
use Rattle.acct_machine.specs.State.{State, Start, is_live}
use Rattle.link_sessions.specs.declared.connections.Peer.{Peer}
use Rattle.link_sessions.specs.declared.connections.Peer.TheVariants.{Open, Ended}
use Rattle.rpc_session.specs.declared.hearing.Hearing.{Hearing}
use Rattle.rpc_session.specs.declared.sessions.Act.{Act}
use Rattle.rpc_session.specs.Sessions.{on, acts}
use Rattle.rpc_session.specs.Acts.{is_refusal, IsSoFar}
use Rattle.link_sessions.specs.Connections.{is_served}
use Rattle.acct_server.specs.Replayed.{Standing, Move, Doing, Verdicts, peer_of, with_peer, verdict_in}
use Rattle.acct_server.specs.Replayed.{line_bytes, ending, on_acts, IsClosed, FoundFull}
use Rattle.link_sessions.specs.declared.ends.Stop.{Stop}
use Rattle.link_sessions.specs.declared.ends.Stop.TheVariants as stop

-- the machine, and the connections
pub record Running : Type 0 where
  pub machine : Past
  pub peers : List Peer

abbrev pub standing : Running → Standing
standing run = record { start = run.machine.start; history = run.machine.history; peers = run.peers }

-- The machine has as many connections, and those that are served are live there.
pub record Ties (peers : List Peer) (s : State) : Type 0 where
  pub count : length s.conns ≡ length peers
  pub bounded : length peers < 2 ^ 32
  pub lives : (conn : ℕ) → is_served (peer_of conn peers) ≡ true → is_live conn s.conns ≡ true

-- what a connection that wasn't ended has heard is a stream of at most so many bytes
abbrev pub HeardPeer : ℕ → ℕ → Option Peer → Type 0
HeardPeer most conn None = Unit {0}
HeardPeer most conn (Some (Open hearing)) = (stream : List ℕ) × IsSoFar conn stream hearing (acts conn stream)
    × (length stream ≤ most)
HeardPeer most conn (Some Ended) = Unit {0}

-- and so it is with every connection
abbrev pub AllHeard : ℕ → List Peer → Type 0
AllHeard most peers = (conn : ℕ) → HeardPeer most conn (peer_of conn peers)

-- Acts were done, by whatever entries the history goes on: their entries stand, their lines were added, and where they
-- found it full, this is what it has.
pub record DoesActs (what : Verdicts → Doing) (before now : List Entry) (old_lines new_lines : List ℕ)
    (found : Option ℕ)
    : Type 0 where
  pub doing : Doing
  pub full : doing.full ≡ found
  pub is : (later : List Entry) → what (verdict_in (now ++ later)) ≡ doing
  pub history : now ≡ before ++ doing.entries
  pub prints : new_lines ≡ old_lines ++ flat_map line_bytes doing.prints

-- Acts were answered, whose last one may be a refusal: with the connection's end, and the line that says so, they were
-- done.
abbrev pub Answered : ℕ → Start → List Act → List Entry → List Entry → List ℕ → List ℕ → Option (ℕ × ℕ) → Type 0
Answered conn start acts before now old_lines new_lines None =
    DoesActs (λ verdicts. on_acts start verdicts before conn acts) before now old_lines new_lines None
Answered conn start acts before now old_lines new_lines (Some at) =
    DoesActs (λ verdicts. on_acts start verdicts before conn acts) before (now ++ Gone conn ∷ []) old_lines
    (new_lines ++ line_bytes (IsClosed conn at.0 at.1)) None

-- The same of acts that stopped, where one found the history full.
abbrev pub AnsweredToFull : ℕ → Start → List Act → List Entry → List Entry → List ℕ → List ℕ → Stop → Type 0
AnsweredToFull conn start acts before now old_lines new_lines (stop.Full count) =
    DoesActs (λ verdicts. on_acts start verdicts before conn acts) before (now ++ Gone conn ∷ []) old_lines
    (new_lines ++ line_bytes (FoundFull conn)) (Some count)
AnsweredToFull conn start acts before now old_lines new_lines _ = Unit {0}

-- the connections after acts: the one that found the history full was ended
abbrev pub peers_behind : Option ℕ → ℕ → List Peer → List Peer
peers_behind None conn peers = peers
peers_behind (Some count) conn peers = with_peer conn Ended peers

-- where memory ran out the first of their entries stand
pub record Began (what : Verdicts → Doing) (before now : List Entry) : Type 0 where
  pub front : List Entry
  pub history : now ≡ before ++ front
  pub others : List Entry → List Entry
  pub begins : (later : List Entry) → (what (verdict_in (now ++ later))).entries ≡ front ++ others later

-- A piece of a connection's stream was heard.
pub record Hears (conn : ℕ) (piece : List ℕ) (old : Running) (acts : List Act) (new : Running) : Type 0 where
  pub hearing : Hearing
  pub stood : peer_of conn old.peers ≡ Some (Open hearing)
  pub completed : acts ≡ (on hearing piece).acts
  pub left : new ≡ record old { peers = with_peer conn (Open (on hearing piece).leaves) old.peers }

-- an act at a place that is a refusal is the last one, and then the connection isn't served any more
abbrev pub IsClosing : Bool → ℕ → ℕ → Option Act → Type 0
IsClosing served i count None = Unit {0}
IsClosing served i count (Some act) = is_refusal act ≡ true → (i + 1 ≡ count) × (served ≡ false)

-- The run goes on by the move that a line makes, by whatever entries the history goes on; where it was found full, this
-- is what it has.
pub record DoesLine (what : Verdicts → Option Move) (old : Running) (output : List ℕ) (found : Option ℕ) (new : Running)
    : Type 0 where
  pub move : Move
  pub full : move.effect.full ≡ found
  pub is : (later : List Entry) → what (verdict_in (new.machine.history ++ later)) ≡ Some move
  pub history : new.machine.history ≡ old.machine.history ++ move.effect.entries
  pub peers : new.peers ≡ move.peers
  pub start : new.machine.start ≡ old.machine.start
  pub prints : output ≡ flat_map line_bytes move.effect.prints

-- the line has no effect, whatever the verdicts, and the run is as it was
pub record Refuses (what : Verdicts → Option Move) (old new : Running) : Type 0 where
  pub none : (verdicts : Verdicts) → what verdicts ≡ None
  pub same : new ≡ old

-- the first of the entries of a line stand
pub record EntersLine (what : Verdicts → Option Move) (old new : Running) : Type 0 where
  pub front : List Entry
  pub history : new.machine.history ≡ old.machine.history ++ front
  pub move : List Entry → Move
  pub is : (later : List Entry) → what (verdict_in (new.machine.history ++ later)) ≡ Some (move later)
  pub others : List Entry → List Entry
  pub begins : (later : List Entry) → (move later).effect.entries ≡ front ++ others later

-- where memory ran out the first of the entries of a line stand, or none does
abbrev pub MayStop : (Verdicts → Option Move) → Running → Running → Type 0
MayStop what old new = (new.machine.history ≡ old.machine.history) ⊎ EntersLine what old new

-- the connections that were open are ended
pub record Closes (old : Running) (output : List ℕ) (new : Running) : Type 0 where
  pub history : new.machine.history ≡ old.machine.history ++ (ending (standing old)).entries
  pub prints : output ≡ flat_map line_bytes (ending (standing old)).prints
