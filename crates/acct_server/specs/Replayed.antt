-- What a replay of event lines leaves: the entries of the history, the lines that it prints, and the status.
use Rattle.std.specs.Prelude.{ℕ, zero, suc, ◌+◌, ◌==◌, List, [], ◌∷◌, ◌++◌, length, codes, map}
use Rattle.std.specs.Prelude.{Option, Some, None, Result, Ok, Err, slice_get, slice_set, if◌then◌else◌}
use Rattle.std.specs.Fmt.{decimal}
use Rattle.std.specs.List.{flat_map}
use Rattle.std.specs.Str.{bytes_eq}
use Rattle.hex.specs.Hex.{encode_lower}
use Rattle.acct_calls.specs.declared.calls.Call.{Call}
use Rattle.acct_config.specs.declared.config.Listener.{Listener}
use Rattle.acct_machine.specs.State.{Start}
use Rattle.acct_machine.specs.declared.entry.Verdict.{Verdict}
use Rattle.acct_machine.specs.declared.entry.Verdict.TheVariants.{Ran}
use Rattle.acct_machine.specs.declared.entry.Entry.{Entry}
use Rattle.acct_machine.specs.declared.entry.Entry.TheVariants.{Opened, Called, Gone, Hooked}
use Rattle.acct_machine.specs.Step.{state_at, acted}
use Rattle.acct_machine.specs.Legal.{conns_full, call_full}
use Rattle.rpc_session.specs.declared.sessions.Act.{Act}
use Rattle.rpc_session.specs.declared.sessions.Act.TheVariants as act
use Rattle.rpc_session.specs.declared.sessions.Request.{Request}
use Rattle.rpc_session.specs.declared.hearing.Hearing.{Hearing}
use Rattle.rpc_session.specs.Sessions.{Heard, on}
use Rattle.acct_stubs.specs.declared.errors.WireError.{WireError}
use Rattle.acct_server.specs.declared.events.Event.{Event}
use Rattle.acct_server.specs.declared.events.Event.TheVariants as event
use Rattle.link_sessions.specs.declared.connections.Peer.{Peer}
use Rattle.link_sessions.specs.declared.connections.Peer.TheVariants.{Open, Ended}
use Rattle.acct_server.specs.declared.status.Status.{Status}
use Rattle.acct_server.specs.declared.status.Status.TheVariants.{Done, EventLine, HistoryFull}
use Rattle.acct_server.specs.Events.{event_of, lines_of}
use Rattle.link_sessions.specs.Connections.{nothing_heard, is_served}
use Rattle.link_sessions.specs.Transcript.{call_on, answer_bytes, undecoded_bytes, busy_bytes}

-- ---- lines that are printed

-- bytes that are sent on a connection; a connection that the server closes, with the place in its stream and the cause
-- of the PDU that it refused; a connection that is gone; and a connection that found the history full
pub data Printed : Type 0 where
  Out : ℕ → List ℕ → Printed
  IsClosed : ℕ → ℕ → ℕ → Printed
  IsGone : ℕ → Printed
  FoundFull : ℕ → Printed

unfoldable pub out_line : ℕ → List ℕ → List ℕ
out_line conn bytes = codes "out " ++ decimal conn ++ 32 ∷ encode_lower bytes ++ 10 ∷ []

unfoldable pub closed_line : ℕ → ℕ → ℕ → List ℕ
closed_line conn place cause = codes "closed " ++ decimal conn ++ 32 ∷ decimal place ++ 32 ∷ decimal cause ++ 10 ∷ []

unfoldable pub gone_line : ℕ → List ℕ
gone_line conn = codes "gone " ++ decimal conn ++ 10 ∷ []

unfoldable pub full_line : ℕ → List ℕ
full_line conn = codes "full " ++ decimal conn ++ 10 ∷ []

abbrev pub line_bytes : Printed → List ℕ
line_bytes (Out conn bytes) = out_line conn bytes
line_bytes (IsClosed conn place cause) = closed_line conn place cause
line_bytes (IsGone conn) = gone_line conn
line_bytes (FoundFull conn) = full_line conn

-- ---- what a line of the events does

-- the entries that it makes, the bytes that come with it on a connection, the lines that it prints, and where it found
-- the history full, the count of what the history has
pub record Effect : Type 0 where
  pub entries : List Entry
  pub brings : List (ℕ × List ℕ)
  pub prints : List Printed
  pub full : Option ℕ

-- the configuration, the history so far, and the connections, of which the first has number 1
pub record Standing : Type 0 where
  pub start : Start
  pub history : List Entry
  pub peers : List Peer

-- an effect, and the connections after it
pub record Move : Type 0 where
  pub effect : Effect
  pub peers : List Peer

abbrev pub moved : Standing → Move → Standing
moved s m = record s { history = s.history ++ m.effect.entries; peers = m.peers }

-- the verdict of the call that has a place in the history
abbrev pub Verdicts : Type 0
Verdicts = ℕ → Verdict

abbrev pub peer_of : ℕ → List Peer → Option Peer
peer_of zero peers = None
peer_of (suc place) peers = slice_get peers place

abbrev pub with_peer : ℕ → Peer → List Peer → List Peer
with_peer zero peer peers = peers
with_peer (suc place) peer peers = slice_set peers place peer

abbrev pub quiet : List Peer → Move
quiet peers = record { effect = record { entries = []; brings = []; prints = []; full = None }; peers = peers }

-- the place of the listener of a name
abbrev pub listener_from : ℕ → List ℕ → List Listener → Option ℕ
listener_from n name [] = None
listener_from n name (l ∷ listeners) = if bytes_eq l.name name then Some n else listener_from (n + 1) name listeners

-- An opening is entered; in a full history nothing is.
abbrev pub opened : Standing → ℕ → ℕ → Option ℕ → Move
opened s conn listener None = record {
  effect = record { entries = Opened conn listener ∷ []; brings = []; prints = []; full = None };
  peers = s.peers ++ Open (nothing_heard conn) ∷ [];
}
opened s conn listener (Some count) = record {
  effect = record { entries = []; brings = []; prints = FoundFull conn ∷ []; full = Some count };
  peers = s.peers;
}

-- Connections are opened in the order of their numbers.
abbrev pub on_listener : Standing → ℕ → Option ℕ → Option Move
on_listener s conn None = None
on_listener s conn (Some listener) =
    if conn == length s.peers + 1
    then Some (opened s conn listener (conns_full s.start s.history))
    else None

abbrev pub on_open : Standing → ℕ → List ℕ → Option Move
on_open s conn name = on_listener s conn (listener_from 0 name s.start.config.listeners)

-- ---- what the bytes on a connection do

-- the entries that an act makes, the lines that it prints, and where it found the history full, the count of what the
-- history has
pub record Doing : Type 0 where
  pub entries : List Entry
  pub prints : List Printed
  pub full : Option ℕ

abbrev pub prints_only : List Printed → Doing
prints_only lines = record { entries = []; prints = lines; full = None }

-- what one does, and then another; where the one found the history full, the other isn't done
abbrev pub both_by : Option ℕ → Doing → Doing → Doing
both_by None first second =
    record { entries = first.entries ++ second.entries; prints = first.prints ++ second.prints; full = second.full }
both_by (Some count) first second = first

abbrev pub both : Doing → Doing → Doing
both first second = both_by first.full first second

-- a call, with its verdict
abbrev pub on_call : Start → List Entry → ℕ → Request → ℕ → Call → Verdict → Doing
on_call start history conn asked stub_size call verdict =
    let reply = (acted (state_at start history) conn call verdict).1 in record {
      entries = Called conn call verdict stub_size ∷ [];
      prints = Out conn (answer_bytes asked call.face call.opnum reply) ∷ [];
      full = None;
    }

-- A call that finds the history full is answered that the server is too busy, and its connection is gone.
abbrev pub on_full : ℕ → Request → ℕ → Doing
on_full conn asked count = record {
  entries = Gone conn ∷ [];
  prints = Out conn (busy_bytes asked) ∷ FoundFull conn ∷ [];
  full = Some count;
}

-- a decoded call, by what the history has where it is full
abbrev pub on_decoded : Start → Verdicts → List Entry → ℕ → Request → ℕ → Call → Option ℕ → Doing
on_decoded start verdicts history conn asked stub_size call None =
    on_call start history conn asked stub_size call (verdicts (length history))
on_decoded start verdicts history conn asked stub_size call (Some count) = on_full conn asked count

-- a request that is no decoded call is answered outside the history
abbrev pub on_request : Start → Verdicts → List Entry → ℕ → Request → ℕ → Result Call WireError → Doing
on_request start verdicts history conn asked stub_size (Err e) = prints_only (Out conn (undecoded_bytes asked e) ∷ [])
on_request start verdicts history conn asked stub_size (Ok call) =
    on_decoded start verdicts history conn asked stub_size call (call_full start history stub_size)

-- after a refusal the connection is gone
abbrev pub on_act : Start → Verdicts → List Entry → ℕ → Act → Doing
on_act start verdicts history conn (act.Answered bytes) = prints_only (Out conn bytes ∷ [])
on_act start verdicts history conn (act.Call asked) =
    on_request start verdicts history conn asked (length asked.stub) (call_on asked.face asked.opnum asked.stub)
on_act start verdicts history conn (act.Closed place cause bytes) =
    record { entries = Gone conn ∷ []; prints = Out conn bytes ∷ IsClosed conn place cause ∷ []; full = None }

-- one act after the other, each with the history that those before it left
abbrev pub on_acts : Start → Verdicts → List Entry → ℕ → List Act → Doing
on_acts start verdicts history conn [] = prints_only []
on_acts start verdicts history conn (a ∷ acts) =
    let first = on_act start verdicts history conn a in
    both first (on_acts start verdicts (history ++ first.entries) conn acts)

-- how a connection stands after its acts: it is ended where they found the history full
abbrev pub peer_behind : Option ℕ → Hearing → Peer
peer_behind None leaves = Open leaves
peer_behind (Some count) leaves = Ended

-- the acts that the bytes complete; a connection that the server closed hears nothing more
abbrev pub on_heard : Verdicts → Standing → ℕ → List ℕ → Heard → Move
on_heard verdicts s conn bytes heard =
    let doing = on_acts s.start verdicts s.history conn heard.acts in record {
      effect =
          record { entries = doing.entries; brings = (conn, bytes) ∷ []; prints = doing.prints; full = doing.full };
      peers = with_peer conn (peer_behind doing.full heard.leaves) s.peers;
    }

abbrev pub on_data : Verdicts → Standing → ℕ → List ℕ → Option Peer → Option Move
on_data verdicts s conn bytes None = None
on_data verdicts s conn bytes (Some Ended) = None
on_data verdicts s conn bytes (Some (Open hearing)) = Some (on_heard verdicts s conn bytes (on hearing bytes))

-- ---- the end of a connection

-- the number of a connection, where it is served
abbrev pub number_of : ℕ → Option Peer → List ℕ
number_of conn peer = if is_served peer then conn ∷ [] else []

abbrev pub gone : List ℕ → Effect
gone conns = record {
  entries = map (λ conn. Gone conn) conns;
  brings = [];
  prints = map (λ conn. IsGone conn) conns;
  full = None;
}

abbrev pub on_end : Standing → ℕ → Option Peer → Option Move
on_end s conn None = None
on_end s conn (Some Ended) = None
on_end s conn (Some (Open hearing)) =
    Some (record { effect = gone (number_of conn (Some (Open hearing))); peers = with_peer conn Ended s.peers })

-- ---- each line

-- what an event does, if its condition holds
abbrev pub on_event : Verdicts → Standing → Option Event → Option Move
on_event verdicts s None = None
on_event verdicts s (Some event.Nothing) = Some (quiet s.peers)
on_event verdicts s (Some (event.Open conn name)) = on_open s conn name
on_event verdicts s (Some (event.Data conn bytes)) = on_data verdicts s conn bytes (peer_of conn s.peers)
on_event verdicts s (Some (event.End conn)) = on_end s conn (peer_of conn s.peers)

unfoldable pub on_line : Verdicts → Standing → List ℕ → Option Move
on_line verdicts s line = on_event verdicts s (event_of line)

-- ---- the end

-- the numbers of the connections that are served, of which the first has this number
abbrev pub served_from : ℕ → List Peer → List ℕ
served_from n [] = []
served_from n (peer ∷ peers) = number_of n (Some peer) ++ served_from (n + 1) peers

-- those that are still served are ended in ascending order
abbrev pub ending : Standing → Effect
ending s = gone (served_from 1 s.peers)

-- ---- the whole

-- the effects of the lines and last that of the end, and the status
pub record Trace : Type 0 where
  pub effects : List Effect
  pub status : Status

abbrev pub behind : List Effect → Trace → Trace
behind effects t = record { effects = effects ++ t.effects; status = t.status }

abbrev pub ends : Standing → Status → Trace
ends s status = record { effects = ending s ∷ []; status = status }

-- after a line that found the history full nothing is run
abbrev pub unless_full : Option ℕ → Standing → (Standing → Trace) → Trace
unless_full None s later = later s
unless_full (Some count) s later = ends s (HistoryFull count)

-- a line that has no effect ends the replay with its number
abbrev pub follow : Standing → ℕ → Option Move → (Standing → Trace) → Trace
follow s n None later = ends s (EventLine n)
follow s n (Some move) later = behind (move.effect ∷ []) (unless_full move.effect.full (moved s move) later)

-- what the lines do from there on, of which the first has this number
unfoldable pub trace_from : Verdicts → Standing → ℕ → List (List ℕ) → Trace
trace_from verdicts s n [] = ends s Done
trace_from verdicts s n (line ∷ lines) =
    follow s n (on_line verdicts s line) (λ after. trace_from verdicts after (n + 1) lines)

abbrev pub at_start : Start → Standing
at_start start = record { start = start; history = []; peers = [] }

-- the verdict of a call, and Ran where there is none
abbrev pub verdict_of : Option Entry → Verdict
verdict_of None = Ran
verdict_of (Some (Opened conn listener)) = Ran
verdict_of (Some (Called conn call verdict bytes)) = verdict
verdict_of (Some (Gone conn)) = Ran
verdict_of (Some (Hooked number)) = Ran

abbrev pub verdict_in : List Entry → Verdicts
verdict_in history place = verdict_of (slice_get history place)

-- what a replay of events does, where the calls have the verdicts of a history
abbrev pub replayed : Start → List ℕ → List Entry → Trace
replayed start events history = trace_from (verdict_in history) (at_start start) 1 (lines_of events)

abbrev pub entries_of : List Effect → List Entry
entries_of effects = flat_map (λ e. e.entries) effects

abbrev pub output_of : List Effect → List ℕ
output_of effects = flat_map (λ e. flat_map line_bytes e.prints) effects
