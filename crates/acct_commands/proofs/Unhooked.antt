-- A replay takes no row out of the outbox: its lines open connections, make calls and end connections.
use Rattle.std.proofs.Common.{◌≡◌, ℕ, ◌+◌, Bool, true, false, cond, List, [], ◌∷◌, ◌++◌, map, Option, Some, None}
use Rattle.std.proofs.Common.{Result, Ok, Err, refl, arith}
use Rattle.std.specs.Prelude.{⊤}
use Rattle.acct_calls.specs.declared.calls.Call.{Call}
use Rattle.acct_machine.specs.declared.entry.Entry.{Entry}
use Rattle.acct_machine.specs.declared.entry.Entry.TheVariants.{Opened, Called, Gone, Hooked}
use Rattle.acct_machine.specs.Legal.{conns_full, call_full, hooked_count}
use Rattle.acct_machine.specs.State.{Start}
use Rattle.acct_stubs.specs.declared.errors.WireError.{WireError}
use Rattle.rpc_session.specs.Sessions.{on}
use Rattle.rpc_session.specs.declared.sessions.Act.{Act}
use Rattle.rpc_session.specs.declared.sessions.Act.TheVariants as act
use Rattle.rpc_session.specs.declared.sessions.Request.{Request}
use Rattle.link_sessions.specs.Transcript.{call_on}
use Rattle.link_sessions.specs.declared.connections.Peer.{Peer}
use Rattle.link_sessions.specs.declared.connections.Peer.TheVariants.{Open, Ended}
use Rattle.acct_server.specs.Events.{event_of, lines_of}
use Rattle.acct_server.specs.declared.events.Event.{Event}
use Rattle.acct_server.specs.declared.events.Event.TheVariants as event
use Rattle.acct_server.specs.Replayed.{Standing, Move, Verdicts, Doing, Trace, opened, on_listener, listener_from}
use Rattle.acct_server.specs.Replayed.{both_by, on_decoded, on_request, on_act, on_acts, on_data}
use Rattle.acct_server.specs.Replayed.{number_of, on_end, on_event, on_line, served_from, ending, follow, unless_full}
use Rattle.acct_server.specs.Replayed.{trace_from, at_start, verdict_in, replayed, entries_of, moved, peer_of}

none-append : (es fs : List Entry) → hooked_count es ≡ 0 → hooked_count fs ≡ 0 → hooked_count (es ++ fs) ≡ 0
none-append [] fs none more = more
none-append (Opened conn listener ∷ es) fs none more = none-append es fs none more
none-append (Called conn call verdict bytes ∷ es) fs none more = none-append es fs none more
none-append (Gone conn ∷ es) fs none more = none-append es fs none more
none-append (Hooked number ∷ es) fs none more = absurd (omega (arith, none))

gone-none : (conns : List ℕ) → hooked_count (map (λ (conn : ℕ). Gone conn) conns) ≡ 0
gone-none [] = refl
gone-none (conn ∷ conns) = gone-none conns

-- ---- acts

decoded-none : (start : Start) (verdicts : Verdicts) (history : List Entry) (conn : ℕ) (asked : Request) (size : ℕ)
    (call : Call) (full : Option ℕ)
    → hooked_count (on_decoded start verdicts history conn asked size call full).entries ≡ 0
decoded-none start verdicts history conn asked size call None = refl
decoded-none start verdicts history conn asked size call (Some count) = refl

request-none : (start : Start) (verdicts : Verdicts) (history : List Entry) (conn : ℕ) (asked : Request) (size : ℕ)
    (call : Result Call WireError)
    → hooked_count (on_request start verdicts history conn asked size call).entries ≡ 0
request-none start verdicts history conn asked size (Err e) = refl
request-none start verdicts history conn asked size (Ok call) =
    decoded-none start verdicts history conn asked size call (call_full start history size)

act-none : (start : Start) (verdicts : Verdicts) (history : List Entry) (conn : ℕ) (a : Act)
    → hooked_count (on_act start verdicts history conn a).entries ≡ 0
act-none start verdicts history conn (act.Answered bytes) = refl
act-none start verdicts history conn (act.Call asked) =
    request-none start verdicts history conn asked _ (call_on asked.face asked.opnum asked.stub)
act-none start verdicts history conn (act.Closed place cause bytes) = refl

both-none : (full : Option ℕ) (first second : Doing) → hooked_count first.entries ≡ 0
    → hooked_count second.entries ≡ 0 → hooked_count (both_by full first second).entries ≡ 0
both-none None first second none more = none-append first.entries second.entries none more
both-none (Some count) first second none more = none

acts-none : (start : Start) (verdicts : Verdicts) (history : List Entry) (conn : ℕ) (acts : List Act)
    → hooked_count (on_acts start verdicts history conn acts).entries ≡ 0
acts-none start verdicts history conn [] = refl
acts-none start verdicts history conn (a ∷ acts) =
    let first : Doing = on_act start verdicts history conn a in
    both-none first.full first (on_acts start verdicts (history ++ first.entries) conn acts)
    (act-none start verdicts history conn a) (acts-none start verdicts (history ++ first.entries) conn acts)

-- ---- lines

abbrev TakesNone : Option Move → Type 0
TakesNone None = ⊤
TakesNone (Some move) = hooked_count move.effect.entries ≡ 0

opened-none : (s : Standing) (conn listener : ℕ) (full : Option ℕ)
    → hooked_count (opened s conn listener full).effect.entries ≡ 0
opened-none s conn listener None = refl
opened-none s conn listener (Some count) = refl

next-none : (next : Bool) (s : Standing) (conn listener : ℕ) (full : Option ℕ)
    → TakesNone (cond next (Some (opened s conn listener full)) None)
next-none true s conn listener full = opened-none s conn listener full
next-none false s conn listener full = tt

listener-none : (s : Standing) (conn : ℕ) (listener : Option ℕ) → TakesNone (on_listener s conn listener)
listener-none s conn None = tt
listener-none s conn (Some listener) = next-none _ s conn listener (conns_full s.start s.history)

data-none : (verdicts : Verdicts) (s : Standing) (conn : ℕ) (bytes : List ℕ) (peer : Option Peer)
    → TakesNone (on_data verdicts s conn bytes peer)
data-none verdicts s conn bytes None = tt
data-none verdicts s conn bytes (Some Ended) = tt
data-none verdicts s conn bytes (Some (Open hearing)) =
    acts-none s.start verdicts s.history conn (on hearing bytes).acts

end-none : (s : Standing) (conn : ℕ) (peer : Option Peer) → TakesNone (on_end s conn peer)
end-none s conn None = tt
end-none s conn (Some Ended) = tt
end-none s conn (Some (Open hearing)) = gone-none (number_of conn (Some (Open hearing)))

event-none : (verdicts : Verdicts) (s : Standing) (e : Option Event) → TakesNone (on_event verdicts s e)
event-none verdicts s None = tt
event-none verdicts s (Some event.Nothing) = refl
event-none verdicts s (Some (event.Open conn name)) =
    listener-none s conn (listener_from 0 name s.start.config.listeners)
event-none verdicts s (Some (event.Data conn bytes)) = data-none verdicts s conn bytes (peer_of conn s.peers)
event-none verdicts s (Some (event.End conn)) = end-none s conn (peer_of conn s.peers)

line-none : (verdicts : Verdicts) (s : Standing) (line : List ℕ) → TakesNone (on_line verdicts s line)
unfolding on_line
line-none verdicts s line = event-none verdicts s (event_of line)

-- ---- all lines

abbrev LeavesNone : Trace → Type 0
LeavesNone t = hooked_count (entries_of t.effects) ≡ 0

ending-none : (s : Standing) → hooked_count (entries_of (ending s ∷ [])) ≡ 0
ending-none s = none-append (ending s).entries [] (gone-none (served_from 1 s.peers)) refl

full-none : (full : Option ℕ) (s : Standing) (later : Standing → Trace) → ((x : Standing) → LeavesNone (later x))
    → LeavesNone (unless_full full s later)
full-none None s later each = each s
full-none (Some count) s later each = ending-none s

follow-none : (s : Standing) (n : ℕ) (move : Option Move) (later : Standing → Trace) → TakesNone move
    → ((x : Standing) → LeavesNone (later x)) → LeavesNone (follow s n move later)
follow-none s n None later none each = ending-none s
follow-none s n (Some move) later none each =
    none-append move.effect.entries (entries_of (unless_full move.effect.full (moved s move) later).effects) none
    (full-none move.effect.full (moved s move) later each)

trace-none : (verdicts : Verdicts) (s : Standing) (n : ℕ) (lines : List (List ℕ))
    → LeavesNone (trace_from verdicts s n lines)
unfolding trace_from
trace-none verdicts s n [] = ending-none s
trace-none verdicts s n (line ∷ lines) =
    follow-none s n (on_line verdicts s line) (λ after. trace_from verdicts after (n + 1) lines)
    (line-none verdicts s line) (λ after. trace-none verdicts after (n + 1) lines)

pub replayed-none : (start : Start) (events : List ℕ) (history : List Entry)
    → hooked_count (entries_of (replayed start events history).effects) ≡ 0
replayed-none start events history =
    trace-none (verdict_in history) (at_start start) 1 (lines_of events)
