-- What is sent on each connection is the transcript of what came.
use Rattle.std.proofs.Common.{◌≡◌, ◌≢◌, ℕ, zero, suc, ◌+◌, ◌==◌, ◌||◌, ◌⊎◌, inl, inr, Bool, true, false, cond, List, []}
use Rattle.std.proofs.Common.{◌∷◌, ◌++◌, length, map, Option, Some, None, Result, Ok, Err, slice_get, refl, sym, ◌∙◌}
use Rattle.std.proofs.Common.{ap, subst, arith, append_assoc, length-append}
use Rattle.std.proofs.lemmas.Bool.{cases_eq}
use Rattle.std.proofs.lemmas.Bool.Decides.{nat_tests}
use Rattle.std.proofs.lemmas.List.{append-nil, nil_from_length}
use Rattle.std.proofs.lemmas.List.Concat.{flat_map-append}
use Rattle.std.specs.List.{flat_map, list_any}
use Rattle.acct_calls.specs.declared.calls.Call.{Call}
use Rattle.acct_calls.specs.declared.replies.Reply.{Reply}
use Rattle.acct_machine.specs.declared.entry.Entry.{Entry}
use Rattle.acct_machine.specs.declared.entry.Entry.TheVariants.{Opened, Called, Gone, Hooked}
use Rattle.acct_machine.specs.State.{Start, State, first as first_state}
use Rattle.acct_machine.specs.Step.{state_after, state_at, step, acted}
use Rattle.acct_machine.specs.Legal.{replies_from, replies, calls_of, conns_full, call_full}
use Rattle.rpc_session.specs.declared.sessions.Act.{Act}
use Rattle.rpc_session.specs.declared.sessions.Act.TheVariants as act
use Rattle.rpc_session.specs.declared.hearing.Hearing.{Hearing}
use Rattle.rpc_session.specs.declared.hearing.Hearing.TheVariants as hearing
use Rattle.rpc_session.specs.Sessions.{Heard, hear, hear_in, on, acts}
use Rattle.rpc_session.specs.Acts.{IsCutAnywhere}
use Rattle.acct_server.specs.declared.events.Event.{Event}
use Rattle.acct_server.specs.declared.events.Event.TheVariants as event
use Rattle.link_sessions.specs.declared.connections.Peer.{Peer}
use Rattle.link_sessions.specs.declared.connections.Peer.TheVariants.{Open, Ended}
use Rattle.acct_server.specs.declared.status.Status.{Status}
use Rattle.acct_server.specs.declared.status.Status.TheVariants.{Done, EventLine, HistoryFull}
use Rattle.acct_stubs.specs.declared.errors.WireError.{WireError}
use Rattle.rpc_session.specs.declared.sessions.Request.{Request}
use Rattle.link_sessions.specs.Transcript.{call_on, written, answered, answer_bytes, undecoded_bytes, busy_bytes}
use Rattle.link_sessions.specs.Transcript.{decoded_calls, with_call, IsTranscribed, last_bytes}
use Rattle.acct_server.specs.Events.{event_of, lines_of}
use Rattle.acct_server.specs.Replayed.{Effect, Move, Doing, Standing, Trace, Verdicts, Printed, Out, IsClosed, IsGone}
use Rattle.acct_server.specs.Replayed.{on_line, on_event, on_listener, listener_from, on_data, on_heard, on_acts}
use Rattle.link_sessions.specs.Connections.{nothing_heard}
use Rattle.acct_server.specs.Replayed.{on_act, on_request, on_end, quiet, moved, both_by}
use Rattle.acct_server.specs.Replayed.{peer_behind, gone, peer_of, with_peer, number_of, served_from, follow}
use Rattle.acct_server.specs.Replayed.{unless_full, ends, ending, trace_from, at_start, verdict_in, replayed}
use Rattle.acct_server.specs.Replayed.{entries_of, FoundFull, opened, on_call, on_full, on_decoded, both}
use Rattle.acct_machine.specs.declared.entry.Verdict.{Verdict}
use Rattle.acct_server.proofs.Placing.{peer-here, peer-there}
use Rattle.acct_server.proofs.Room.{both-open, both-full}
use Rattle.acct_server.specs.Replaying.{sent_by_line, brought, sent_in, received, sent, on_connection, is_full_line}
use Rattle.acct_server.specs.Replaying.{full_in, found_full, CutsChangeNothing}

-- ---- what a connection has heard

abbrev hearing_in : ℕ → Option Peer → Hearing
hearing_in k None = nothing_heard k
hearing_in k (Some (Open h)) = h
hearing_in k (Some Ended) = hearing.Ended

-- what is left to hear of a connection: nothing has come where it wasn't opened, and nothing is heard after its end
abbrev hearing_of : ℕ → List Peer → Hearing
hearing_of k peers = hearing_in k (peer_of k peers)

-- nothing waits that would be heard without a further byte
abbrev Quiet : Hearing → Type 0
Quiet h = (on h []).acts ≡ []

none-added : (xs ys : List Act) → xs ≡ xs ++ ys → ys ≡ []
none-added xs ys is = let lengths =
    ap (λ (as' : List Act). length as') is in nil_from_length ys (omega (arith, lengths, length-append xs ys))

-- what is left after a piece is quiet
quiet-left : IsCutAnywhere → (h : Hearing) (bytes : List ℕ) → Quiet (on h bytes).leaves
quiet-left cut h bytes =
    let both_pieces : (on h bytes).acts ≡ (on h bytes).acts ++ (on (on h bytes).leaves []).acts =
    ap (λ (bs : List ℕ). (on h bs).acts) (sym (append-nil bytes)) ∙ ap (λ (x : Heard). x.acts) (cut h bytes []) in
    none-added (on h bytes).acts (on (on h bytes).leaves []).acts both_pieces

quiet-start : (k : ℕ) → Quiet (nothing_heard k)
unfolding hear hear_in
quiet-start k = refl

-- ---- connections

pushed : (k c i : ℕ) (peers : List Peer) → (i ≡ length peers → c ≡ k)
    → hearing_in k (slice_get (peers ++ Open (nothing_heard c) ∷ []) i) ≡ hearing_in k (slice_get peers i)
pushed k c zero [] same = ap nothing_heard (same refl)
pushed k c (suc i) [] same = refl
pushed k c zero (p ∷ peers) same = refl
pushed k c (suc i) (p ∷ peers) same = pushed k c i peers (λ e. same (ap suc e))

hearing-pushed : (k c : ℕ) (peers : List Peer) → c ≡ length peers + 1
    → hearing_of k (peers ++ Open (nothing_heard c) ∷ []) ≡ hearing_of k peers
hearing-pushed zero c peers is = refl
hearing-pushed (suc i) c peers is = pushed (suc i) c i peers (λ e. omega (arith, e, is))

still : (i : ℕ) (h : Hearing) (peers : List Peer) → slice_get peers i ≡ Some Ended
    → slice_get (peers ++ Open h ∷ []) i ≡ Some Ended
still i h [] is = absurd cc
still zero h (p ∷ peers) is = is
still (suc i) h (p ∷ peers) is = still i h peers is

ended-pushed : (k : ℕ) (h : Hearing) (peers : List Peer) → peer_of k peers ≡ Some Ended
    → peer_of k (peers ++ Open h ∷ []) ≡ Some Ended
ended-pushed zero h peers is = absurd cc
ended-pushed (suc i) h peers is = still i h peers is

none-at-start : (k : ℕ) → hearing_of k [] ≡ nothing_heard k
none-at-start zero = refl
none-at-start (suc i) = refl

-- ---- what the effects of the lines say of one connection

abbrev state_of : Standing → State
state_of s = state_at s.start s.history

state-append : (st : State) (xs ys : List Entry) → state_after st (xs ++ ys) ≡ state_after (state_after st xs) ys
state-append st [] ys = refl
state-append st (x ∷ xs) ys = state-append (step st x) xs ys

-- what a connection sends last
abbrev last_of : ℕ → List Effect → Request → List ℕ
last_of k effects = last_bytes (found_full k effects)

record LawAt (k : ℕ) (s : Standing) (effects : List Effect) : Type 0 where
  tells : sent k effects ≡ written (last_of k effects) (on (hearing_of k s.peers) (received k effects)).acts
      (replies_from (state_of s) k (entries_of effects))
  outside : List (Call × ℕ)
  counts : decoded_calls (on (hearing_of k s.peers) (received k effects)).acts
      ≡ calls_of k (entries_of effects) ++ outside
  all : found_full k effects ≡ false → outside ≡ []
  ended : peer_of k s.peers ≡ Some Ended → received k effects ≡ []

-- a move that brings and sends nothing on the connection
record Silent (k : ℕ) (s : Standing) (m : Move) : Type 0 where
  brings : brought k m.effect ≡ []
  prints : sent_in k m.effect ≡ []
  lines : full_in k m.effect ≡ false
  replied : (st : State) (more : List Entry) → replies_from st k (m.effect.entries ++ more)
      ≡ replies_from (state_after st m.effect.entries) k more
  called : (more : List Entry) → calls_of k (m.effect.entries ++ more) ≡ calls_of k more
  hears : (hearing_of k m.peers ≡ hearing_of k s.peers) ⊎ (peer_of k m.peers ≡ Some Ended)
  stays : peer_of k s.peers ≡ Some Ended → peer_of k m.peers ≡ Some Ended

-- a line that doesn't say that the connection found the history full
full-behind : (k : ℕ) (e : Effect) (effects : List Effect) → full_in k e ≡ false
    → found_full k (e ∷ effects) ≡ found_full k effects
full-behind k e effects lines = ap (λ (b : Bool). b || found_full k effects) lines

-- the same acts are heard before it and after it
hears-same : (k : ℕ) (s : Standing) (m : Move) (effects : List Effect) → Quiet (hearing_of k s.peers) → Silent k s m
    → LawAt k (moved s m) effects
    → (on (hearing_of k s.peers) (received k effects)).acts ≡ (on (hearing_of k m.peers) (received k effects)).acts
hears-same k s m effects waits silent law =
    elim silent.hears [
      | inl same ↦ ap (λ (h : Hearing). (on h (received k effects)).acts) (sym same)
      | inr ends ↦
          let none = law.ended ends in
          let over : (on (hearing_of k m.peers) (received k effects)).acts ≡ [] =
          ap (λ (p : Option Peer). (on (hearing_in k p) (received k effects)).acts) ends in
          ap (λ (bs : List ℕ). (on (hearing_of k s.peers) bs).acts) none ∙ waits ∙ sym over
    ]

silent-law : (k : ℕ) (s : Standing) (m : Move) (effects : List Effect) → Quiet (hearing_of k s.peers) → Silent k s m
    → LawAt k (moved s m) effects → LawAt k s (m.effect ∷ effects)
silent-law k s m effects waits silent law =
    let h = hearing_of k s.peers in
    let rest = entries_of effects in
    let same : received k (m.effect ∷ effects) ≡ received k effects =
    ap (λ (bs : List ℕ). bs ++ received k effects) silent.brings in
    let heard_same = hears-same k s m effects waits silent law in
    let same_full : found_full k (m.effect ∷ effects) ≡ found_full k effects =
    full-behind k m.effect effects silent.lines in
    record {
      tells =
          ap (λ (bs : List ℕ). bs ++ sent k effects) silent.prints
          ∙ law.tells
          ∙ ap (λ (as' : List Act). written (last_of k effects) as' (replies_from (state_of (moved s m)) k rest))
          (sym heard_same)
          ∙ ap (λ (rs : List Reply). written (last_of k effects) (on h (received k effects)).acts rs)
          (ap (λ (st : State). replies_from st k rest)
          (state-append (first_state s.start) s.history m.effect.entries) ∙ sym (silent.replied (state_of s) rest))
          ∙ ap (λ (bs : List ℕ). written (last_of k effects) (on h bs).acts
          (replies_from (state_of s) k (m.effect.entries ++ rest))) (sym same)
          ∙ ap (λ (b : Bool). written (last_bytes b) (on h (received k (m.effect ∷ effects))).acts
          (replies_from (state_of s) k (m.effect.entries ++ rest))) (sym same_full);
      outside = law.outside;
      counts =
          ap (λ (bs : List ℕ). decoded_calls (on h bs).acts) same
          ∙ ap (λ (as' : List Act). decoded_calls as') heard_same
          ∙ law.counts
          ∙ ap (λ (cs : List (Call × ℕ)). cs ++ law.outside) (sym (silent.called rest));
      all = λ none. law.all (sym same_full ∙ none);
      ended = λ is. same ∙ law.ended (silent.stays is);
    }

-- a move that brings bytes on the connection, and sends the answers to the acts that they complete
record Speaks (k : ℕ) (s : Standing) (m : Move) : Type 0 where
  hearing : Hearing
  bytes : List ℕ
  stands : peer_of k s.peers ≡ Some (Open hearing)
  stands_after : peer_of k m.peers ≡ Some (Open (on hearing bytes).leaves)
  brings : brought k m.effect ≡ bytes
  lines : full_in k m.effect ≡ false
  tells : (last : Request → List ℕ) (later : List Act) (more : List Entry)
      → written last ((on hearing bytes).acts ++ later) (replies_from (state_of s) k (m.effect.entries ++ more))
      ≡ sent_in k m.effect ++ written last later (replies_from (state_after (state_of s) m.effect.entries) k more)
  counts : (later : List Act)
      → decoded_calls ((on hearing bytes).acts ++ later) ≡ calls_of k m.effect.entries ++ decoded_calls later

-- one element more at the beginning, where it is of the connection
one-more-call : {A : Type 0} (mine : Bool) (x : A) (all xs ys : List A) → all ≡ xs ++ ys
    → cond mine (x ∷ all) all ≡ cond mine (x ∷ xs) xs ++ ys
one-more-call true x all xs ys is = ap (λ zs. x ∷ zs) is
one-more-call false x all xs ys is = is

calls-append : (k : ℕ) (xs ys : List Entry) → calls_of k (xs ++ ys) ≡ calls_of k xs ++ calls_of k ys
calls-append k [] ys = refl
calls-append k (Opened conn listener ∷ xs) ys = calls-append k xs ys
calls-append k (Gone conn ∷ xs) ys = calls-append k xs ys
calls-append k (Hooked number ∷ xs) ys = calls-append k xs ys
calls-append k (Called conn call verdict bytes ∷ xs) ys =
    one-more-call (conn == k) (call, bytes) (calls_of k (xs ++ ys)) (calls_of k xs) (calls_of k ys)
    (calls-append k xs ys)

speaks-law : IsCutAnywhere → (k : ℕ) (s : Standing) (m : Move) (effects : List Effect) → Speaks k s m
    → LawAt k (moved s m) effects → LawAt k s (m.effect ∷ effects)
speaks-law cut k s m effects speaks law =
    let stream = received k effects in
    let rest = entries_of effects in
    let came : received k (m.effect ∷ effects) ≡ speaks.bytes ++ stream =
    ap (λ (bs : List ℕ). bs ++ stream) speaks.brings in
    let first = on speaks.hearing speaks.bytes in
    let later = (on (hearing_of k m.peers) stream).acts in
    let all : (on (hearing_of k s.peers) (received k (m.effect ∷ effects))).acts ≡ first.acts ++ later =
    ap (λ (bs : List ℕ). (on (hearing_of k s.peers) bs).acts) came
    ∙ ap (λ (p : Option Peer). (on (hearing_in k p) (speaks.bytes ++ stream)).acts) speaks.stands
    ∙ ap (λ (x : Heard). x.acts) (cut speaks.hearing speaks.bytes stream)
    ∙ ap (λ (p : Option Peer). first.acts ++ (on (hearing_in k p) stream).acts) (sym speaks.stands_after) in
    let same_full : found_full k (m.effect ∷ effects) ≡ found_full k effects =
    full-behind k m.effect effects speaks.lines in
    record {
      tells =
          ap (λ (bs : List ℕ). sent_in k m.effect ++ bs) law.tells
          ∙ ap (λ (st : State). sent_in k m.effect ++ written (last_of k effects) later (replies_from st k rest))
          (state-append (first_state s.start) s.history m.effect.entries)
          ∙ sym (speaks.tells (last_of k effects) later rest)
          ∙ ap (λ (as' : List Act). written (last_of k effects) as'
          (replies_from (state_of s) k (m.effect.entries ++ rest))) (sym all)
          ∙ ap (λ (b : Bool). written (last_bytes b)
          (on (hearing_of k s.peers) (received k (m.effect ∷ effects))).acts
          (replies_from (state_of s) k (m.effect.entries ++ rest))) (sym same_full);
      outside = law.outside;
      counts =
          ap (λ (as' : List Act). decoded_calls as') all
          ∙ speaks.counts later
          ∙ ap (λ (cs : List (Call × ℕ)). calls_of k m.effect.entries ++ cs) law.counts
          ∙ sym (append_assoc (calls_of k m.effect.entries) (calls_of k rest) law.outside)
          ∙ ap (λ (cs : List (Call × ℕ)). cs ++ law.outside) (sym (calls-append k m.effect.entries rest));
      all = λ none. law.all (sym same_full ∙ none);
      ended = λ is. let clash : Some (Open speaks.hearing) ≡ Some Ended = sym speaks.stands ∙ is in absurd cc;
    }

-- A move that finds the history full on the connection: what it sends is that of the acts up to the call that isn't
-- taken, with the answer that the server is too busy. After it connections are ended.
record Fills (k : ℕ) (s : Standing) (m : Move) : Type 0 where
  acts : List Act
  hears : Quiet (hearing_of k s.peers) → (on (hearing_of k s.peers) (brought k m.effect)).acts ≡ acts
  tells : (conns : List ℕ) → sent_in k m.effect
      ≡ written busy_bytes acts (replies_from (state_of s) k (m.effect.entries ++ map (λ conn. Gone conn) conns))
  outside : List (Call × ℕ)
  counts : decoded_calls acts ≡ calls_of k m.effect.entries ++ outside
  lines : full_in k m.effect ≡ true
  count : ℕ
  full : m.effect.full ≡ Some count
  ended : peer_of k s.peers ≡ Some Ended → brought k m.effect ≡ []

nothing-sent : (k : ℕ) (conns : List ℕ) → flat_map (sent_by_line k) (map (λ conn. IsGone conn) conns) ≡ []
nothing-sent k [] = refl
nothing-sent k (conn ∷ conns) = nothing-sent k conns

nothing-replied : (k : ℕ) (conns : List ℕ) (st : State) (more : List Entry)
    → replies_from st k (map (λ conn. Gone conn) conns ++ more)
    ≡ replies_from (state_after st (map (λ conn. Gone conn) conns)) k more
nothing-replied k [] st more = refl
nothing-replied k (conn ∷ conns) st more = nothing-replied k conns (step st (Gone conn)) more

nothing-called : (k : ℕ) (conns : List ℕ) (more : List Entry) → calls_of k (map (λ conn. Gone conn) conns ++ more)
    ≡ calls_of k more
nothing-called k [] more = refl
nothing-called k (conn ∷ conns) more = nothing-called k conns more

nothing-full : (k : ℕ) (conns : List ℕ) → list_any (is_full_line k) (map (λ conn. IsGone conn) conns) ≡ false
nothing-full k [] = refl
nothing-full k (conn ∷ conns) = nothing-full k conns

fills-law : (k : ℕ) (s : Standing) (m : Move) (status : Status) → Quiet (hearing_of k s.peers) → (f : Fills k s m)
    → LawAt k s (m.effect ∷ (ends (moved s m) status).effects)
fills-law k s m status waits f =
    let end = ending (moved s m) in
    let last = served_from 1 m.peers in
    let came : received k (m.effect ∷ end ∷ []) ≡ brought k m.effect = append-nil (brought k m.effect) in
    let heard_acts : (on (hearing_of k s.peers) (received k (m.effect ∷ end ∷ []))).acts ≡ f.acts =
    ap (λ (bs : List ℕ). (on (hearing_of k s.peers) bs).acts) came ∙ f.hears waits in
    let entries : entries_of (m.effect ∷ end ∷ []) ≡ m.effect.entries ++ map (λ conn. Gone conn) last =
    ap (λ (es : List Entry). m.effect.entries ++ es) (append-nil (map (λ conn. Gone conn) last)) in
    let is_full : found_full k (m.effect ∷ end ∷ []) ≡ true =
    ap (λ (b : Bool). b || found_full k (end ∷ [])) f.lines in
    record {
      tells =
          ap (λ (bs : List ℕ). sent_in k m.effect ++ bs) (append-nil (sent_in k end) ∙ nothing-sent k last)
          ∙ append-nil (sent_in k m.effect)
          ∙ f.tells last
          ∙ ap (λ (es : List Entry). written busy_bytes f.acts (replies_from (state_of s) k es)) (sym entries)
          ∙ ap (λ (as' : List Act). written busy_bytes as'
          (replies_from (state_of s) k (entries_of (m.effect ∷ end ∷ [])))) (sym heard_acts)
          ∙ ap (λ (b : Bool). written (last_bytes b)
          (on (hearing_of k s.peers) (received k (m.effect ∷ end ∷ []))).acts
          (replies_from (state_of s) k (entries_of (m.effect ∷ end ∷ [])))) (sym is_full);
      outside = f.outside;
      counts =
          ap (λ (as' : List Act). decoded_calls as') heard_acts
          ∙ f.counts
          ∙ ap (λ (cs : List (Call × ℕ)). cs ++ f.outside)
          (sym (ap (λ (es : List Entry). calls_of k es) entries
          ∙ calls-append k m.effect.entries (map (λ conn. Gone conn) last)
          ∙ ap (λ (cs : List (Call × ℕ)). calls_of k m.effect.entries ++ cs)
          (ap (λ (es : List Entry). calls_of k es) (sym (append-nil (map (λ conn. Gone conn) last)))
          ∙ nothing-called k last [])
          ∙ append-nil (calls_of k m.effect.entries)));
      all = λ none. let clash : true ≡ false = sym is_full ∙ none in absurd cc;
      ended = λ is. came ∙ f.ended is;
    }

abbrev Tells : ℕ → Standing → Move → Type 0
Tells k s m = Silent k s m ⊎ (Speaks k s m ⊎ Fills k s m)

-- ---- what one act says on its connection

here : (k : ℕ) → (k == k) ≡ true
here k = grind (arith, nat_tests)

there : (c k : ℕ) → c ≢ k → (c == k) ≡ false
there c k other = grind (arith, nat_tests)

abbrev lines_on : ℕ → List Printed → List ℕ
lines_on k prints = flat_map (sent_by_line k) prints

abbrev fulls_on : ℕ → List Printed → Bool
fulls_on k prints = list_any (is_full_line k) prints

neither : (a b : Bool) → (a || b) ≡ false → (a ≡ false) × (b ≡ false)
neither true b is = cc
neither false b is = (refl, is)

any-behind : {A : Type 0} (p : A → Bool) (xs ys : List A) → list_any p xs ≡ false
    → list_any p (xs ++ ys) ≡ list_any p ys
any-behind p [] ys none = refl
any-behind p (x ∷ xs) ys none =
    let parts = neither (p x) (list_any p xs) none in
    ap (λ (b : Bool). b || list_any p (xs ++ ys)) parts.0 ∙ any-behind p xs ys parts.1

abbrev after : Start → List Entry → State
after start history = state_at start history

-- what is sent is the transcript of the acts, and the entries are their calls
record Says (start : Start) (k : ℕ) (history : List Entry) (acts : List Act) (d : Doing) : Type 0 where
  tells : (last : Request → List ℕ) (later : List Act) (more : List Entry)
      → written last (acts ++ later) (replies_from (after start history) k (d.entries ++ more))
      ≡ lines_on k d.prints ++ written last later (replies_from (state_after (after start history) d.entries) k more)
  counts : (later : List Act) → decoded_calls (acts ++ later) ≡ calls_of k d.entries ++ decoded_calls later
  lines : fulls_on k d.prints ≡ false
  room : d.full ≡ None

-- one of the acts found the history full
record Busies (start : Start) (k : ℕ) (history : List Entry) (acts : List Act) (d : Doing) : Type 0 where
  tells : (later : List Act) (conns : List ℕ) → lines_on k d.prints
      ≡ written busy_bytes (acts ++ later)
      (replies_from (after start history) k (d.entries ++ map (λ conn. Gone conn) conns))
  outside : List Act → List (Call × ℕ)
  counts : (later : List Act) → decoded_calls (acts ++ later) ≡ calls_of k d.entries ++ outside later
  lines : fulls_on k d.prints ≡ true
  count : ℕ
  full : d.full ≡ Some count

abbrev Says_or_busies : Start → ℕ → List Entry → List Act → Doing → Type 0
Says_or_busies start k history acts d = Says start k history acts d ⊎ Busies start k history acts d

sent-here : (k : ℕ) (bytes : List ℕ) → lines_on k (Out k bytes ∷ []) ≡ bytes
sent-here k bytes = rw (here k) (append-nil bytes)

call-says : (start : Start) (k : ℕ) (asked : Request) (history : List Entry) (call : Call) (verdict : Verdict) → call_on asked.face asked.opnum asked.stub ≡ Ok call
    → Says start k history (act.Call asked ∷ [])
    (on_call start history k asked (length asked.stub) call verdict)
call-says start k asked history call verdict is =
    let entry = Called k call verdict (length asked.stub) in
    let reply = (acted (after start history) k call verdict).1 in
    record {
      tells = λ last later more.
          let others = replies_from (state_after (after start history) (entry ∷ [])) k more in
          let mine : replies_from (after start history) k ((entry ∷ []) ++ more) ≡ reply ∷ others = rw (here k) refl in
          ap (λ (rs : List Reply). written last (act.Call asked ∷ later) rs) mine
          ∙ ap (λ (r : Result Call WireError). answered last asked r (reply ∷ others)
          (λ rs. written last later rs)) is
          ∙ ap (λ (bs : List ℕ). bs ++ written last later others)
          (sym (sent-here k (answer_bytes asked call.face call.opnum reply)));
      counts = λ later.
          let mine : calls_of k (entry ∷ []) ≡ (call, length asked.stub) ∷ [] = rw (here k) refl in
          ap (λ (r : Result Call WireError). with_call r (length asked.stub) (decoded_calls later)) is
          ∙ ap (λ (cs : List (Call × ℕ)). cs ++ decoded_calls later) (sym mine);
      lines = refl;
      room = refl;
    }

call-busies : (start : Start) (k : ℕ) (asked : Request) (history : List Entry) (call : Call) (count : ℕ) → call_on asked.face asked.opnum asked.stub ≡ Ok call
    → Busies start k history (act.Call asked ∷ [])
    (on_full k asked count)
call-busies start k asked history call count is =
    record {
      tells = λ later conns.
          let rs = replies_from (after start history) k ((Gone k ∷ []) ++ map (λ conn. Gone conn) conns) in
          let none : rs ≡ [] =
          ap (λ (es : List Entry). replies_from (step (after start history) (Gone k)) k es)
          (sym (append-nil (map (λ conn. Gone conn) conns)))
          ∙ nothing-replied k conns (step (after start history) (Gone k)) [] in
          let mine : lines_on k (Out k (busy_bytes asked) ∷ FoundFull k ∷ []) ≡ busy_bytes asked =
          rw (here k) (append-nil (busy_bytes asked)) in
          mine
          ∙ sym (ap (λ (r : Result Call WireError). answered busy_bytes asked r [] (λ rs. written busy_bytes later rs))
          is)
          ∙ ap (λ (xs : List Reply). answered busy_bytes asked (call_on asked.face asked.opnum asked.stub) xs
          (λ rs. written busy_bytes later rs)) (sym none);
      outside = λ later. (call, length asked.stub) ∷ decoded_calls later;
      counts = λ later. ap (λ (r : Result Call WireError). with_call r (length asked.stub) (decoded_calls later)) is;
      lines = rw (here k) refl;
      count = count;
      full = refl;
    }

decoded-does : (start : Start) (k : ℕ) (asked : Request) (verdicts : Verdicts) (history : List Entry) (call : Call) (full : Option ℕ) → call_on asked.face asked.opnum asked.stub ≡ Ok call
    → Says_or_busies start k history (act.Call asked ∷ [])
    (on_decoded start verdicts history k asked (length asked.stub) call full)
decoded-does start k asked verdicts history call None is =
    inl (call-says start k asked history call (verdicts (length history)) is)
decoded-does start k asked verdicts history call (Some count) is =
    inr (call-busies start k asked history call count is)

request-does : (start : Start) (k : ℕ) (asked : Request) (verdicts : Verdicts) (history : List Entry) (r : Result Call WireError) → call_on asked.face asked.opnum asked.stub ≡ r
    → Says_or_busies start k history (act.Call asked ∷ [])
    (on_request start verdicts history k asked (length asked.stub) r)
request-does start k asked verdicts history (Err e) is = inl (record {
  tells = λ last later more.
      let rs = replies_from (after start history) k more in
      ap (λ (r : Result Call WireError). answered last asked r rs
      (λ others. written last later others)) is
      ∙ ap (λ (bs : List ℕ). bs ++ written last later rs)
      (sym (sent-here k (undecoded_bytes asked e)));
  counts = λ later. ap (λ (r : Result Call WireError). with_call r (length asked.stub) (decoded_calls later)) is;
  lines = refl;
  room = refl;
})
request-does start k asked verdicts history (Ok call) is =
    decoded-does start k asked verdicts history call
    (call_full start history (length asked.stub)) is

act-does : (start : Start) (k : ℕ) (verdicts : Verdicts) (history : List Entry) (a : Act)
    → Says_or_busies start k history (a ∷ []) (on_act start verdicts history k a)
act-does start k verdicts history (act.Answered bytes) = inl (record {
  tells = λ last later more. ap (λ (bs : List ℕ). bs ++ written last later (replies_from (after start history) k more))
      (sym (sent-here k bytes));
  counts = λ later. refl;
  lines = refl;
  room = refl;
})
act-does start k verdicts history (act.Call asked) =
    request-does start k asked verdicts history (call_on asked.face asked.opnum asked.stub) refl
act-does start k verdicts history (act.Closed place cause bytes) = inl (record {
  tells = λ last later more.
      let rs = replies_from (state_after (after start history) (Gone k ∷ [])) k more in
      let lines : lines_on k (Out k bytes ∷ IsClosed k place cause ∷ []) ≡ bytes = rw (here k) (append-nil bytes) in
      ap (λ (bs : List ℕ). bs ++ written last later rs) (sym lines);
  counts = λ later. refl;
  lines = refl;
  room = refl;
})

-- one act, and the others after it
both-say : (start : Start) (k : ℕ) (history : List Entry) (a : Act) (as' : List Act) (first others : Doing)
    → Says start k history (a ∷ []) first → Says start k (history ++ first.entries) as' others
    → Says start k history (a ∷ as') (both_by None first others)
both-say start k history a as' first others one more_says =
    let now = history ++ first.entries in
    let stands : after start now ≡ state_after (after start history) first.entries =
    state-append (first_state start) history first.entries in
    record {
      tells = λ last later more.
          let joined_entries : (first.entries ++ others.entries) ++ more ≡ first.entries ++ (others.entries ++ more) =
          append_assoc first.entries others.entries more in
          let left = replies_from (state_after (state_after (after start history) first.entries) others.entries) k
          more in
          ap (λ (es : List Entry). written last (a ∷ (as' ++ later)) (replies_from (after start history) k es))
          joined_entries
          ∙ one.tells last (as' ++ later) (others.entries ++ more)
          ∙ ap (λ (st : State). lines_on k first.prints ++ written last (as' ++ later)
          (replies_from st k (others.entries ++ more))) (sym stands)
          ∙ ap (λ (bs : List ℕ). lines_on k first.prints ++ bs) (more_says.tells last later more)
          ∙ ap (λ (st : State). lines_on k
          first.prints ++ (lines_on k others.prints ++ written last later
          (replies_from (state_after st others.entries) k more))) stands
          ∙ sym (append_assoc (lines_on k first.prints) (lines_on k others.prints) (written last later left))
          ∙ ap (λ (bs : List ℕ). bs ++ written last later left)
          (sym (flat_map-append (sent_by_line k) first.prints others.prints))
          ∙ ap (λ (st : State). lines_on k (first.prints ++ others.prints) ++ written last later
          (replies_from st k more)) (sym (state-append (after start history) first.entries others.entries));
      counts = λ later.
          one.counts (as' ++ later)
          ∙ ap (λ (cs : List (Call × ℕ)). calls_of k first.entries ++ cs) (more_says.counts later)
          ∙ sym (append_assoc (calls_of k first.entries) (calls_of k others.entries) (decoded_calls later))
          ∙ ap (λ (cs : List (Call × ℕ)). cs ++ decoded_calls later)
          (sym (calls-append k first.entries others.entries));
      lines = any-behind (is_full_line k) first.prints others.prints one.lines ∙ more_says.lines;
      room = more_says.room;
    }

both-busy : (start : Start) (k : ℕ) (history : List Entry) (a : Act) (as' : List Act) (first others : Doing)
    → Says start k history (a ∷ []) first → Busies start k (history ++ first.entries) as' others
    → Busies start k history (a ∷ as') (both_by None first others)
both-busy start k history a as' first others one busies =
    let now = history ++ first.entries in
    let stands : after start now ≡ state_after (after start history) first.entries =
    state-append (first_state start) history first.entries in
    record {
      tells = λ later conns.
          let gones = map (λ conn. Gone conn) conns in
          flat_map-append (sent_by_line k) first.prints others.prints
          ∙ ap (λ (bs : List ℕ). lines_on k first.prints ++ bs) (busies.tells later conns)
          ∙ ap (λ (st : State). lines_on k first.prints ++ written busy_bytes (as' ++ later)
          (replies_from st k (others.entries ++ gones))) stands
          ∙ sym (one.tells busy_bytes (as' ++ later) (others.entries ++ gones))
          ∙ ap (λ (es : List Entry). written busy_bytes (a ∷ (as' ++ later)) (replies_from (after start history) k es))
          (sym (append_assoc first.entries others.entries gones));
      outside = busies.outside;
      counts = λ later.
          one.counts (as' ++ later)
          ∙ ap (λ (cs : List (Call × ℕ)). calls_of k first.entries ++ cs) (busies.counts later)
          ∙ sym (append_assoc (calls_of k first.entries) (calls_of k others.entries) (busies.outside later))
          ∙ ap (λ (cs : List (Call × ℕ)). cs ++ busies.outside later)
          (sym (calls-append k first.entries others.entries));
      lines = any-behind (is_full_line k) first.prints others.prints one.lines ∙ busies.lines;
      count = busies.count;
      full = busies.full;
    }

busy-first : (start : Start) (k : ℕ) (history : List Entry) (a : Act) (as' : List Act) (first : Doing)
    → Busies start k history (a ∷ []) first → Busies start k history (a ∷ as') first
busy-first start k history a as' first busies = record {
  tells = λ later conns. busies.tells (as' ++ later) conns;
  outside = λ later. busies.outside (as' ++ later);
  counts = λ later. busies.counts (as' ++ later);
  lines = busies.lines;
  count = busies.count;
  full = busies.full;
}

acts-do : (start : Start) (k : ℕ) (verdicts : Verdicts) (as' : List Act) (history : List Entry)
    → Says_or_busies start k history as' (on_acts start verdicts history k as')
acts-do start k verdicts [] history =
    inl (record { tells = λ last later more. refl; counts = λ later. refl; lines = refl; room = refl })
acts-do start k verdicts (a ∷ as') history =
    let first = on_act start verdicts history k a in
    let others = on_acts start verdicts (history ++ first.entries) k as' in
    elim (act-does start k verdicts history a) [
      | inl one ↦
          let joined : both_by None first others ≡ both first others = sym (both-open first others one.room) in
          elim (acts-do start k verdicts as' (history ++ first.entries)) [
            | inl says ↦ inl (subst (λ (d : Doing). Says start k history (a ∷ as') d) joined
                (both-say start k history a as' first others one says))
            | inr busies ↦ inr (subst (λ (d : Doing). Busies start k history (a ∷ as') d) joined
                (both-busy start k history a as' first others one busies))
          ]
      | inr busies ↦ inr (subst (λ (d : Doing). Busies start k history (a ∷ as') d)
          (sym (both-full first others busies.count busies.full))
          (busy-first start k history a as' first busies))
    ]

-- ---- and on the others

record Passes (k : ℕ) (d : Doing) : Type 0 where
  prints : lines_on k d.prints ≡ []
  lines : fulls_on k d.prints ≡ false
  replied : (st : State) (more : List Entry)
      → replies_from st k (d.entries ++ more) ≡ replies_from (state_after st d.entries) k more
  called : (more : List Entry) → calls_of k (d.entries ++ more) ≡ calls_of k more

decoded-passes : (start : Start) (k c n : ℕ) (asked : Request) (verdicts : Verdicts) (history : List Entry)
    (call : Call) (full : Option ℕ) → c ≢ k → Passes k (on_decoded start verdicts history c asked n call full)
decoded-passes start k c n asked verdicts history call None other = record {
  prints = rw (there c k other) refl;
  lines = refl;
  replied = λ st more. rw (there c k other) refl;
  called = λ more. rw (there c k other) refl;
}
decoded-passes start k c n asked verdicts history call (Some count) other = record {
  prints = rw (there c k other) refl;
  lines = rw (there c k other) refl;
  replied = λ st more. refl;
  called = λ more. refl;
}

request-passes : (start : Start) (k c n : ℕ) (asked : Request) (verdicts : Verdicts) (history : List Entry)
    (r : Result Call WireError) → c ≢ k → Passes k (on_request start verdicts history c asked n r)
request-passes start k c n asked verdicts history (Err e) other =
    record { prints = rw (there c k other) refl; lines = refl; replied = λ st more. refl; called = λ more. refl }
request-passes start k c n asked verdicts history (Ok call) other =
    decoded-passes start k c n asked verdicts history call (call_full start history n) other

act-passes : (start : Start) (k c : ℕ) (verdicts : Verdicts) (history : List Entry) (a : Act) → c ≢ k
    → Passes k (on_act start verdicts history c a)
act-passes start k c verdicts history (act.Answered bytes) other =
    record { prints = rw (there c k other) refl; lines = refl; replied = λ st more. refl; called = λ more. refl }
act-passes start k c verdicts history (act.Call asked) other =
    request-passes start k c (length asked.stub) asked verdicts history
    (call_on asked.face asked.opnum asked.stub) other
act-passes start k c verdicts history (act.Closed place cause bytes) other =
    record { prints = rw (there c k other) refl; lines = refl; replied = λ st more. refl; called = λ more. refl }

both-pass : (k : ℕ) (full : Option ℕ) (first others : Doing) → Passes k first → Passes k others
    → Passes k (both_by full first others)
both-pass k None first others one rest = record {
  prints = flat_map-append (sent_by_line k) first.prints others.prints
      ∙ ap (λ (bs : List ℕ). bs ++ lines_on k others.prints) one.prints ∙ rest.prints;
  lines = any-behind (is_full_line k) first.prints others.prints one.lines ∙ rest.lines;
  replied = λ st more.
      ap (λ (es : List Entry). replies_from st k es) (append_assoc first.entries others.entries more)
      ∙ one.replied st (others.entries ++ more)
      ∙ rest.replied (state_after st first.entries) more
      ∙ ap (λ (x : State). replies_from x k more) (sym (state-append st first.entries others.entries));
  called = λ more. ap (λ (es : List Entry). calls_of k es) (append_assoc first.entries others.entries more)
      ∙ one.called (others.entries ++ more) ∙ rest.called more;
}
both-pass k (Some count) first others one rest = one

acts-pass : (start : Start) (k c : ℕ) (verdicts : Verdicts) (as' : List Act) (history : List Entry) → c ≢ k
    → Passes k (on_acts start verdicts history c as')
acts-pass start k c verdicts [] history other =
    record { prints = refl; lines = refl; replied = λ st more. refl; called = λ more. refl }
acts-pass start k c verdicts (a ∷ as') history other =
    let first = on_act start verdicts history c a in
    both-pass k first.full first (on_acts start verdicts (history ++ first.entries) c as')
    (act-passes start k c verdicts history a other)
    (acts-pass start k c verdicts as' (history ++ first.entries) other)

-- ---- each line

quiet-tells : (k : ℕ) (s : Standing) → Tells k s (quiet s.peers)
quiet-tells k s = inl (record {
  brings = refl;
  prints = refl;
  lines = refl;
  replied = λ st more. refl;
  called = λ more. refl;
  hears = inl refl;
  stays = λ is. is;
})

open-tells : (k conn listener : ℕ) (s : Standing) (full : Option ℕ) → conn ≡ length s.peers + 1
    → Tells k s (opened s conn listener full)
open-tells k conn listener s None is = inl (record {
  brings = refl;
  prints = refl;
  lines = refl;
  replied = λ st more. refl;
  called = λ more. refl;
  hears = inl (hearing-pushed k conn s.peers is);
  stays = ended-pushed k (nothing_heard conn) s.peers;
})
open-tells k conn listener s (Some count) is = elim (cases_eq conn k) [
  | inl same ↦ inr (inr (record {
    acts = [];
    hears = λ waits. waits;
    tells = λ conns. refl;
    outside = [];
    counts = refl;
    lines = let mine : (conn == k) ≡ true = grind (arith, nat_tests) in rw mine refl;
    count = count;
    full = refl;
    ended = λ ends. refl;
  }))
  | inr other ↦ inl (record {
    brings = refl;
    prints = refl;
    lines = rw (there conn k other) refl;
    replied = λ st more. refl;
    called = λ more. refl;
    hears = inl refl;
    stays = λ ends. ends;
  })
]

-- bytes that were heard, on their connection
heard-here : (conn : ℕ) (verdicts : Verdicts) (s : Standing) (bytes : List ℕ) (h : Hearing)
    → peer_of conn s.peers ≡ Some (Open h) → Tells conn s (on_heard verdicts s conn bytes (on h bytes))
heard-here conn verdicts s bytes h stands =
    let leaves = (on h bytes).leaves in
    let came : flat_map (on_connection conn) ((conn, bytes) ∷ []) ≡ bytes = rw (here conn) (append-nil bytes) in
    elim (acts-do s.start conn verdicts (on h bytes).acts s.history) [
      | inl says ↦ inr (inl (record {
        hearing = h;
        bytes = bytes;
        stands = stands;
        stands_after =
            ap (λ (o : Option ℕ). peer_of conn (with_peer conn (peer_behind o leaves) s.peers)) says.room
            ∙ peer-here conn s.peers (Open leaves) (Open h) stands;
        brings = came;
        lines = says.lines;
        tells = says.tells;
        counts = says.counts;
      }))
      | inr busies ↦ inr (inr (record {
        acts = (on h bytes).acts;
        hears = λ waits. ap (λ (p : Option Peer). (on (hearing_in conn p)
            (flat_map (on_connection conn) ((conn, bytes) ∷ []))).acts) stands
            ∙ ap (λ (bs : List ℕ). (on h bs).acts) came;
        tells = λ conns. busies.tells [] conns
            ∙ ap (λ (as' : List Act). written busy_bytes as' (replies_from (after s.start s.history) conn
            ((on_acts s.start verdicts s.history conn (on h bytes).acts).entries ++ map (λ c. Gone c) conns)))
            (append-nil (on h bytes).acts);
        outside = busies.outside [];
        counts = ap (λ (as' : List Act). decoded_calls as') (sym (append-nil (on h bytes).acts)) ∙ busies.counts [];
        lines = busies.lines;
        count = busies.count;
        full = busies.full;
        ended = λ is. let clash : Some (Open h) ≡ Some Ended = sym stands ∙ is in absurd cc;
      }))
    ]

heard-tells : (k conn : ℕ) (verdicts : Verdicts) (s : Standing) (bytes : List ℕ) (h : Hearing)
    → peer_of conn s.peers ≡ Some (Open h) → Tells k s (on_heard verdicts s conn bytes (on h bytes))
heard-tells k conn verdicts s bytes h stands =
    let m = on_heard verdicts s conn bytes (on h bytes) in
    let doing = on_acts s.start verdicts s.history conn (on h bytes).acts in
    let left = peer_behind doing.full (on h bytes).leaves in
    elim (cases_eq conn k) [
      | inl same ↦ subst (λ (n : ℕ). Tells n s m) same (heard-here conn verdicts s bytes h stands)
      | inr other ↦
          let passes = acts-pass s.start k conn verdicts (on h bytes).acts s.history other in inl (record {
            brings = rw (there conn k other) refl;
            prints = passes.prints;
            lines = passes.lines;
            replied = passes.replied;
            called = passes.called;
            hears = inl (ap (λ (p : Option Peer). hearing_in k p) (peer-there conn k s.peers left other));
            stays = λ is. peer-there conn k s.peers left other ∙ is;
          })
    ]

-- connections that are gone

end-tells : (k conn : ℕ) (s : Standing) (h : Hearing) (conns : List ℕ) → peer_of conn s.peers ≡ Some (Open h)
    → Tells k s (record { effect = gone conns; peers = with_peer conn Ended s.peers })
end-tells k conn s h conns stands =
    let m : Move = record { effect = gone conns; peers = with_peer conn Ended s.peers } in
    elim (cases_eq conn k) [
      | inl same ↦ subst (λ (n : ℕ). Tells n s m) same (inl (record {
        brings = refl;
        prints = nothing-sent conn conns;
        lines = nothing-full conn conns;
        replied = nothing-replied conn conns;
        called = nothing-called conn conns;
        hears = inr (peer-here conn s.peers Ended (Open h) stands);
        stays = λ is. peer-here conn s.peers Ended (Open h) stands;
      }))
      | inr other ↦ inl (record {
        brings = refl;
        prints = nothing-sent k conns;
        lines = nothing-full k conns;
        replied = nothing-replied k conns;
        called = nothing-called k conns;
        hears = inl (ap (λ (p : Option Peer). hearing_in k p) (peer-there conn k s.peers Ended other));
        stays = λ is. peer-there conn k s.peers Ended other ∙ is;
      })
    ]

known : (k : ℕ) (s : Standing) (m n : Move) → Some m ≡ Some n → Tells k s m → Tells k s n
known k s m n is tells = let same : m ≡ n = cc in subst (λ (x : Move). Tells k s x) same tells

listener-tells : (k conn : ℕ) (s : Standing) (found : Option ℕ) (m : Move) → on_listener s conn found ≡ Some m
    → Tells k s m
listener-tells k conn s None m is = absurd cc
listener-tells k conn s (Some listener) m is =
    let full = conns_full s.start s.history in
    let P : Bool → Type 0 = λ b. (conn == length s.peers + 1) ≡ b
    → cond b (Some (opened s conn listener full)) None ≡ Some m → Tells k s m in
    let split : (b : Bool) → P b = λ b. elim b as P [
      | true ↦ λ passes same. let first : conn ≡ length s.peers + 1 = grind (arith, nat_tests) in
          known k s (opened s conn listener full) m same (open-tells k conn listener s full first)
      | false ↦ λ passes none. absurd cc
    ] in
    split (conn == length s.peers + 1) refl is

data-tells : (k conn : ℕ) (verdicts : Verdicts) (s : Standing) (bytes : List ℕ) (p : Option Peer) (m : Move)
    → peer_of conn s.peers ≡ p → on_data verdicts s conn bytes p ≡ Some m → Tells k s m
data-tells k conn verdicts s bytes None m stands is = absurd cc
data-tells k conn verdicts s bytes (Some Ended) m stands is = absurd cc
data-tells k conn verdicts s bytes (Some (Open h)) m stands is =
    known k s _ m is (heard-tells k conn verdicts s bytes h stands)

ended-tells : (k conn : ℕ) (s : Standing) (p : Option Peer) (m : Move) → peer_of conn s.peers ≡ p
    → on_end s conn p ≡ Some m → Tells k s m
ended-tells k conn s None m stands is = absurd cc
ended-tells k conn s (Some Ended) m stands is = absurd cc
ended-tells k conn s (Some (Open h)) m stands is =
    known k s _ m is (end-tells k conn s h (number_of conn (Some (Open h))) stands)

event-tells : (k : ℕ) (verdicts : Verdicts) (s : Standing) (e : Option Event) (m : Move)
    → on_event verdicts s e ≡ Some m → Tells k s m
event-tells k verdicts s None m is = absurd cc
event-tells k verdicts s (Some event.Nothing) m is = known k s (quiet s.peers) m is (quiet-tells k s)
event-tells k verdicts s (Some (event.Open conn name)) m is =
    listener-tells k conn s (listener_from 0 name s.start.config.listeners) m is
event-tells k verdicts s (Some (event.Data conn bytes)) m is =
    data-tells k conn verdicts s bytes (peer_of conn s.peers) m refl is
event-tells k verdicts s (Some (event.End conn)) m is = ended-tells k conn s (peer_of conn s.peers) m refl is

line-tells : (k : ℕ) (verdicts : Verdicts) (s : Standing) (line : List ℕ) (m : Move) → on_line verdicts s line ≡ Some m
    → Tells k s m
unfolding on_line
line-tells k verdicts s line m is = event-tells k verdicts s (event_of line) m is

-- ---- the end, and the whole

ending-law : (k : ℕ) (s : Standing) (status : Status) → Quiet (hearing_of k s.peers) → LawAt k s (ends s status).effects
ending-law k s status waits =
    let last = served_from 1 s.peers in
    record {
      tells =
          append-nil (sent_in k (ending s)) ∙ nothing-sent k last
          ∙ ap (λ (as' : List Act). written (last_of k (ends s status).effects) as'
          (replies_from (state_of s) k (entries_of (ends s status).effects))) (sym waits);
      outside = [];
      counts = ap (λ (as' : List Act). decoded_calls as') waits
          ∙ sym (append-nil (calls_of k (entries_of (ends s status).effects)) ∙ nothing-called k last []);
      all = λ none. refl;
      ended = λ is. refl;
    }

-- what was heard of a connection before a move that doesn't fill, stays quiet after it
silent-quiet : (k : ℕ) (s : Standing) (m : Move) → Quiet (hearing_of k s.peers) → Silent k s m
    → Quiet (hearing_of k m.peers)
silent-quiet k s m waits silent =
    elim silent.hears [
      | inl same ↦ subst (λ (h : Hearing). Quiet h) (sym same) waits
      | inr ends ↦ let over : Quiet hearing.Ended =
          refl in subst (λ (p : Option Peer). Quiet (hearing_in k p)) (sym ends) over
    ]

speaks-quiet : IsCutAnywhere → (k : ℕ) (s : Standing) (m : Move) → Speaks k s m → Quiet (hearing_of k m.peers)
speaks-quiet cut k s m speaks =
    subst (λ (p : Option Peer). Quiet (hearing_in k p)) (sym speaks.stands_after)
    (quiet-left cut speaks.hearing speaks.bytes)

-- what comes after a line, whether it found the history full or not
later-law : (k : ℕ) (s : Standing) (full : Option ℕ) (later : Standing → Trace) → Quiet (hearing_of k s.peers)
    → ((next : Standing) → Quiet (hearing_of k next.peers) → LawAt k next (later next).effects)
    → LawAt k s (unless_full full s later).effects
later-law k s None later waits laws = laws s waits
later-law k s (Some count) later waits laws = ending-law k s (HistoryFull count) waits

follow-law : IsCutAnywhere → (k : ℕ) (s : Standing) (n : ℕ) (move : Option Move) (later : Standing → Trace)
    → Quiet (hearing_of k s.peers) → ((m : Move) → move ≡ Some m → Tells k s m)
    → ((next : Standing) → Quiet (hearing_of k next.peers) → LawAt k next (later next).effects)
    → LawAt k s (follow s n move later).effects
follow-law cut k s n None later waits tells laws = ending-law k s (EventLine n) waits
follow-law cut k s n (Some m) later waits tells laws =
    let rest = unless_full m.effect.full (moved s m) later in
    elim (tells m refl) [
      | inl silent ↦ silent-law k s m rest.effects waits silent
          (later-law k (moved s m) m.effect.full later (silent-quiet k s m waits silent) laws)
      | inr more ↦ elim more [
        | inl speaks ↦ speaks-law cut k s m rest.effects speaks
            (later-law k (moved s m) m.effect.full later (speaks-quiet cut k s m speaks) laws)
        | inr fills ↦ subst (λ (o : Option ℕ). LawAt k s (m.effect ∷ (unless_full o (moved s m) later).effects))
            (sym fills.full) (fills-law k s m (HistoryFull fills.count) waits fills)
      ]
    ]

law : IsCutAnywhere → (k : ℕ) (verdicts : Verdicts) (ls : List (List ℕ)) (s : Standing) (n : ℕ)
    → Quiet (hearing_of k s.peers) → LawAt k s (trace_from verdicts s n ls).effects
unfolding trace_from
law cut k verdicts [] s n waits = ending-law k s Done waits
law cut k verdicts (line ∷ ls) s n waits =
    follow-law cut k s n (on_line verdicts s line) (λ next. trace_from verdicts next (n + 1) ls) waits
    (λ m is. line-tells k verdicts s line m is) (λ next still_waits. law cut k verdicts ls next (n + 1) still_waits)

pub transcribing : IsCutAnywhere → (start : Start) (events : List ℕ) (history : List Entry)
    → history ≡ entries_of (replayed start events history).effects
    → (k : ℕ) → let effects = (replayed start events history).effects in
    IsTranscribed start history k (found_full k effects) (received k effects) (sent k effects)
transcribing cut start events history entries k =
    let effects = (replayed start events history).effects in
    let stream = received k effects in
    let fresh : hearing_of k [] ≡ nothing_heard k = none-at-start k in
    let all = law cut k (verdict_in history) (lines_of events) (at_start start) 1
    (subst (λ (h : Hearing). Quiet h) (sym fresh) (quiet-start k)) in
    let heard_all : (on (hearing_of k []) stream).acts ≡ acts k stream =
    ap (λ (h : Hearing). (on h stream).acts) fresh in
    record {
      is =
          all.tells
          ∙ ap (λ (as' : List Act). written (last_of k effects) as'
          (replies_from (first_state start) k (entries_of effects))) heard_all
          ∙ ap (λ (es : List Entry). written (last_of k effects) (acts k stream)
          (replies_from (first_state start) k es)) (sym entries);
      outside = all.outside;
      calls =
          sym (ap (λ (as' : List Act). decoded_calls as') heard_all)
          ∙ all.counts
          ∙ ap (λ (es : List Entry). calls_of k es ++ all.outside) (sym entries);
      all = all.all;
    }

-- where the history wasn't found full, no call stands outside it
taken-all : (start : Start) (history : List Entry) (k : ℕ) (full : Bool) (came written_there : List ℕ)
    → IsTranscribed start history k full came written_there → full ≡ false
    → calls_of k history ≡ decoded_calls (acts k came)
taken-all start history k full came written_there t none =
    sym (t.calls ∙ ap (λ (cs : List (Call × ℕ)). calls_of k history ++ cs) (t.all none)
    ∙ append-nil (calls_of k history))

-- however the lines cut what comes
pub cuts-change-nothing : IsCutAnywhere → CutsChangeNothing
cuts-change-nothing cut start left right one other k first second open_one open_other same =
    let one_effects = (replayed start left one).effects in
    let other_effects = (replayed start right other).effects in
    let l = transcribing cut start left one first k in
    let r = transcribing cut start right other second k in
    let heard_same : acts k (received k one_effects) ≡ acts k (received k other_effects) =
    ap (λ (bs : List ℕ). acts k bs) same in (
      taken-all start one k (found_full k one_effects) (received k one_effects) (sent k one_effects) l open_one
          ∙ ap (λ (as' : List Act). decoded_calls as') heard_same
          ∙ sym (taken-all start other k (found_full k other_effects) (received k other_effects) (sent k
          other_effects) r
          open_other),
      λ answered_same.
          l.is
          ∙ ap (λ (b : Bool). written (last_bytes b) (acts k (received k one_effects)) (replies start k one)) open_one
          ∙ ap (λ (as' : List Act). written (last_bytes false) as' (replies start k one)) heard_same
          ∙ ap (λ (rs : List Reply). written (last_bytes false) (acts k (received k other_effects)) rs) answered_same
          ∙ ap (λ (b : Bool). written (last_bytes b) (acts k (received k other_effects)) (replies start k other))
          (sym open_other)
          ∙ sym r.is,
    )
