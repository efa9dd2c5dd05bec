-- Each connection that the lines of a replay open is gone where they were run through.
use Rattle.std.proofs.Common.{◌≡◌, ℕ, zero, suc, ◌+◌, ◌==◌, ◌||◌, ◌⊎◌, inl, inr, Bool, true, false, cond, List, []}
use Rattle.std.proofs.Common.{◌∷◌, ◌++◌, length, drop, map, Option, Some, None, Result, Ok, Err, slice_get, refl, sym}
use Rattle.std.proofs.Common.{◌∙◌, if◌then◌else◌, ap, subst, arith}
use Rattle.std.proofs.lemmas.Bool.{cases_eq}
use Rattle.std.proofs.lemmas.Bool.Decides.{nat_tests}
use Rattle.std.specs.List.{list_any}
use Rattle.rpc_pdu.specs.declared.pdus.Pdu.{Pdu}
use Rattle.rpc_pdu.specs.declared.pdus.Side.TheVariants.{Server}
use Rattle.rpc_pdu.specs.Bodies.{Front, Whole, Rest, Refused, front}
use Rattle.rpc_session.specs.declared.sessions.Act.{Act}
use Rattle.rpc_session.specs.declared.sessions.Act.TheVariants as act
use Rattle.rpc_session.specs.declared.sessions.Request.{Request}
use Rattle.rpc_session.specs.declared.sessions.Session.{Session}
use Rattle.rpc_session.specs.declared.sessions.Step.{Step}
use Rattle.rpc_session.specs.declared.sessions.Step.TheVariants.{Refuses, Goes}
use Rattle.rpc_session.specs.declared.hearing.Hearing.{Hearing}
use Rattle.rpc_session.specs.declared.hearing.Hearing.TheVariants as hearing
use Rattle.rpc_session.specs.Acts.{is_refusal}
use Rattle.rpc_session.specs.Sessions.{Heard, hear, hear_in, heard_next, next_of, stepped, on_next, listed, on}
use Rattle.rpc_session.specs.Sessions.{is_going, taken}
use Rattle.acct_calls.specs.declared.calls.Call.{Call}
use Rattle.acct_machine.specs.declared.entry.Entry.{Entry}
use Rattle.acct_machine.specs.declared.entry.Entry.TheVariants.{Opened, Called, Gone}
use Rattle.acct_machine.specs.Legal.{conns_full, call_full}
use Rattle.acct_machine.specs.State.{Start}
use Rattle.acct_stubs.specs.declared.errors.WireError.{WireError}
use Rattle.link_sessions.specs.Connections.{nothing_heard, is_served}
use Rattle.link_sessions.specs.Transcript.{call_on}
use Rattle.link_sessions.specs.declared.connections.Peer.{Peer}
use Rattle.link_sessions.specs.declared.connections.Peer.TheVariants.{Open, Ended}
use Rattle.acct_server.specs.Events.{event_of, lines_of}
use Rattle.acct_server.specs.Replayed.{Move, Doing, Standing, Trace, Verdicts, on_line, on_event, on_listener}
use Rattle.acct_server.specs.Replayed.{listener_from, on_data, on_heard, on_acts, on_act, on_request, on_decoded}
use Rattle.acct_server.specs.Replayed.{on_end}
use Rattle.acct_server.specs.Replayed.{quiet, opened, moved, both_by, peer_behind, gone, peer_of, with_peer}
use Rattle.acct_server.specs.Replayed.{number_of, served_from, follow, unless_full, ends, trace_from, at_start}
use Rattle.acct_server.specs.Replayed.{verdict_in, replayed, entries_of}
use Rattle.acct_server.specs.declared.events.Event.{Event}
use Rattle.acct_server.specs.declared.events.Event.TheVariants as event
use Rattle.acct_server.specs.declared.status.Status.{Status}
use Rattle.acct_server.specs.declared.status.Status.TheVariants.{Done, EventLine, HistoryFull}
use Rattle.acct_server.proofs.Placing.{peer-here, peer-there}

-- ---- an element of a list

abbrev pub Among : {A : Type 0} → A → List A → Type 0
Among x [] = ⊥
Among x (y ∷ ys) = (y ≡ x) ⊎ Among x ys

pub among-left : {A : Type 0} (x : A) (xs ys : List A) → Among x xs → Among x (xs ++ ys)
among-left x [] ys is = absurd is
among-left x (y ∷ xs) ys (inl here) = inl here
among-left x (y ∷ xs) ys (inr there) = inr (among-left x xs ys there)

pub among-right : {A : Type 0} (x : A) (xs ys : List A) → Among x ys → Among x (xs ++ ys)
among-right x [] ys is = is
among-right x (y ∷ xs) ys is = inr (among-right x xs ys is)

among-either : {A : Type 0} (x : A) (xs ys : List A) → Among x (xs ++ ys) → Among x xs ⊎ Among x ys
among-either x [] ys is = inr is
among-either x (y ∷ xs) ys (inl here) = inl (inl here)
among-either x (y ∷ xs) ys (inr there) = elim (among-either x xs ys there) [
  | inl first ↦ inl (inr first)
  | inr second ↦ inr second
]

pub among-splits : {A : Type 0} (x : A) (xs : List A) → Among x xs
    → (before : List A) × (after : List A) × (xs ≡ before ++ x ∷ after)
among-splits x [] is = absurd is
among-splits x (y ∷ xs) (inl here) = ([], xs, ap (λ e. e ∷ xs) here)
among-splits x (y ∷ xs) (inr there) =
    let rest = among-splits x xs there in
    (y ∷ rest.0, rest.1, ap (λ es. y ∷ es) rest.2)

pub among-here : {A : Type 0} (x : A) (before after : List A) → Among x (before ++ x ∷ after)
among-here x before after = among-right x before (x ∷ after) (inl refl)

gone-among : (k : ℕ) (ks : List ℕ) → Among k ks → Among (Gone k) (map (λ conn. Gone conn) ks)
gone-among k [] is = absurd is
gone-among k (n ∷ ks) (inl here) = inl (ap (λ c. Gone c) here)
gone-among k (n ∷ ks) (inr there) = inr (gone-among k ks there)

none-opened : (k l : ℕ) (ks : List ℕ) → Among (Opened k l) (map (λ conn. Gone conn) ks) → ⊥
none-opened k l [] is = is
none-opened k l (n ∷ ks) (inl here) = absurd cc
none-opened k l (n ∷ ks) (inr there) = none-opened k l ks there

-- ---- the connections that are served at the end

number-among : (b : Bool) (n : ℕ) → b ≡ true → Among n (if b then n ∷ [] else [])
number-among true n is = inl refl
number-among false n is = absurd cc

served-number : (i n : ℕ) (peers : List Peer) → is_served (slice_get peers i) ≡ true
    → Among (n + i) (served_from n peers)
served-number i n [] is = absurd cc
served-number zero n (peer ∷ peers) is =
    let same : n ≡ n + 0 = omega arith in
    subst (λ (m : ℕ). Among m (served_from n (peer ∷ peers))) same
    (among-left n (number_of n (Some peer)) (served_from (n + 1) peers) (number-among (is_served (Some peer)) n is))
served-number (suc i) n (peer ∷ peers) is =
    let same : n + 1 + i ≡ n + suc i = omega arith in
    subst (λ (m : ℕ). Among m (served_from n (peer ∷ peers))) same
    (among-right (n + 1 + i) (number_of n (Some peer)) (served_from (n + 1) peers) (served-number i (n + 1) peers is))

served-among : (k : ℕ) (peers : List Peer) → is_served (peer_of k peers) ≡ true → Among k (served_from 1 peers)
served-among zero peers is = absurd cc
served-among (suc i) peers is =
    let same : 1 + i ≡ suc i = omega arith in
    subst (λ (m : ℕ). Among m (served_from 1 peers)) same (served-number i 1 peers is)

-- ---- what is promised of entries, from a standing on

record Leave (k : ℕ) (s : Standing) (entries : List Entry) : Type 0 where
  served : is_served (peer_of k s.peers) ≡ true → Among (Gone k) entries
  opened : (l : ℕ) → Among (Opened k l) entries → Among (Gone k) entries

-- and of a move
record Keep (k : ℕ) (s : Standing) (m : Move) : Type 0 where
  served : is_served (peer_of k s.peers) ≡ true
      → (is_served (peer_of k m.peers) ≡ true) ⊎ Among (Gone k) m.effect.entries
  opened : (l : ℕ) → Among (Opened k l) m.effect.entries → is_served (peer_of k m.peers) ≡ true

ending-leaves : (k : ℕ) (s : Standing) (status : Status) → Leave k s (entries_of (ends s status).effects)
ending-leaves k s status =
    let ks = served_from 1 s.peers in
    record {
      served = λ is. among-left (Gone k) (map (λ conn. Gone conn) ks) []
          (gone-among k ks (served-among k s.peers is));
      opened = λ l is. elim (among-either (Opened k l) (map (λ conn. Gone conn) ks) [] is) [
        | inl first ↦ absurd (none-opened k l ks first)
        | inr second ↦ absurd second
      ];
    }

move-leaves : (k : ℕ) (s : Standing) (m : Move) (later : List Entry) → Keep k s m → Leave k (moved s m) later
    → Leave k s (m.effect.entries ++ later)
move-leaves k s m later keep leave = record {
  served = λ is. elim (keep.served is) [
    | inl still ↦ among-right (Gone k) m.effect.entries later (leave.served still)
    | inr gone_here ↦ among-left (Gone k) m.effect.entries later gone_here
  ];
  opened = λ l is. elim (among-either (Opened k l) m.effect.entries later is) [
    | inl first ↦ among-right (Gone k) m.effect.entries later (leave.served (keep.opened l first))
    | inr second ↦ among-right (Gone k) m.effect.entries later (leave.opened l second)
  ];
}

-- ---- what was heard ends in a refusal where nothing more is heard

any-right : (xs ys : List Act) → list_any is_refusal ys ≡ true → list_any is_refusal (xs ++ ys) ≡ true
any-right [] ys is = is
any-right (x ∷ xs) ys is = either (is_refusal x) (list_any is_refusal (xs ++ ys)) (any-right xs ys is)
  where
    either : (a b : Bool) → b ≡ true → (a || b) ≡ true
    either true b is = refl
    either false b is = is

abbrev Closes : Heard → Type 0
Closes h = is_going h.leaves ≡ false → list_any is_refusal h.acts ≡ true

step-closes : (conn place size : ℕ) (bytes : List ℕ) (pdu : Pdu) (s : Step) (later : ℕ → Session → List ℕ → Heard)
    → ((p : ℕ) (session : Session) (rest : List ℕ) → Closes (later p session rest))
    → Closes (on_next conn place bytes (stepped place pdu size s) later)
step-closes conn place size bytes pdu (Refuses cause) later rest is = refl
step-closes conn place size bytes pdu (Goes a session) later rest is =
    any-right (listed a) (later (place + size) session (drop size bytes)).acts
    (rest (place + size) session (drop size bytes) is)

next-closes : (conn place : ℕ) (session : Session) (bytes : List ℕ) (f : Front)
    (later : ℕ → Session → List ℕ → Heard)
    → ((p : ℕ) (session : Session) (rest : List ℕ) → Closes (later p session rest))
    → Closes (on_next conn place bytes (next_of conn place session f) later)
next-closes conn place session bytes (Whole pdu size) later rest is =
    step-closes conn place size bytes pdu (taken conn session pdu) later rest is
next-closes conn place session bytes Rest later rest is = absurd cc
next-closes conn place session bytes (Refused at cause ptype id) later rest is = refl

hear-closes : (turns conn place : ℕ) (session : Session) (bytes : List ℕ)
    → Closes (hear_in turns conn place session bytes)
unfolding hear_in heard_next
hear-closes zero conn place session bytes is = absurd cc
hear-closes (suc turns) conn place session bytes is =
    next-closes conn place session bytes (front Server bytes)
    (λ after later rest. hear_in turns conn after later rest)
    (λ after later rest. hear-closes turns conn after later rest) is

on-closes : (h : Hearing) (piece : List ℕ) → is_going h ≡ true → Closes (on h piece)
unfolding hear
on-closes (hearing.Going conn place session rest) piece going is =
    hear-closes (length (rest ++ piece)) conn place session (rest ++ piece) is
on-closes hearing.Ended piece going is = absurd cc
on-closes hearing.Lost piece going is = absurd cc

-- ---- the entries of acts

no-count : (A : Type 0) (count : ℕ) → None ≡ Some count → A
no-count A count is = absurd cc

-- an act that finds the history full ends its connection, and none opens one
record Acted (conn : ℕ) (d : Doing) : Type 0 where
  full : (count : ℕ) → d.full ≡ Some count → Among (Gone conn) d.entries
  none : (k l : ℕ) → Among (Opened k l) d.entries → ⊥

decoded-acted : (start : Start) (verdicts : Verdicts) (history : List Entry) (conn size : ℕ) (asked : Request)
    (call : Call) (full : Option ℕ) → Acted conn (on_decoded start verdicts history conn asked size call full)
decoded-acted start verdicts history conn size asked call None = record {
  full = λ count is. no-count _ count is;
  none = λ k l is. called-only k l is;
}
  where
    called-only : (k l : ℕ) → Among (Opened k l) (Called conn call (verdicts (length history)) size ∷ []) → ⊥
    called-only k l (inl here) = absurd cc
    called-only k l (inr there) = there
decoded-acted start verdicts history conn size asked call (Some count) = record {
  full = λ n is. inl refl;
  none = λ k l is. none-opened k l (conn ∷ []) is;
}

request-acted : (start : Start) (verdicts : Verdicts) (history : List Entry) (conn size : ℕ) (asked : Request)
    (r : Result Call WireError) → Acted conn (on_request start verdicts history conn asked size r)
request-acted start verdicts history conn size asked (Err e) =
    record { full = λ count is. no-count _ count is; none = λ k l is. is }
request-acted start verdicts history conn size asked (Ok call) =
    decoded-acted start verdicts history conn size asked call (call_full start history size)

act-acted : (start : Start) (verdicts : Verdicts) (history : List Entry) (conn : ℕ) (a : Act)
    → Acted conn (on_act start verdicts history conn a)
act-acted start verdicts history conn (act.Answered bytes) =
    record { full = λ count is. no-count _ count is; none = λ k l is. is }
act-acted start verdicts history conn (act.Call asked) =
    request-acted start verdicts history conn (length asked.stub) asked (call_on asked.face asked.opnum asked.stub)
act-acted start verdicts history conn (act.Closed place cause bytes) = record {
  full = λ count is. no-count _ count is;
  none = λ k l is. none-opened k l (conn ∷ []) is;
}

-- an act that is a refusal ends it too
act-closes : (start : Start) (verdicts : Verdicts) (history : List Entry) (conn : ℕ) (a : Act) → is_refusal a ≡ true
    → Among (Gone conn) (on_act start verdicts history conn a).entries
act-closes start verdicts history conn (act.Answered bytes) is = absurd cc
act-closes start verdicts history conn (act.Call asked) is = absurd cc
act-closes start verdicts history conn (act.Closed place cause bytes) is = inl refl

both-acted : (conn : ℕ) (f : Option ℕ) (first second : Doing) → first.full ≡ f → Acted conn first → Acted conn second
    → Acted conn (both_by f first second)
both-acted conn None first second is one other = record {
  full = λ count filled. among-right (Gone conn) first.entries second.entries (other.full count filled);
  none = λ k l among. elim (among-either (Opened k l) first.entries second.entries among) [
    | inl here ↦ one.none k l here
    | inr there ↦ other.none k l there
  ];
}
both-acted conn (Some n) first second is one other = one

acts-acted : (start : Start) (verdicts : Verdicts) (conn : ℕ) (as' : List Act) (history : List Entry)
    → Acted conn (on_acts start verdicts history conn as')
acts-acted start verdicts conn [] history = record { full = λ count is. no-count _ count is; none = λ k l is. is }
acts-acted start verdicts conn (a ∷ as') history =
    let first = on_act start verdicts history conn a in
    both-acted conn first.full first (on_acts start verdicts (history ++ first.entries) conn as') refl
    (act-acted start verdicts history conn a) (acts-acted start verdicts conn as' (history ++ first.entries))

-- where the acts found room, one that is a refusal has ended the connection
abbrev ClosesBy : ℕ → List Act → Doing → Type 0
ClosesBy conn as' d = list_any is_refusal as' ≡ true → d.full ≡ None → Among (Gone conn) d.entries

first-closes : (conn : ℕ) (b c : Bool) (f : Option ℕ) (first second : Doing)
    → (b ≡ true → Among (Gone conn) first.entries)
    → (c ≡ true → second.full ≡ None → Among (Gone conn) second.entries) → first.full ≡ f → (b || c) ≡ true
    → (both_by f first second).full ≡ None → Among (Gone conn) (both_by f first second).entries
first-closes conn true c None first second one other is any room =
    among-left (Gone conn) first.entries second.entries (one refl)
first-closes conn false c None first second one other is any room =
    among-right (Gone conn) first.entries second.entries (other any room)
first-closes conn b c (Some n) first second one other is any room =
    let clash : Some n ≡ None = sym is ∙ room in absurd cc

acts-close : (start : Start) (verdicts : Verdicts) (conn : ℕ) (as' : List Act) (history : List Entry)
    → ClosesBy conn as' (on_acts start verdicts history conn as')
acts-close start verdicts conn [] history any room = absurd cc
acts-close start verdicts conn (a ∷ as') history any room =
    let first = on_act start verdicts history conn a in
    first-closes conn (is_refusal a) (list_any is_refusal as') first.full first
    (on_acts start verdicts (history ++ first.entries) conn as') (act-closes start verdicts history conn a)
    (acts-close start verdicts conn as' (history ++ first.entries)) refl any room

-- ---- each line

quiet-keeps : (k : ℕ) (s : Standing) → Keep k s (quiet s.peers)
quiet-keeps k s = record { served = λ is. inl is; opened = λ l is. absurd is }

served-pushed : (i : ℕ) (peers : List Peer) (p : Peer) → is_served (slice_get peers i) ≡ true
    → is_served (slice_get (peers ++ p ∷ []) i) ≡ true
served-pushed i [] p is = absurd cc
served-pushed zero (q ∷ peers) p is = is
served-pushed (suc i) (q ∷ peers) p is = served-pushed i peers p is

conn-pushed : (k : ℕ) (peers : List Peer) (p : Peer) → is_served (peer_of k peers) ≡ true
    → is_served (peer_of k (peers ++ p ∷ [])) ≡ true
conn-pushed zero peers p is = absurd cc
conn-pushed (suc i) peers p is = served-pushed i peers p is

last-pushed : (peers : List Peer) (p : Peer) → slice_get (peers ++ p ∷ []) (length peers) ≡ Some p
last-pushed [] p = refl
last-pushed (q ∷ peers) p = last-pushed peers p

new-served : (conn : ℕ) (peers : List Peer) → conn ≡ length peers + 1
    → is_served (peer_of conn (peers ++ Open (nothing_heard conn) ∷ [])) ≡ true
new-served conn peers is =
    let next : length peers + 1 ≡ suc (length peers) = omega arith in
    let place : conn ≡ suc (length peers) = is ∙ next in
    ap (λ (n : ℕ). is_served (peer_of n (peers ++ Open (nothing_heard conn) ∷ []))) place
    ∙ ap (λ (o : Option Peer). is_served o) (last-pushed peers (Open (nothing_heard conn)))

open-keeps : (k conn listener : ℕ) (s : Standing) (full : Option ℕ) → conn ≡ length s.peers + 1
    → Keep k s (opened s conn listener full)
open-keeps k conn listener s (Some count) is = record { served = λ here. inl here; opened = λ l among. absurd among }
open-keeps k conn listener s None is = record {
  served = λ here. inl (conn-pushed k s.peers (Open (nothing_heard conn)) here);
  opened = λ l among. this l among;
}
  where
    this : (l : ℕ) → Among (Opened k l) (Opened conn listener ∷ [])
        → is_served (peer_of k (s.peers ++ Open (nothing_heard conn) ∷ [])) ≡ true
    this l (inl here) =
        let same : conn ≡ k = cc in
        subst (λ (n : ℕ). is_served (peer_of n (s.peers ++ Open (nothing_heard conn) ∷ [])) ≡ true) same
        (new-served conn s.peers is)
    this l (inr there) = absurd there

end-keeps : (k conn : ℕ) (s : Standing) (h : Hearing) → peer_of conn s.peers ≡ Some (Open h)
    → Keep k s (record { effect = gone (number_of conn (Some (Open h))); peers = with_peer conn Ended s.peers })
end-keeps k conn s h stands = record {
  served = λ here. elim (cases_eq conn k) [
    | inl same ↦
        let mine : is_served (peer_of conn s.peers) ≡ true =
        subst (λ (n : ℕ). is_served (peer_of n s.peers) ≡ true) (sym same) here in
        let going : is_served (Some (Open h)) ≡ true = ap (λ (o : Option Peer). is_served o) (sym stands) ∙ mine in
        inr (subst (λ (n : ℕ). Among (Gone n) (map (λ c. Gone c) (number_of conn (Some (Open h))))) same
        (gone-among conn (number_of conn (Some (Open h))) (number-among (is_served (Some (Open h))) conn going)))
    | inr other ↦ inl (ap (λ (o : Option Peer). is_served o) (peer-there conn k s.peers Ended other) ∙ here)
  ];
  opened = λ l among. absurd (none-opened k l (number_of conn (Some (Open h))) among);
}

-- how a connection stands after its acts
behind-keeps : (conn : ℕ) (s : Standing) (verdicts : Verdicts) (h : Hearing) (bytes : List ℕ) (full : Option ℕ)
    (b : Bool) → peer_of conn s.peers ≡ Some (Open h) → is_going h ≡ true
    → (on_acts s.start verdicts s.history conn (on h bytes).acts).full ≡ full
    → is_going (on h bytes).leaves ≡ b
    → (is_served (peer_of conn (with_peer conn (peer_behind full (on h bytes).leaves) s.peers)) ≡ true)
    ⊎ Among (Gone conn) (on_acts s.start verdicts s.history conn (on h bytes).acts).entries
behind-keeps conn s verdicts h bytes (Some count) b stands going filled leaves =
    inr ((acts-acted s.start verdicts conn (on h bytes).acts s.history).full count filled)
behind-keeps conn s verdicts h bytes None true stands going filled leaves =
    inl (ap (λ (o : Option Peer). is_served o) (peer-here conn s.peers (Open (on h bytes).leaves) (Open h) stands)
    ∙ leaves)
behind-keeps conn s verdicts h bytes None false stands going filled leaves =
    inr (acts-close s.start verdicts conn (on h bytes).acts s.history (on-closes h bytes going leaves) filled)

heard-keeps : (k conn : ℕ) (verdicts : Verdicts) (s : Standing) (bytes : List ℕ) (h : Hearing)
    → peer_of conn s.peers ≡ Some (Open h) → Keep k s (on_heard verdicts s conn bytes (on h bytes))
heard-keeps k conn verdicts s bytes h stands =
    let doing = on_acts s.start verdicts s.history conn (on h bytes).acts in
    let left = peer_behind doing.full (on h bytes).leaves in
    record {
      served = λ here. elim (cases_eq conn k) [
        | inl same ↦
            let mine : is_served (peer_of conn s.peers) ≡ true =
            subst (λ (n : ℕ). is_served (peer_of n s.peers) ≡ true) (sym same) here in
            let going : is_going h ≡ true = ap (λ (o : Option Peer). is_served o) (sym stands) ∙ mine in
            subst (λ (n : ℕ). (is_served (peer_of n (with_peer conn left s.peers)) ≡ true)
            ⊎ Among (Gone n) doing.entries) same
            (behind-keeps conn s verdicts h bytes doing.full (is_going (on h bytes).leaves) stands going refl refl)
        | inr other ↦ inl (ap (λ (o : Option Peer). is_served o) (peer-there conn k s.peers left other) ∙ here)
      ];
      opened = λ l among. absurd ((acts-acted s.start verdicts conn (on h bytes).acts s.history).none k l among);
    }

known : (k : ℕ) (s : Standing) (m n : Move) → Some m ≡ Some n → Keep k s m → Keep k s n
known k s m n is keeps = let same : m ≡ n = cc in subst (λ (x : Move). Keep k s x) same keeps

listener-keeps : (k conn : ℕ) (s : Standing) (found : Option ℕ) (m : Move) → on_listener s conn found ≡ Some m
    → Keep k s m
listener-keeps k conn s None m is = absurd cc
listener-keeps k conn s (Some listener) m is =
    let full = conns_full s.start s.history in
    let P : Bool → Type 0 = λ b. (conn == length s.peers + 1) ≡ b
    → cond b (Some (opened s conn listener full)) None ≡ Some m → Keep k s m in
    let split : (b : Bool) → P b = λ b. elim b as P [
      | true ↦ λ passes same. let first : conn ≡ length s.peers + 1 = grind (arith, nat_tests) in
          known k s (opened s conn listener full) m same (open-keeps k conn listener s full first)
      | false ↦ λ passes none. absurd cc
    ] in
    split (conn == length s.peers + 1) refl is

data-keeps : (k conn : ℕ) (verdicts : Verdicts) (s : Standing) (bytes : List ℕ) (p : Option Peer) (m : Move)
    → peer_of conn s.peers ≡ p → on_data verdicts s conn bytes p ≡ Some m → Keep k s m
data-keeps k conn verdicts s bytes None m stands is = absurd cc
data-keeps k conn verdicts s bytes (Some Ended) m stands is = absurd cc
data-keeps k conn verdicts s bytes (Some (Open h)) m stands is =
    known k s _ m is (heard-keeps k conn verdicts s bytes h stands)

ended-keeps : (k conn : ℕ) (s : Standing) (p : Option Peer) (m : Move) → peer_of conn s.peers ≡ p
    → on_end s conn p ≡ Some m → Keep k s m
ended-keeps k conn s None m stands is = absurd cc
ended-keeps k conn s (Some Ended) m stands is = absurd cc
ended-keeps k conn s (Some (Open h)) m stands is = known k s _ m is (end-keeps k conn s h stands)

event-keeps : (k : ℕ) (verdicts : Verdicts) (s : Standing) (e : Option Event) (m : Move)
    → on_event verdicts s e ≡ Some m → Keep k s m
event-keeps k verdicts s None m is = absurd cc
event-keeps k verdicts s (Some event.Nothing) m is = known k s (quiet s.peers) m is (quiet-keeps k s)
event-keeps k verdicts s (Some (event.Open conn name)) m is =
    listener-keeps k conn s (listener_from 0 name s.start.config.listeners) m is
event-keeps k verdicts s (Some (event.Data conn bytes)) m is =
    data-keeps k conn verdicts s bytes (peer_of conn s.peers) m refl is
event-keeps k verdicts s (Some (event.End conn)) m is = ended-keeps k conn s (peer_of conn s.peers) m refl is

line-keeps : (k : ℕ) (verdicts : Verdicts) (s : Standing) (line : List ℕ) (m : Move) → on_line verdicts s line ≡ Some m
    → Keep k s m
unfolding on_line
line-keeps k verdicts s line m is = event-keeps k verdicts s (event_of line) m is

-- ---- the whole

later-leaves : (k : ℕ) (s : Standing) (full : Option ℕ) (later : Standing → Trace)
    → ((next : Standing) → Leave k next (entries_of (later next).effects))
    → Leave k s (entries_of (unless_full full s later).effects)
later-leaves k s None later all = all s
later-leaves k s (Some count) later all = ending-leaves k s (HistoryFull count)

follow-leaves : (k : ℕ) (s : Standing) (n : ℕ) (move : Option Move) (later : Standing → Trace)
    → ((m : Move) → move ≡ Some m → Keep k s m)
    → ((next : Standing) → Leave k next (entries_of (later next).effects))
    → Leave k s (entries_of (follow s n move later).effects)
follow-leaves k s n None later keeps all = ending-leaves k s (EventLine n)
follow-leaves k s n (Some m) later keeps all =
    move-leaves k s m (entries_of (unless_full m.effect.full (moved s m) later).effects) (keeps m refl)
    (later-leaves k (moved s m) m.effect.full later all)

trace-leaves : (k : ℕ) (verdicts : Verdicts) (ls : List (List ℕ)) (s : Standing) (n : ℕ)
    → Leave k s (entries_of (trace_from verdicts s n ls).effects)
unfolding trace_from
trace-leaves k verdicts [] s n = ending-leaves k s Done
trace-leaves k verdicts (line ∷ ls) s n =
    follow-leaves k s n (on_line verdicts s line) (λ next. trace_from verdicts next (n + 1) ls)
    (λ m is. line-keeps k verdicts s line m is) (λ next. trace-leaves k verdicts ls next (n + 1))

-- what lines open is gone after them
pub lines-leave : (start : Start) (events : List ℕ) (history : List Entry) (k l : ℕ)
    → Among (Opened k l) (entries_of (replayed start events history).effects)
    → Among (Gone k) (entries_of (replayed start events history).effects)
lines-leave start events history k l is =
    (trace-leaves k (verdict_in history) (lines_of events) (at_start start) 1).opened l is
