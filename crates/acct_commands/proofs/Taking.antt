-- The lines of the generator are taken by a replay: each is the opening of connection 1, or data on it.
use Rattle.std.proofs.Common.{◌≡◌, ◌≢◌, ℕ, suc, ◌+◌, ◌/◌, ◌%◌, ◌<◌, ◌==◌, ◌&&◌, Bool, true, false, List, [], ◌∷◌, ◌++◌}
use Rattle.std.proofs.Common.{map, length, Option, Some, None, refl, sym, ap, ◌∙◌, subst, arith, append_assoc}
use Rattle.std.specs.Prelude.{codes, nat_lt, if◌then◌else◌}
use Rattle.std.proofs.lemmas.Bool.{eqb-true}
use Rattle.std.proofs.lemmas.Bool.Decides.{nat_tests}
use Rattle.std.proofs.lemmas.List.{append-nil, map-append}
use Rattle.hex.specs.Hex.{encode_lower, encode_with, hex_digit_value, IsBytes}
use Rattle.hex.proofs.HexLemmas.{IsDigits-lower_digits, decode_of-encode_lower}
use Rattle.acct_base.specs.Words.{decimal_of}
use Rattle.acct_machine.specs.Legal.{conns_full}
use Rattle.rpc_session.specs.Sessions.{on}
use Rattle.rpc_session.specs.declared.hearing.Hearing.{Hearing}
use Rattle.link_sessions.specs.Connections.{nothing_heard}
use Rattle.link_sessions.specs.declared.connections.Peer.{Peer}
use Rattle.link_sessions.specs.declared.connections.Peer.TheVariants.{Open}
use Rattle.acct_server.specs.Events.{lines_of, begins_with_feed, first_line, event_of, number_of, brings, of_command}
use Rattle.acct_server.specs.Events.{of_two}
use Rattle.acct_server.specs.Replayed.{Standing, Move, Trace, Verdicts, moved, peer_of, with_peer, peer_behind, opened}
use Rattle.acct_server.specs.Replayed.{on_event, on_data, on_heard, on_line, on_listener, follow}
use Rattle.acct_server.specs.Replayed.{unless_full, trace_from, at_start, verdict_in}
use Rattle.acct_server.specs.declared.events.Event.{Event}
use Rattle.acct_server.specs.declared.events.Event.TheVariants as event
use Rattle.acct_server.specs.declared.status.Status.TheVariants.{EventLine}
use Rattle.acct_commands.specs.Generated.{data_line}
use Rattle.acct_commands.specs.Generating.{AreAccepted}
use Rattle.acct_commands.specs.steps.Taken.{data_text, AreBytes, AreTaken}

-- ---- the lines of a text

-- no byte of it is a line feed or a carriage return
abbrev IsPlain : List ℕ → Type 0
IsPlain [] = Unit {0}
IsPlain (b ∷ bytes) = ((b == 10) ≡ false) × ((b == 13) ≡ false) × IsPlain bytes

chosen : (f c x : Bool) (A B C : List (List ℕ)) → f ≡ false → c ≡ false
    → (if f then A else (if c && x then B else C)) ≡ C
chosen false false x A B C p q = refl
chosen true c x A B C p q = absurd cc
chosen false true x A B C p q = absurd cc

-- a plain text and a line feed are one line
line-of : (text rest : List ℕ) → IsPlain text → lines_of (text ++ 10 ∷ rest) ≡ text ∷ lines_of rest
line-of [] rest plain = refl
line-of (b ∷ text) rest (feed, carriage, plain) =
    let later : List ℕ = text ++ 10 ∷ rest in
    chosen (b == 10) (b == 13) (begins_with_feed later) ([] ∷ lines_of later) (lines_of later)
    (first_line b (lines_of later)) feed carriage
    ∙ ap (λ (ls : List (List ℕ)). first_line b ls) (line-of text rest plain)

-- a hexadecimal digit isn't a byte that is none
no-digit : (x : Bool) (c b d : ℕ) → (c == b) ≡ x → hex_digit_value b ≡ None → hex_digit_value c ≡ Some d → x ≡ false
no-digit false c b d is none some = refl
no-digit true c b d is none some =
    let same : c ≡ b = eqb-true c b is in
    let clash : None ≡ Some d = sym none ∙ sym (ap (λ (n : ℕ). hex_digit_value n) same) ∙ some in
    absurd cc

plain-digits : (bytes : List ℕ) → IsBytes bytes → IsPlain (encode_lower bytes)
unfolding encode_with
plain-digits [] are = tt
plain-digits (b ∷ bytes) are =
    let fits : b < 256 = are 0 in
    let high = IsDigits-lower_digits (b / 16) (omega arith) in
    let low = IsDigits-lower_digits (b % 16) (omega arith) in (
      no-digit _ _ 10 (b / 16) refl refl high,
      no-digit _ _ 13 (b / 16) refl refl high,
      (
        no-digit _ _ 10 (b % 16) refl refl low,
        no-digit _ _ 13 (b % 16) refl refl low,
        plain-digits bytes (λ k. are (suc k)),
      ),
    )

plain-text : (bytes : List ℕ) → IsBytes bytes → IsPlain (data_text bytes)
plain-text bytes are =
    let digits : IsPlain (encode_lower bytes) = plain-digits bytes are in
    (refl, refl, (refl, refl, (refl, refl, (refl, refl, (refl, refl, (refl, refl, (refl, refl, digits)))))))

-- ---- what the generator's lines are

pub taken-begins : (lines : List ℕ) → lines ≡ codes "open 1 a" ++ 10 ∷ [] → AreTaken lines
taken-begins lines is = record {
  brought = [];
  bytes = tt;
  parts = λ rest. ap (λ (l : List ℕ). lines_of (l ++ rest)) is;
}

bytes-push : (all : List (List ℕ)) (bytes : List ℕ) → AreBytes all → IsBytes bytes → AreBytes (all ++ bytes ∷ [])
bytes-push [] bytes are is = (is, tt)
bytes-push (first ∷ all) bytes are is = (are.0, bytes-push all bytes are.1 is)

pub taken-more : (lines longer bytes : List ℕ) → AreTaken lines → IsBytes bytes → longer ≡ lines ++ data_line bytes
    → AreTaken longer
unfolding data_line
taken-more lines longer bytes taken are is =
    let opens : List ℕ = codes "open 1 a" in
    let before : List (List ℕ) = map data_text taken.brought in
    record {
      brought = taken.brought ++ bytes ∷ [];
      bytes = bytes-push taken.brought bytes taken.bytes are;
      parts = λ rest. ap (λ (l : List ℕ). lines_of (l ++ rest)) is
          ∙ ap (λ (l : List ℕ). lines_of l) (append_assoc lines (data_text bytes ++ 10 ∷ []) rest)
          ∙ taken.parts ((data_text bytes ++ 10 ∷ []) ++ rest)
          ∙ ap (λ (l : List ℕ). opens ∷ before ++ lines_of l) (append_assoc (data_text bytes) (10 ∷ []) rest)
          ∙ ap (λ (ls : List (List ℕ)). opens ∷ before ++ ls)
          (line-of (data_text bytes) rest (plain-text bytes are))
          ∙ sym (ap (λ (ls : List (List ℕ)). opens ∷ ls ++ lines_of rest)
          (map-append data_text taken.brought (bytes ∷ []))
          ∙ ap (λ (ls : List (List ℕ)). opens ∷ ls)
          (append_assoc before (data_text bytes ∷ []) (lines_of rest)));
    }

-- ---- what they say

by-test : {A : Type 0} (test : Bool) (x : A) → test ≡ true → (if test then Some x else None) ≡ Some x
by-test true x is = refl
by-test false x is = absurd cc

opening-says : event_of (codes "open 1 a") ≡ Some (event.Open 1 (codes "a"))
unfolding event_of number_of decimal_of
opening-says = refl

data-says : (bytes : List ℕ) → IsBytes bytes → event_of (data_text bytes) ≡ Some (event.Data 1 bytes)
unfolding event_of number_of decimal_of
data-says bytes are =
    let digits : List ℕ = encode_lower bytes in
    let long : nat_lt 4 (length (data_text bytes)) ≡ true = grind (arith, nat_tests) in
    let short : nat_lt 1 (length (codes "1 " ++ digits)) ≡ true = grind (arith, nat_tests) in
    ap (λ (o : Option (List ℕ × List ℕ)). of_command o)
    (by-test (nat_lt 4 (length (data_text bytes))) (codes "data", codes "1 " ++ digits) long)
    ∙ ap (λ (o : Option (List ℕ × List ℕ)). of_two (codes "data") o)
    (by-test (nat_lt 1 (length (codes "1 " ++ digits))) (codes "1", digits) short)
    ∙ ap (λ r. brings (Some 1) r) (decode_of-encode_lower bytes are)

-- ---- what they do

data-moves : (verdicts : Verdicts) (s : Standing) (h : Hearing) (bytes : List ℕ) → s.peers ≡ Open h ∷ []
    → IsBytes bytes → on_line verdicts s (data_text bytes) ≡ Some (on_heard verdicts s 1 bytes (on h bytes))
unfolding on_line
data-moves verdicts s h bytes peers are =
    ap (λ (e : Option Event). on_event verdicts s e) (data-says bytes are)
    ∙ ap (λ (ps : List Peer). on_data verdicts s 1 bytes (peer_of 1 ps)) peers

-- no line of a trace is refused
abbrev NoneRefused : Trace → Type 0
NoneRefused t = (m : ℕ) → t.status ≢ EventLine m

unless-full : (full : Option ℕ) (after : Standing) (later : Standing → Trace) → (full ≡ None → NoneRefused (later after))
    → NoneRefused (unless_full full after later)
unless-full None after later goes = goes refl
unless-full (Some count) after later goes = λ m is. absurd cc

follows : (s : Standing) (n : ℕ) (o : Option Move) (move : Move) (later : Standing → Trace) → o ≡ Some move
    → (move.effect.full ≡ None → NoneRefused (later (moved s move))) → NoneRefused (follow s n o later)
follows s n o move later is goes =
    subst (λ (x : Option Move). NoneRefused (follow s n x later)) (sym is)
    (unless-full move.effect.full (moved s move) later goes)

data-refused : (verdicts : Verdicts) (s : Standing) (h : Hearing) (n : ℕ) (all : List (List ℕ)) → AreBytes all
    → s.peers ≡ Open h ∷ [] → NoneRefused (trace_from verdicts s n (map data_text all))
unfolding trace_from
data-refused verdicts s h n [] are peers = λ m is. absurd cc
data-refused verdicts s h n (bytes ∷ all) are peers =
    let heard = on h bytes in
    let move : Move = on_heard verdicts s 1 bytes heard in
    follows s n (on_line verdicts s (data_text bytes)) move
    (λ after. trace_from verdicts after (n + 1) (map data_text all)) (data-moves verdicts s h bytes peers are.0)
    (λ full. data-refused verdicts (moved s move) heard.leaves (n + 1) all are.1
    (ap (λ (f : Option ℕ). with_peer 1 (peer_behind f heard.leaves) s.peers) full
    ∙ ap (λ (ps : List Peer). with_peer 1 (Open heard.leaves) ps) peers))

opened-peers : (s : Standing) (conn listener : ℕ) (o : Option ℕ) → (opened s conn listener o).effect.full ≡ None
    → (opened s conn listener o).peers ≡ s.peers ++ Open (nothing_heard conn) ∷ []
opened-peers s conn listener None full = refl
opened-peers s conn listener (Some count) full = absurd cc

-- all lines, where the configuration has the listener
pub accepted : (lines : List ℕ) → AreTaken lines → AreAccepted lines
unfolding trace_from on_line
accepted lines taken start history listener found =
    let verdicts = verdict_in history in
    let s : Standing = at_start start in
    let full = conns_full start [] in
    let move : Move = opened s 1 listener full in
    let texts : List (List ℕ) = map data_text taken.brought in
    let parts : lines_of lines ≡ codes "open 1 a" ∷ texts =
    sym (ap (λ (l : List ℕ). lines_of l) (append-nil lines)) ∙ taken.parts []
    ∙ ap (λ (ls : List (List ℕ)). codes "open 1 a" ∷ ls) (append-nil texts) in
    let moves : on_line verdicts s (codes "open 1 a") ≡ Some move =
    ap (λ (e : Option Event). on_event verdicts s e) opening-says
    ∙ ap (λ (o : Option ℕ). on_listener s 1 o) found in
    subst (λ (ls : List (List ℕ)). NoneRefused (trace_from verdicts s 1 ls)) (sym parts)
    (follows s 1 (on_line verdicts s (codes "open 1 a")) move (λ after. trace_from verdicts after 2 texts) moves
    (λ none. data-refused verdicts (moved s move) (nothing_heard 1) 2 taken.brought taken.bytes
    (opened-peers s 1 listener full none)))
