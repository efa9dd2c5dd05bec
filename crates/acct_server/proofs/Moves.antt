-- What a run does is the move of its line.
use Rattle.std.proofs.Common.{◌≡◌, ℕ, ◌+◌, ◌==◌, true, List, [], ◌∷◌, ◌++◌, length, map, Option, Some, None}
use Rattle.std.proofs.Common.{Result, Ok, Err, refl, sym, ◌∙◌, ap, subst, arith, append_assoc, slice_get, IfOk, inl}
use Rattle.std.proofs.Common.{inr}
use Rattle.std.proofs.lemmas.Bool.Decides.{nat_tests}
use Rattle.std.proofs.lemmas.List.{append-nil}
use Rattle.std.proofs.lemmas.List.Concat.{flat_map-append}
use Rattle.std.specs.List.{flat_map}
use Rattle.acct_machine.specs.State.{Start}
use Rattle.acct_calls.specs.declared.calls.Call.{Call}
use Rattle.acct_machine.specs.declared.entry.Entry.{Entry}
use Rattle.acct_machine.specs.declared.entry.Entry.TheVariants.{Opened, Called, Gone}
use Rattle.acct_machine.specs.declared.entry.Verdict.{Verdict}
use Rattle.acct_machine.specs.Machine.{with_entry, SameLive}
use Rattle.acct_machine.specs.State.{State}
use Rattle.acct_machine.specs.Shown.{Past}
use Rattle.acct_machine.specs.Step.{acted, state_at}
use Rattle.acct_machine.specs.Legal.{conns_full, call_full}
use Rattle.rpc_session.specs.declared.sessions.Act.{Act}
use Rattle.rpc_session.specs.declared.sessions.Act.TheVariants as act
use Rattle.rpc_session.specs.declared.hearing.Hearing.{Hearing}
use Rattle.rpc_session.specs.Sessions.{on}
use Rattle.acct_server.specs.declared.events.Event.{Event}
use Rattle.acct_server.specs.declared.events.Event.TheVariants as event
use Rattle.link_sessions.specs.declared.connections.Peer.{Peer}
use Rattle.link_sessions.specs.declared.connections.Peer.TheVariants.{Open, Ended}
use Rattle.acct_stubs.specs.declared.errors.WireError.{WireError}
use Rattle.rpc_session.specs.declared.sessions.Request.{Request}
use Rattle.link_sessions.specs.Transcript.{answer_bytes, undecoded_bytes, busy_bytes}
use Rattle.link_sessions.specs.Answering.{EntersCall, AnswersCall, AnswersBy, BeginsRequest, FindsFull}
use Rattle.acct_server.specs.Replayed.{Standing, Move, Doing, Verdicts, Printed, Out, IsGone, on_listener}
use Rattle.link_sessions.specs.Connections.{nothing_heard}
use Rattle.acct_server.specs.Replayed.{on_open, listener_from, gone, number_of, peer_of, with_peer}
use Rattle.acct_server.specs.Replayed.{line_bytes, on_end, on_event, quiet, on_heard, on_data, on_act, on_acts}
use Rattle.acct_server.specs.Replayed.{on_request, on_call, prints_only, both, both_by, peer_behind, verdict_in}
use Rattle.acct_server.specs.Replayed.{verdict_of, FoundFull, full_line, opened, on_decoded, on_full}
use Rattle.acct_server.specs.steps.Running.{Running, standing, Ties, DoesActs, Began, Hears, DoesLine, Refuses, MayStop}
use Rattle.acct_server.specs.steps.Running.{peers_behind}
use Rattle.acct_server.proofs.Room.{both-open, both-full, both-entries, others_by}
use Rattle.acct_server.proofs.Placing.{with-other}

-- the move of an opening
abbrev opening : Standing → ℕ → ℕ → Move
opening s conn listener = record {
  effect = record { entries = Opened conn listener ∷ []; brings = []; prints = []; full = None };
  peers =
      s.peers ++ Open (nothing_heard conn) ∷ [];
}

-- the move of one that finds the history full
abbrev unopened : Standing → ℕ → ℕ → Move
unopened s conn count = record {
  effect = record { entries = []; brings = []; prints = FoundFull conn ∷ []; full = Some count };
  peers = s.peers;
}

opens : (s : Standing) (conn listener : ℕ) (found full : Option ℕ) → found ≡ Some listener
    → conn ≡ length s.peers + 1 → conns_full s.start s.history ≡ full
    → on_listener s conn found ≡ Some (opened s conn listener full)
opens s conn listener found full is next room =
    let passes : (conn == length s.peers + 1) ≡ true = grind (arith, nat_tests) in
    rw (is, passes) (ap (λ (o : Option ℕ). Some (opened s conn listener o)) room)

pub open-does : (old new : Running) (conn given listener : ℕ) (name output : List ℕ)
    → listener_from 0 name old.machine.start.config.listeners ≡ Some listener → conn ≡ length old.peers + 1
    → given ≡ conn → conns_full old.machine.start old.machine.history ≡ None
    → new.machine ≡ with_entry old.machine (Opened given listener)
    → new.peers ≡ old.peers ++ Open (nothing_heard conn) ∷ [] → output ≡ []
    → DoesLine (λ verdicts. on_open (standing old) conn name) old output None new
open-does old new conn given listener name output found next same room machine peers printed = record {
  move = opening (standing old) conn listener;
  full = refl;
  is = λ later. opens (standing old) conn listener (listener_from 0 name old.machine.start.config.listeners) None found
      next room;
  history = ap (λ (m : Past). m.history) machine ∙ ap (λ (n : ℕ). old.machine.history ++ Opened n listener ∷ []) same;
  peers = peers;
  start = ap (λ (m : Past). m.start) machine;
  prints = printed;
}

-- an opening that finds the history full changes nothing
pub open-full : (old new : Running) (conn listener count : ℕ) (name output : List ℕ)
    → listener_from 0 name old.machine.start.config.listeners ≡ Some listener → conn ≡ length old.peers + 1
    → conns_full old.machine.start old.machine.history ≡ Some count → new ≡ old → output ≡ full_line conn
    → DoesLine (λ verdicts. on_open (standing old) conn name) old output (Some count) new
open-full old new conn listener count name output found next full same printed = record {
  move = unopened (standing old) conn count;
  full = refl;
  is = λ later. opens (standing old) conn listener (listener_from 0 name old.machine.start.config.listeners)
      (Some count) found next full;
  history = ap (λ (r : Running). r.machine.history) same ∙ sym (append-nil old.machine.history);
  peers = ap (λ (r : Running). r.peers) same;
  start = ap (λ (r : Running). r.machine.start) same;
  prints = printed ∙ sym (append-nil (full_line conn));
}

-- ---- acts

-- an act that makes no entry
pub prints-act : (what : Verdicts → Doing) (before now : List Entry) (lines : List Printed)
    (old_lines new_lines : List ℕ) → ((verdicts : Verdicts) → what verdicts ≡ prints_only lines) → now ≡ before
    → new_lines ≡ old_lines ++ flat_map line_bytes lines → DoesActs what before now old_lines new_lines None
prints-act what before now lines old_lines new_lines is same printed = record {
  doing = prints_only lines;
  full = refl;
  is = λ later. is (verdict_in (now ++ later));
  history = same ∙ sym (append-nil before);
  prints = printed;
}

-- a request that is no decoded call was answered
undecoded-acts : (start : Start) (before now : List Entry) (conn : ℕ) (asked : Request) (stub_size : ℕ) (e : WireError)
    (old_lines new_lines : List ℕ) → now ≡ before
    → new_lines ≡ old_lines ++ line_bytes (Out conn (undecoded_bytes asked e))
    → DoesActs (λ verdicts. on_request start verdicts before conn asked stub_size (Err e)) before now old_lines
    new_lines
    None
undecoded-acts start before now conn asked stub_size e old_lines new_lines same printed =
    prints-act (λ verdicts. on_request start verdicts before conn asked stub_size (Err e)) before now
    (Out conn (undecoded_bytes asked e) ∷ []) old_lines new_lines
    (λ verdicts. refl) same (printed ∙ ap (λ (bs : List ℕ). old_lines ++ bs) (sym (append-nil _)))

-- bytes were answered without a call
answered-acts : (start : Start) (before : List Entry) (conn : ℕ) (bytes old_lines new_lines : List ℕ)
    → new_lines ≡ old_lines ++ line_bytes (Out conn bytes)
    → DoesActs (λ verdicts. on_act start verdicts before conn (act.Answered bytes)) before before old_lines new_lines
    None
answered-acts start before conn bytes old_lines new_lines printed =
    prints-act (λ verdicts. on_act start verdicts before conn (act.Answered bytes)) before before (Out conn bytes ∷ [])
    old_lines new_lines (λ verdicts. refl) refl
    (printed ∙ ap (λ (bs : List ℕ). old_lines ++ bs) (sym (append-nil _)))

-- no act was done yet
pub none-done : (start : Start) (conn : ℕ) (before : List Entry) (lines : List ℕ) → lines ≡ []
    → DoesActs (λ verdicts. on_acts start verdicts before conn []) before before [] lines None
none-done start conn before lines none =
    record { doing = prints_only []; full = refl; is = λ later. refl; history = sym (append-nil before); prints = none }

-- memory ran out before any entry
pub begins-none : (what : Verdicts → Doing) (before now : List Entry) → now ≡ before → Began what before now
begins-none what before now same = record {
  front = [];
  history = same ∙ sym (append-nil before);
  others = λ later. (what (verdict_in (now ++ later))).entries;
  begins = λ later. refl;
}

-- a verdict in its history
slice_get-here : (history later : List Entry) (e : Entry) → slice_get ((history ++ e ∷ []) ++ later) (length history)
    ≡ Some e
slice_get-here [] later e = refl
slice_get-here (a ∷ history) later e = slice_get-here history later e

-- what a call does that was entered
call-is : (start : Start) (before now later : List Entry) (conn : ℕ) (asked : Request) (stub_size : ℕ) (call : Call)
    (verdict : Verdict) → call_full start before stub_size ≡ None → now ≡ before ++ Called conn call verdict
    stub_size ∷ []
    → on_request start (verdict_in (now ++ later)) before conn asked stub_size (Ok call)
    ≡ on_call start before conn asked stub_size call verdict
call-is start before now later conn asked stub_size call verdict taken is =
    ap (λ (o : Option ℕ). on_decoded start (verdict_in (now ++ later)) before conn asked stub_size call o) taken ∙ (
    let at : verdict_in (now ++ later) (length before) ≡ verdict =
    ap (λ (h : List Entry). verdict_in (h ++ later) (length before)) is
    ∙ ap (λ (o : Option Entry). verdict_of o) (slice_get-here before later (Called conn call verdict stub_size)) in
    ap (λ (v : Verdict). on_call start before conn asked stub_size call v) at)

-- the machine as a gate finds just its history
abbrev pub Only : List Entry → List Entry → Type 0
Only before found = found ≡ before

-- the entry of a call stands
enters-here : (start : Start) (before now : List Entry) (conn : ℕ) (call : Call) (stub_size : ℕ)
    → (enters : EntersCall start conn (Only before) now call stub_size)
    → now ≡ before ++ Called conn call enters.verdict stub_size ∷ []
enters-here start before now conn call stub_size enters =
    enters.entered ∙ ap (λ (h : List Entry). h ++ Called conn call enters.verdict stub_size ∷ []) enters.finds_it

-- the history takes it
taken-here : (start : Start) (before now : List Entry) (conn : ℕ) (call : Call) (stub_size : ℕ)
    → EntersCall start conn (Only before) now call stub_size → call_full start before stub_size ≡ None
taken-here start before now conn call stub_size enters =
    subst (λ (h : List Entry). call_full start h stub_size ≡ None) enters.finds_it enters.taken

call-began : (start : Start) (before now : List Entry) (conn : ℕ) (asked : Request) (stub_size : ℕ) (call : Call)
    → EntersCall start conn (Only before) now call stub_size
    → Began (λ verdicts. on_request start verdicts before conn asked stub_size (Ok call)) before now
call-began start before now conn asked stub_size call enters =
    let history = enters-here start before now conn call stub_size enters in record {
      front = Called conn call enters.verdict stub_size ∷ [];
      history = history;
      others = λ later. [];
      begins = λ later. ap (λ (d : Doing). d.entries)
          (call-is start before now later conn asked stub_size call enters.verdict
          (taken-here start before now conn call stub_size enters) history);
    }

-- a request was begun on the machine
pub request-began : (start : Start) (before now : List Entry) (conn : ℕ) (asked : Request) (stub_size : ℕ)
    (r : Result Call WireError) → BeginsRequest start conn (Only before) before now stub_size r
    → Began (λ verdicts. on_request start verdicts before conn asked stub_size r) before now
request-began start before now conn asked stub_size (Err e) same =
    begins-none (λ verdicts. on_request start verdicts before conn asked stub_size (Err e)) before now same
request-began start before now conn asked stub_size (Ok call) (inl same) =
    begins-none (λ verdicts. on_request start verdicts before conn asked stub_size (Ok call)) before now same
request-began start before now conn asked stub_size (Ok call) (inr enters) =
    call-began start before now conn asked stub_size call enters

-- one that was answered has begun
pub answered-began : (start : Start) (before now : List Entry) (conn : ℕ) (asked : Request) (stub_size : ℕ)
    (r : Result Call WireError) (bytes : List ℕ)
    → AnswersBy start conn (Only before) before now asked stub_size r bytes
    → BeginsRequest start conn (Only before) before now stub_size r
answered-began start before now conn asked stub_size (Err e) bytes answers = answers.0
answered-began start before now conn asked stub_size (Ok call) bytes answers = inr answers.enters

-- a call was answered
call-acts : (start : Start) (before now : List Entry) (conn : ℕ) (asked : Request) (stub_size : ℕ) (call : Call)
    (bytes old_lines new_lines : List ℕ) → AnswersCall start conn (Only before) now asked stub_size call bytes
    → new_lines ≡ old_lines ++ line_bytes (Out conn bytes)
    → DoesActs (λ verdicts. on_request start verdicts before conn asked stub_size (Ok call)) before now old_lines
    new_lines
    None
call-acts start before now conn asked stub_size call bytes old_lines new_lines answers printed =
    let enters = answers.enters in
    let history = enters-here start before now conn call stub_size enters in record {
      doing = on_call start before conn asked stub_size call enters.verdict;
      full = refl;
      is = λ later. call-is start before now later conn asked stub_size call enters.verdict
          (taken-here start before now conn call stub_size enters) history;
      history = history;
      prints =
          printed
          ∙ ap (λ (bs : List ℕ). old_lines ++ line_bytes (Out conn bs))
          (answers.bytes_are ∙ ap (λ (h : List Entry). answer_bytes asked call.face call.opnum
          (acted (state_at start h) conn call enters.verdict).1) enters.finds_it)
          ∙ ap (λ (bs : List ℕ). old_lines ++ bs) (sym (append-nil _));
    }

-- a request was answered on the machine
pub request-acts : (start : Start) (before now : List Entry) (conn : ℕ) (asked : Request) (stub_size : ℕ)
    (r : Result Call WireError) (bytes old_lines new_lines : List ℕ)
    → AnswersBy start conn (Only before) before now asked stub_size r bytes
    → new_lines ≡ old_lines ++ line_bytes (Out conn bytes)
    → DoesActs (λ verdicts. on_request start verdicts before conn asked stub_size r) before now old_lines new_lines None
request-acts start before now conn asked stub_size (Err e) bytes old_lines new_lines answers printed =
    undecoded-acts start before now conn asked stub_size e old_lines new_lines answers.0
    (printed ∙ ap (λ (bs : List ℕ). old_lines ++ line_bytes (Out conn bs)) answers.1)
request-acts start before now conn asked stub_size (Ok call) bytes old_lines new_lines answers printed =
    call-acts start before now conn asked stub_size call bytes old_lines new_lines answers printed

-- a call found the history full, and its connection is gone
pub request-fills : (start : Start) (before mid : List Entry) (conn : ℕ) (asked : Request) (stub_size : ℕ)
    (call : Call) (count : ℕ) (old_lines new_lines : List ℕ) → FindsFull start (Only before) mid stub_size count
    → new_lines ≡ old_lines ++ line_bytes (Out conn (busy_bytes asked))
    → DoesActs (λ verdicts. on_request start verdicts before conn asked stub_size (Ok call)) before
    (mid ++ Gone conn ∷ []) old_lines (new_lines ++ line_bytes (FoundFull conn)) (Some count)
request-fills start before mid conn asked stub_size call count old_lines new_lines finds printed =
    let out = line_bytes (Out conn (busy_bytes asked)) in
    let full : call_full start before stub_size ≡ Some count =
    subst (λ (h : List Entry). call_full start h stub_size ≡ Some count) finds.finds_it finds.full in record {
      doing = on_full conn asked count;
      full = refl;
      is = λ later. ap (λ (o : Option ℕ). on_decoded start (verdict_in ((mid ++ Gone conn ∷ []) ++ later)) before conn
          asked stub_size call o) full;
      history = ap (λ (h : List Entry). h ++ Gone conn ∷ []) finds.finds_it;
      prints = ap (λ (bs : List ℕ). bs ++ line_bytes (FoundFull conn)) printed
          ∙ append_assoc old_lines out (line_bytes (FoundFull conn))
          ∙ ap (λ (bs : List ℕ). old_lines ++ (out ++ bs)) (sym (append-nil (line_bytes (FoundFull conn))));
    }

-- the same connections are live after it
pub same-live : (start : Start) (before now : List Entry) → now ≡ before
    → SameLive (state_at start before) (state_at start now)
same-live start before now same =
    subst (λ (h : List Entry). SameLive (state_at start before) (state_at start h)) (sym same)
    (record { lives = λ k. refl; count = refl })

pub request-live : (start : Start) (before now : List Entry) (conn stub_size : ℕ) (r : Result Call WireError)
    → BeginsRequest start conn (Only before) before now stub_size r
    → SameLive (state_at start before) (state_at start now)
request-live start before now conn stub_size (Err e) same = same-live start before now same
request-live start before now conn stub_size (Ok call) (inl same) = same-live start before now same
request-live start before now conn stub_size (Ok call) (inr enters) =
    subst (λ (h : List Entry). SameLive (state_at start h) (state_at start now)) enters.finds_it enters.live

pub ties-live : (peers : List Peer) (old new : State) → Ties peers old → SameLive old new → Ties peers new
ties-live peers old new ties live = record {
  count = live.count ∙ ties.count;
  bounded = ties.bounded;
  lives = λ conn served. live.lives conn ∙ ties.lives conn served;
}

-- what one act does by whatever entries the history goes on, and then the acts behind it
acts-both : (start : Start) (conn : ℕ) (x : Act) (xs : List Act) (before mid now : List Entry) (d : Doing)
    → ((later : List Entry) → on_act start (verdict_in (mid ++ later)) before conn x ≡ d)
    → mid ≡ before ++ d.entries → d.full ≡ None → (more : List Entry) → now ≡ mid ++ more → (later : List Entry)
    → on_acts start (verdict_in (now ++ later)) before conn (x ∷ xs)
    ≡ both_by None d (on_acts start (verdict_in (now ++ later)) mid conn xs)
acts-both start conn x xs before mid now d is stands room more longer later =
    let v = verdict_in (now ++ later) in
    let first : on_act start v before conn x ≡ d =
    subst (λ (h : List Entry). on_act start (verdict_in h) before conn x ≡ d)
    (sym (ap (λ (h : List Entry). h ++ later) longer ∙ append_assoc mid more later)) (is (more ++ later)) in
    ap (λ (e : Doing). both e (on_acts start v (before ++ e.entries) conn xs)) first
    ∙ ap (λ (h : List Entry). both d (on_acts start v h conn xs)) (sym stands)
    ∙ both-open d (on_acts start v mid conn xs) room

-- an act was done, and then those after it
pub acts-before : (start : Start) (conn : ℕ) (x : Act) (xs : List Act) (before mid now : List Entry)
    (old_lines mid_lines new_lines : List ℕ) (found : Option ℕ)
    → DoesActs (λ verdicts. on_act start verdicts before conn x) before mid old_lines mid_lines None
    → DoesActs (λ verdicts. on_acts start verdicts mid conn xs) mid now mid_lines new_lines found
    → DoesActs (λ verdicts. on_acts start verdicts before conn (x ∷ xs)) before now old_lines new_lines found
acts-before start conn x xs before mid now old_lines mid_lines new_lines found one others = record {
  doing = both_by None one.doing others.doing;
  full = others.full;
  is = λ later. acts-both start conn x xs before mid now one.doing one.is one.history one.full others.doing.entries
      others.history later ∙ ap (λ (d : Doing). both_by None one.doing d) (others.is later);
  history = others.history ∙ ap (λ (h : List Entry). h ++ others.doing.entries) one.history
      ∙ append_assoc before one.doing.entries others.doing.entries;
  prints =
      others.prints
      ∙ ap (λ (bs : List ℕ). bs ++ flat_map line_bytes others.doing.prints) one.prints
      ∙ append_assoc old_lines (flat_map line_bytes one.doing.prints) (flat_map line_bytes others.doing.prints)
      ∙ ap (λ (bs : List ℕ). old_lines ++ bs) (sym (flat_map-append line_bytes one.doing.prints others.doing.prints));
}

-- one found the history full: those after it aren't done
pub acts-full : (start : Start) (conn : ℕ) (x : Act) (xs : List Act) (before now : List Entry)
    (old_lines new_lines : List ℕ) (count : ℕ)
    → DoesActs (λ verdicts. on_act start verdicts before conn x) before now old_lines new_lines (Some count)
    → DoesActs (λ verdicts. on_acts start verdicts before conn (x ∷ xs)) before now old_lines new_lines (Some count)
acts-full start conn x xs before now old_lines new_lines count one = record {
  doing = one.doing;
  full = one.full;
  is = λ later.
      let v = verdict_in (now ++ later) in
      ap (λ (d : Doing). both d (on_acts start v (before ++ d.entries) conn xs)) (one.is later)
      ∙ both-full one.doing (on_acts start v (before ++ one.doing.entries) conn xs) count one.full;
  history = one.history;
  prints = one.prints;
}

-- memory ran out after an act
pub began-before : (start : Start) (conn : ℕ) (x : Act) (xs : List Act) (before mid now : List Entry)
    (old_lines mid_lines : List ℕ)
    → DoesActs (λ verdicts. on_act start verdicts before conn x) before mid old_lines mid_lines None
    → Began (λ verdicts. on_acts start verdicts mid conn xs) mid now
    → Began (λ verdicts. on_acts start verdicts before conn (x ∷ xs)) before now
began-before start conn x xs before mid now old_lines mid_lines one began = record {
  front = one.doing.entries ++ began.front;
  history = began.history ∙ ap (λ (h : List Entry). h ++ began.front) one.history
      ∙ append_assoc before one.doing.entries began.front;
  others = began.others;
  begins = λ later.
      ap (λ (d : Doing). d.entries) (acts-both start conn x xs before mid now one.doing one.is one.history one.full
      began.front began.history later)
      ∙ ap (λ (es : List Entry). one.doing.entries ++ es) (began.begins later)
      ∙ sym (append_assoc one.doing.entries began.front (began.others later));
}

-- and at an act
pub began-at : (start : Start) (conn : ℕ) (x : Act) (xs : List Act) (before now : List Entry)
    → Began (λ verdicts. on_act start verdicts before conn x) before now
    → Began (λ verdicts. on_acts start verdicts before conn (x ∷ xs)) before now
began-at start conn x xs before now began =
    let first = λ (later : List Entry). on_act start (verdict_in (now ++ later)) before conn x in
    let rest = λ (later : List Entry). on_acts start (verdict_in (now ++ later)) (before ++ (first later).entries) conn
    xs in
    let behind = λ (later : List Entry). others_by (first later).full (rest later) in record {
      front = began.front;
      history = began.history;
      others = λ later. began.others later ++ behind later;
      begins = λ later.
          both-entries (first later).full (first later) (rest later)
          ∙ ap (λ (es : List Entry). es ++ behind later) (began.begins later)
          ∙ append_assoc began.front (began.others later) (behind later);
    }

-- ---- lines

-- the move of bytes that were heard, once their acts were done
-- the connections after bytes that were heard
behind-heard : (found : Option ℕ) (conn : ℕ) (leaves : Hearing) (peers : List Peer)
    → peers_behind found conn (with_peer conn (Open leaves) peers) ≡ with_peer conn (peer_behind found leaves) peers
behind-heard None conn leaves peers = refl
behind-heard (Some count) conn leaves peers = with-other conn peers (Open leaves) Ended

pub data-does : (old mid new : Running) (conn : ℕ) (bytes output : List ℕ) (as' : List Act) (found : Option ℕ)
    → Hears conn bytes old as' mid
    → DoesActs (λ verdicts. on_acts mid.machine.start verdicts mid.machine.history conn as')
    mid.machine.history new.machine.history [] output found
    → new.peers ≡ peers_behind found conn mid.peers → new.machine.start ≡ mid.machine.start
    → DoesLine (λ verdicts. on_data verdicts (standing old) conn bytes (peer_of conn old.peers)) old output found new
data-does old mid new conn bytes output as' found hears done peers start =
    let heard = on hears.hearing bytes in
    let machine : mid.machine ≡ old.machine = ap (λ (r : Running). r.machine) hears.left in
    let same : mid.machine.history ≡ old.machine.history = ap (λ (m : Past). m.history) machine in
    let d = done.doing in
    let is : (later : List Entry) → on_acts old.machine.start (verdict_in (new.machine.history ++ later))
    old.machine.history conn heard.acts ≡ d =
    λ later. ap (λ (m : Past). on_acts m.start (verdict_in (new.machine.history ++ later)) m.history conn heard.acts)
    (sym machine) ∙ ap (λ (x : List Act). on_acts mid.machine.start (verdict_in (new.machine.history ++ later))
    mid.machine.history conn x) (sym hears.completed) ∙ done.is later in
    record {
      move = record {
        effect = record { entries = d.entries; brings = (conn, bytes) ∷ []; prints = d.prints; full = d.full };
        peers = with_peer conn (peer_behind d.full heard.leaves) old.peers;
      };
      full = done.full;
      is = λ later.
          ap (λ (p : Option Peer). on_data (verdict_in (new.machine.history ++ later)) (standing old) conn bytes p)
          hears.stood
          ∙ ap (λ (x : Doing). Some (record {
            effect = record { entries = x.entries; brings = (conn, bytes) ∷ []; prints = x.prints; full = x.full };
            peers = with_peer conn (peer_behind x.full heard.leaves) old.peers;
          })) (is later);
      history = done.history ∙ ap (λ (h : List Entry). h ++ d.entries) same;
      peers =
          peers ∙ ap (λ (r : Running). peers_behind found conn r.peers) hears.left
          ∙ behind-heard found conn heard.leaves old.peers
          ∙ ap (λ (o : Option ℕ). with_peer conn (peer_behind o heard.leaves) old.peers) (sym done.full);
      start = start ∙ ap (λ (r : Running). r.machine.start) hears.left;
      prints = done.prints;
    }

pub data-stops : (old mid new : Running) (conn : ℕ) (bytes : List ℕ) (as' : List Act) → Hears conn bytes old as' mid
    → Began (λ verdicts. on_acts mid.machine.start verdicts mid.machine.history conn as') mid.machine.history
    new.machine.history
    → MayStop (λ verdicts. on_data verdicts (standing old) conn bytes (peer_of conn old.peers)) old new
data-stops old mid new conn bytes as' hears began =
    let heard = on hears.hearing bytes in
    let machine : mid.machine ≡ old.machine = ap (λ (r : Running). r.machine) hears.left in
    let same : mid.machine.history ≡ old.machine.history = ap (λ (m : Past). m.history) machine in
    inr (record {
      front = began.front;
      history = began.history ∙ ap (λ (h : List Entry). h ++ began.front) same;
      move = λ later. on_heard (verdict_in (new.machine.history ++ later)) (standing old) conn bytes heard;
      is = λ later. ap (λ (p : Option Peer). on_data (verdict_in (new.machine.history ++ later)) (standing old) conn
          bytes p) hears.stood;
      others = began.others;
      begins = λ later.
          ap (λ (m : Past). (on_acts m.start (verdict_in (new.machine.history ++ later)) m.history conn
          heard.acts).entries) (sym machine)
          ∙ ap (λ (x : List Act). (on_acts mid.machine.start (verdict_in (new.machine.history ++ later))
          mid.machine.history conn x).entries) (sym hears.completed)
          ∙ began.begins later;
    })

-- the move of an end
pub end-does : (old new : Running) (conn : ℕ) (h : Hearing) (output : List ℕ) → peer_of conn old.peers ≡ Some (Open h)
    → new.machine.history ≡ old.machine.history ++ map Gone (number_of conn (Some (Open h)))
    → new.machine.start ≡ old.machine.start
    → new.peers ≡ with_peer conn Ended old.peers
    → output ≡ flat_map line_bytes (map IsGone (number_of conn (Some (Open h))))
    → DoesLine (λ verdicts. on_end (standing old) conn (peer_of conn old.peers)) old output None new
end-does old new conn h output stands history start peers printed = record {
  move = record { effect = gone (number_of conn (Some (Open h))); peers = with_peer conn Ended old.peers };
  full = refl;
  is = λ later. ap (λ (o : Option Peer). on_end (standing old) conn o) stands;
  history = history;
  peers = peers;
  start = start;
  prints = printed;
}

-- the move of a line that says nothing
pub nothing-does : (run : Running) (e : Event) (output : List ℕ) → e ≡ event.Nothing → output ≡ []
    → DoesLine (λ verdicts. on_event verdicts (standing run) (Some e)) run output None run
nothing-does run e output is printed = record {
  move = quiet run.peers;
  full = refl;
  is = λ later. ap (λ (x : Event). on_event (verdict_in (run.machine.history ++ later)) (standing run) (Some x)) is;
  history = sym (append-nil run.machine.history);
  peers = refl;
  start = refl;
  prints = printed;
}

-- the clauses of an event, by what the event is
pub event-does : {O E : Type 0} (items : O → List ℕ) (found : O → Option ℕ) (old new : Running) (e known : Event)
    (r : Result O E) → e ≡ known
    → IfOk r (λ (o : O). DoesLine (λ verdicts. on_event verdicts (standing old) (Some known)) old (items o) (found o)
    new)
    → IfOk r (λ (o : O). DoesLine (λ verdicts. on_event verdicts (standing old) (Some e)) old (items o) (found o) new)
event-does items found old new e known r is does =
    subst (λ (x : Event). IfOk r
    (λ o. DoesLine (λ verdicts. on_event verdicts (standing old) (Some x)) old (items o) (found o) new)) (sym is) does

pub event-refuses : (old new : Running) (e known : Event) (P : Type 0) → e ≡ known
    → (P → Refuses (λ verdicts. on_event verdicts (standing old) (Some known)) old new)
    → P → Refuses (λ verdicts. on_event verdicts (standing old) (Some e)) old new
event-refuses old new e known P is refuses p =
    subst (λ (x : Event). Refuses (λ verdicts. on_event verdicts (standing old) (Some x)) old new) (sym is) (refuses p)

pub event-stops : (old new : Running) (e known : Event) (P : Type 0) → e ≡ known
    → (P → MayStop (λ verdicts. on_event verdicts (standing old) (Some known)) old new)
    → P → MayStop (λ verdicts. on_event verdicts (standing old) (Some e)) old new
event-stops old new e known P is stops p =
    subst (λ (x : Event). MayStop (λ verdicts. on_event verdicts (standing old) (Some x)) old new) (sym is) (stops p)
