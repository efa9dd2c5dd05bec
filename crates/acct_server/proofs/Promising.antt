-- What a replay and what serving promise comes to the headline.
use Rattle.std.proofs.Common.{◌≡◌, ℕ, zero, suc, ◌+◌, ◌<◌, ◌≤◌, inl, inr, Bool, true, false, List, []}
use Rattle.std.proofs.Common.{◌∷◌, ◌++◌, length, take, drop, Option, Some, None, IsSome, slice_index_or, refl, sym, ◌∙◌}
use Rattle.std.proofs.Common.{ap, subst, arith, append_assoc, length-append}
use mathlib.Core.Option.{some}
use lib.ListN.{get_elem?}
use Rattle.std.proofs.lemmas.List.{append-nil, take-append-drop, length-take-le}
use Rattle.acct_calls.specs.declared.calls.Call.{Call}
use Rattle.acct_calls.specs.declared.replies.Reply.{Reply}
use Rattle.acct_config.specs.declared.config.Config.{Config}
use Rattle.acct_links.specs.Links.{Told}
use Rattle.acct_machine.specs.Legal.{replies, calls_of, RepliesToEach}
use Rattle.acct_machine.specs.State.{Start}
use Rattle.acct_machine.specs.declared.entry.Entry.{Entry}
use Rattle.acct_machine.specs.declared.entry.Entry.TheVariants.{Opened, Gone}
use Rattle.acct_rows.specs.Rows.{Shown}
use Rattle.rpc_session.specs.Sessions.{acts, listed}
use Rattle.rpc_session.specs.declared.sessions.Act.{Act}
use Rattle.rpc_session.specs.declared.sessions.Act.TheVariants as act
use Rattle.link_sessions.specs.Sessions.{IsCutShort, IsLeftOff, IsTurnedAway, Transcript}
use Rattle.link_sessions.specs.Transcript.{IsTranscribed, written, transcript, busy, no_bytes, busy_bytes}
use Rattle.link_sessions.specs.Transcript.{decoded_calls}
use Rattle.link_sessions.specs.declared.ends.SessionEnd.{SessionEnd}
use Rattle.link_sessions.specs.declared.ends.SessionEnd.TheVariants as end
use Rattle.link_sessions.proofs.Transcripts.{decoded-then, written-then, transcript-more, request-last}
use Rattle.door_workers.specs.Doors.{DoorRun, ServesDoor, all_services, Has}
use Rattle.door_workers.specs.Services.{Service, Served as ServedLink, Serves, Unopened, IsOfConn, ServesConn, HasGone}
use Rattle.door_workers.proofs.Places.{at-behind, has-either, has-none}
use Rattle.acct_server.specs.Replaying.{found_full, received, sent as sent_by_lines}
use Rattle.acct_server.specs.Headline.{Extent, ToTheEnd, UntilFull, UntilFullCut, UntilLost, Begin, AnswersAll}
use Rattle.acct_server.specs.Headline.{AnswersUntilFull, AnswersUntilFullCut, AnswersUntilLost, AnswersBy, Headline}
use Rattle.acct_server.specs.Headlines.{extent_by, IsFarAs, ReplayComesTo, HasOpened, IsOnLink, ServeComesTo}
use Rattle.acct_server.specs.Replayed.{replayed, entries_of}
use Rattle.acct_server.specs.Replaying as replaying
use Rattle.acct_server.specs.Serving as serving
use Rattle.acct_server.specs.declared.replays.Replayed.{Replayed}
use Rattle.acct_server.specs.declared.serving.Served.{Served}
use Rattle.acct_server.proofs.Leaving.{Among, among-here, among-splits, lines-leave}

-- ---- how what was sent answers what came

-- what was sent is a part of some bytes after others, and so the first of both
begins-with : (sent before part all : List ℕ) (n : ℕ) → sent ≡ before ++ take n part → all ≡ before ++ part
    → Begin sent all
begins-with sent before part all n is whole = (
  drop n part,
  whole
      ∙ ap (λ (bs : List ℕ). before ++ bs) (sym (take-append-drop n part))
      ∙ sym (append_assoc before (take n part) (drop n part))
      ∙ ap (λ (bs : List ℕ). bs ++ drop n part) (sym is),
)

module _ (start : Start) (history : List Entry) (k : ℕ) (came sent : List ℕ) where
  answers-all : IsTranscribed start history k false came sent → AnswersAll start history k came sent
  answers-all t = record {
    transcribed = t.is;
    calls = sym (t.calls
        ∙ ap (λ (cs : List (Call × ℕ)). calls_of k history ++ cs) (t.all refl)
        ∙ append-nil (calls_of k history));
  }

  answers-until-full : IsTranscribed start history k true came sent → AnswersUntilFull start history k came sent
  answers-until-full t = record { transcribed = t.is; outside = t.outside; calls = t.calls }

  answers-until-full-cut : RepliesToEach → (n : ℕ) → IsTurnedAway start history k n came sent
      → AnswersUntilFullCut start history k came sent
  answers-until-full-cut each n t =
      let rs = replies start k history in
      let met = act.Call t.asked in
      let many : length rs ≡ length (decoded_calls t.done) =
      each start k history ∙ ap (λ (cs : List (Call × ℕ)). length cs) t.calls in
      let stops : transcript (acts k came) rs ≡ transcript t.done rs =
      ap (λ (as' : List Act). transcript as' rs) t.splits
      ∙ ap (λ (qs : List Reply). transcript (t.done ++ met ∷ t.others) qs) (sym (append-nil rs))
      ∙ written-then no_bytes t.done (met ∷ t.others) rs [] many
      ∙ ap (λ (bs : List ℕ). transcript t.done rs ++ bs)
      (request-last t.asked no_bytes t.others t.call t.decoded)
      ∙ append-nil (transcript t.done rs) in
      let fills : busy (acts k came) rs ≡ transcript t.done rs ++ busy_bytes t.asked =
      ap (λ (as' : List Act). busy as' rs) t.splits
      ∙ ap (λ (qs : List Reply). busy (t.done ++ met ∷ t.others) qs) (sym (append-nil rs))
      ∙ written-then busy_bytes t.done (met ∷ t.others) rs [] many
      ∙ ap (λ (bs : List ℕ). transcript t.done rs ++ bs)
      (request-last t.asked busy_bytes t.others t.call t.decoded) in
      record {
        transcribed = (
          take t.count (busy_bytes t.asked),
          t.written ∙ ap (λ (bs : List ℕ). bs ++ take t.count (busy_bytes t.asked)) (sym stops),
        );
        begun = begins-with sent (transcript t.done rs) (busy_bytes t.asked) (busy (acts k came) rs) t.count t.written
            fills;
        outside = decoded_calls (met ∷ t.others);
        calls =
            ap (λ (as' : List Act). decoded_calls as') t.splits
            ∙ decoded-then t.done (met ∷ t.others)
            ∙ ap (λ (cs : List (Call × ℕ)). cs ++ decoded_calls (met ∷ t.others)) (sym t.calls);
      }

  answers-cut-short : IsCutShort start history k came sent → AnswersUntilLost start history k came sent
  answers-cut-short t = record {
    whole = t.done;
    last = Some t.begun;
    others = t.others;
    splits = t.splits;
    transcribed = (take t.count t.answer, t.written);
    begun = begins-with sent (transcript t.done (replies start k history)) t.answer
        (transcript (t.done ++ t.begun ∷ []) (replies start k history)) t.count t.written t.answered;
    calls = t.calls;
  }

  answers-left-off : RepliesToEach → IsLeftOff start history k came sent → AnswersUntilLost start history k came sent
  answers-left-off each t =
      let rs = replies start k history in
      let n = length (decoded_calls t.done) in
      let many : length rs ≡ length (decoded_calls (t.done ++ listed t.begun)) =
      each start k history ∙ ap (λ (cs : List (Call × ℕ)). length cs) t.calls in
      let parts : length (decoded_calls (t.done ++ listed t.begun)) ≡ n + length (decoded_calls (listed t.begun)) =
      ap (λ (cs : List (Call × ℕ)). length cs) (decoded-then t.done (listed t.begun))
      ∙ length-append (decoded_calls t.done) (decoded_calls (listed t.begun)) in
      let enough : n ≤ length rs = omega (arith, many, parts) in
      let qs = take n rs in
      let ss = drop n rs in
      let first : length qs ≡ n = length-take-le n rs enough in
      let both : qs ++ ss ≡ rs = take-append-drop n rs in
      let more = written no_bytes (listed t.begun) ss in
      let before : transcript t.done rs ≡ transcript t.done qs =
      ap (λ (l : List Reply). transcript t.done l) (sym both) ∙ transcript-more t.done qs ss first in
      record {
        whole = t.done;
        last = t.begun;
        others = t.others;
        splits = t.splits;
        transcribed = ([], t.written ∙ sym (append-nil (transcript t.done rs)));
        begun = (
          more,
          ap (λ (l : List Reply). transcript (t.done ++ listed t.begun) l) (sym both)
              ∙ written-then no_bytes t.done (listed t.begun) qs ss first
              ∙ ap (λ (bs : List ℕ). bs ++ more) (sym (t.written ∙ before)),
        );
        calls = t.calls;
      }

  -- by how the session ended
  session-answers : RepliesToEach → (e : SessionEnd) (old new : Told)
      → Transcript e start history k came sent old new
      → (x : Extent) × IsFarAs e x old new × AnswersBy x start history k came sent
  session-answers each end.End old new t = (ToTheEnd, tt, answers-all t)
  session-answers each (end.Closed place cause) old new t = (ToTheEnd, tt, answers-all t)
  session-answers each end.ReadFault old new t = (ToTheEnd, tt, answers-all t)
  session-answers each (end.ByteLimit n) old new t = (ToTheEnd, tt, answers-all t)
  session-answers each end.WriteFault old new t = (UntilLost, tt, answers-cut-short t)
  session-answers each end.NoMemory old new t = (UntilLost, tt, answers-left-off each t)
  session-answers each (end.Full n) old new t = elim t.1 [
    | inl all ↦ (UntilFull, tt, answers-until-full all)
    | inr rose ↦ (UntilFullCut, rose, answers-until-full-cut each n t.0)
  ]

  lines-answer : (full : Bool) → IsTranscribed start history k full came sent
      → AnswersBy (extent_by full) start history k came sent
  lines-answer false t = answers-all t
  lines-answer true t = answers-until-full t

-- ---- a replay

no-opening : (A : Type 0) (opening : Option Shown) → opening ≡ None → IsSome opening → A
no-opening A opening none there =
    let no : IsSome {T = Shown} None = subst (λ (o : Option Shown). IsSome o) none there in
    absurd cc

-- what the lines opened is gone
gone-behind : (start : Start) (events : List ℕ) (history : List Entry) (k listener : ℕ)
    → history ≡ entries_of (replayed start events history).effects → HasOpened k listener history → HasGone k history
gone-behind start events history k listener entries o =
    let opens : Among (Opened k listener) history =
    subst (λ (h : List Entry). Among (Opened k listener) h) (sym o.is)
    (among-here (Opened k listener) o.before o.after) in
    let goes : Among (Gone k) (entries_of (replayed start events history).effects) =
    lines-leave start events history k listener
    (subst (λ (h : List Entry). Among (Opened k listener) h) entries opens) in
    let parts = among-splits (Gone k) history (subst (λ (h : List Entry). Among (Gone k) h) (sym entries) goes) in
    record { before = parts.0; after = parts.1; is = parts.2 }

pub replay-comes-to : {S T K : Type 0} (told : replaying.TellingReplay S T K) (old new : replaying.Parts S T K)
    (left : Replayed K) → replaying.IsReplay told old new left → IsSome left.opening
    → ReplayComesTo told old new left
replay-comes-to told old new left is there = elim is.leaves [
  | inl none ↦ no-opening (ReplayComesTo told old new left) left.opening none.opening there
  | inr has ↦
      let effects = (replayed has.start has.events left.history).effects in
      record {
        config = has.config;
        events = has.events;
        start = has.start;
        configured = has.configured;
        whole = has.whole;
        ended = has.runs.possible;
        lines = λ through. (has.runs.through through).lines;
        headline = λ through k listener o. record {
          extent = extent_by (found_full k effects);
          came = received k effects;
          sent = sent_by_lines k effects;
          happened = record { full = refl; brought = refl; printed = refl };
          answered = lines-answer has.start left.history k (received k effects) (sent_by_lines k effects)
              (found_full k effects) (has.runs.transcribes through k);
          gone = gone-behind has.start has.events left.history k listener (has.runs.through through).entries o;
          begun = has.begun;
          legal = has.runs.legal;
          denied = has.runs.denies;
          stored = has.stored;
        };
        breaks = has.runs.breaks;
        stops = has.runs.stops;
      }
]

-- ---- serving

-- a link of all doors is one of a door
record IsOfDoor {L : Type 0} (runs : List (DoorRun L)) (s : Service L) : Type 0 where
  place : ℕ
  within : place < length runs
  run : DoorRun L
  is : (r : DoorRun L) → slice_index_or runs place r ≡ run
  has : Has run.services s

of-door : {L : Type 0} (runs : List (DoorRun L)) (s : Service L) → Has (all_services runs) s → IsOfDoor runs s
of-door [] s has = absurd (has-none s has)
of-door (run ∷ runs) s has = elim (has-either run.services (all_services runs) s has) [
  | inl here ↦ record {
    place = zero;
    within = let lt : zero < length (run ∷ runs) = omega arith in lt;
    run = run;
    is = λ r. refl;
    has = here;
  }
  | inr there ↦
      let rest = of-door runs s there in
      let lt = rest.within in
      record {
        place = suc rest.place;
        within = let up : suc rest.place < length (run ∷ runs) = omega (arith, lt) in up;
        run = rest.run;
        is = rest.is;
        has = rest.has;
      }
]

module _ {D L K : Type 0} (telling : serving.TellingDoors D L K) (config : Config) (before now : List D) (keeper : K)
    (left : Served K) where
  -- what a link that served a connection shows of it
  on-link : RepliesToEach → (has : serving.HasServedDoors telling config before now keeper left) (s : ServedLink L)
      → IsOfDoor has.served.runs (Serves s)
      → ServesConn has.start config.limits.max_read s.conn s.listener s.end (telling.told s.given) (telling.told s.back)
      left.history
      → Headline config (telling.pairs keeper) (telling.pairs left.keeper) (telling.faults keeper) has.start
      left.history s.conn (IsOnLink telling config.limits.max_read before now left.history s.conn)
  on-link each has s of serves =
      let talk = serves.conversation in
      let answers = session-answers has.start left.history s.conn talk.came talk.sent each s.end (telling.told s.given)
      (telling.told s.back) talk.transcript in
      let among = of.within in
      let many = has.served.doors.count in
      let within : of.place < length now = omega (arith, among, many) in
      record {
        extent = answers.0;
        came = talk.came;
        sent = talk.sent;
        happened = record {
          place = of.place;
          within = within;
          run = of.run;
          door = λ d e. subst (λ (r : DoorRun L). ServesDoor telling.door telling.told
              (slice_index_or before of.place d) (slice_index_or now of.place e) r) (of.is of.run)
              (has.served.doors.each of.place d e of.run within);
          link = s;
          on = of.has;
          conn = refl;
          new = serves.new;
          opened = record {
            before = serves.before;
            after = talk.grows.0;
            is = talk.grows.1 ∙ append_assoc serves.before (Opened s.conn s.listener ∷ []) talk.grows.0;
          };
          reads = talk.reads;
          takes = talk.takes;
          short = talk.within;
          sends = talk.sends;
          far = answers.1;
          cause = talk.cause;
        };
        answered = answers.2;
        gone = serves.gone;
        begun = has.begun;
        legal = has.served.links.legal;
        denied = has.denies;
        stored = has.stored;
      }

  -- one of the links served the connection
  by-link : RepliesToEach → (has : serving.HasServedDoors telling config before now keeper left) (k : ℕ) (s : Service L)
      → Has (all_services has.served.runs) s → IsOfConn k s
      → Headline config (telling.pairs keeper) (telling.pairs left.keeper) (telling.faults keeper) has.start
      left.history k (IsOnLink telling config.limits.max_read before now left.history k)
  by-link each has k (Serves s) there of =
      subst (λ c. Headline config (telling.pairs keeper) (telling.pairs left.keeper) (telling.faults keeper) has.start
      left.history c (IsOnLink telling config.limits.max_read before now left.history c)) of
      (on-link each has s (of-door has.served.runs (Serves s) there) (has.served.links.each (Serves s) there))
  by-link each has k (Unopened count link) there of = absurd of

  opened-at : (k listener : ℕ) → (o : HasOpened k listener left.history)
      → get_elem? left.history (length o.before + 0) ≡ some (Opened k listener)
  opened-at k listener o =
      subst (λ (h : List Entry). get_elem? h (length o.before + 0) ≡ some (Opened k listener)) (sym o.is)
      (at-behind o.before (Opened k listener ∷ o.after) 0 (Opened k listener) refl)

  pub serve-comes-to : RepliesToEach → serving.IsServe telling config before now keeper left → IsSome left.opening
      → ServeComesTo telling config before now keeper left
  serve-comes-to each is some' = elim is.leaves [
    | inl none ↦ no-opening (ServeComesTo telling config before now keeper left) left.opening none.opening some'
    | inr has ↦ record {
      start = has.start;
      headline = λ k listener o.
          let one = has.served.links.all (length o.before + 0) k listener (opened-at k listener o) in
          by-link each has k one.0 one.1 one.2;
    }
  ]
