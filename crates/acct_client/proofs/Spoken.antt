-- A dialogue is that of the answers of its stream.
use Rattle.std.proofs.Common.{◌≡◌, ℕ, zero, suc, ◌<◌, Bool, true, false, List, [], ◌∷◌, ◌++◌, length, refl, sym, ap}
use Rattle.std.proofs.Common.{subst, ◌∙◌, arith, append_assoc, cond, Option, Some, None, Result, Ok, Err, ◌⊎◌, inl, inr}
use Rattle.std.specs.Prelude.{is_ok, is_some, unwrap_or}
use Rattle.std.proofs.lemmas.Bool.{true≢false}
use Rattle.std.proofs.lemmas.List.{append-nil}
use Rattle.acct_links.specs.Links.{Told}
use Rattle.acct_calls.specs.declared.replies.Reply.{Reply}
use Rattle.acct_calls.specs.declared.replies.Reply.TheVariants as reply
use Rattle.acct_stubs.specs.declared.errors.WireError.{WireError}
use Rattle.rpc_pdu.specs.Laws.{IsStable}
use Rattle.rpc_session.specs.Answers.{size_for}
use Rattle.client_commands.specs.declared.command.Command.{Command}
use Rattle.client_commands.specs.declared.outcomes.Outcome.{Outcome}
use Rattle.client_commands.specs.declared.outcomes.Outcome.TheVariants.{Goes, Ends, Refuses, Unfit}
use Rattle.client_commands.specs.declared.steps.Step.{Step}
use Rattle.client_commands.specs.declared.steps.Step.TheVariants.{Opening}
use Rattle.client_commands.specs.Outcomes.{after, refused_line}
use Rattle.client_commands.specs.Words.{call_of}
use Rattle.acct_client.specs.declared.answers.Answer.{Answer}
use Rattle.acct_client.specs.declared.answers.Answer.TheVariants as answer
use Rattle.acct_client.specs.declared.answers.Awaited.{Awaited}
use Rattle.acct_client.specs.declared.answers.Awaited.TheVariants.{Binding as TheBind, Reply as TheReply}
use Rattle.acct_client.specs.declared.dialogue.Progress.{Progress}
use Rattle.acct_client.specs.declared.dialogue.State.TheVariants.{Binding, Calling}
use Rattle.acct_client.specs.declared.dialogue.Talk.{Talk}
use Rattle.acct_client.specs.declared.ends.TalkEnd.{TalkEnd}
use Rattle.acct_client.specs.declared.ends.TalkEnd.TheVariants.{Done, NoMemory, PeerBytes, PeerFault, InputTooLong}
use Rattle.acct_client.specs.declared.ends.TalkEnd.TheVariants.{Refused}
use Rattle.acct_client.specs.declared.errors.AskError.TheVariants as error
use Rattle.acct_client.specs.declared.hearing.Heard.{Heard}
use Rattle.acct_client.specs.declared.hearing.Heard.TheVariants.{Waits, Answered, NoAnswer}
use Rattle.acct_client.specs.declared.hearing.Listening.{Listening}
use Rattle.acct_client.specs.Answered.{HasAnswer, HasBindAnswer, IsFitFor, HasReply, AreNext, AreReplies, PeerAnswers}
use Rattle.acct_client.specs.Answered.{Unanswered, BindRefused, BindAccepted, HasAnswers, calls_by, end_on, end_after}
use Rattle.acct_client.specs.Answered.{bytes_on, end_by, lines_of, lines_on}
use Rattle.acct_client.specs.Dialogues.{answered, awaited_of, awaits, begun, call_bytes, goes_to, joined, next_id}
use Rattle.acct_client.specs.Dialogues.{progress, refused, replied, reply_in, told, turned}
use Rattle.acct_client.specs.Hearings.{hear, listening}
use Rattle.acct_client.specs.Requests.{bind_bytes}
use Rattle.acct_client.specs.Talks.{asks, asks_on, ended_in, request, run, run_on, DialoguesAreOfAnswers}
use Rattle.acct_client.specs.Talks.{spoken, EndsBy, EndsByAnswer, IsOfAnswers, LinesBy, SendsBy, Talks, TalksByAnswers}
use Rattle.acct_client.proofs.Bringing.{Laws, meaning, bind_meaning, HearTells, BindHearTells, hear_tells}
use Rattle.acct_client.proofs.Bringing.{bind_hear_tells, answer_heard, bind_heard, HearsBind}
use Rattle.acct_client.proofs.Moving.{Advances, advances_on}
use Rattle.acct_client.proofs.Requesting.{asks_none, asks_step}
use Rattle.acct_client.proofs.Running.{run_step, stands}

-- ---- what a dialogue comes to from a point on

pub record Comes (t : Talk) (lines requests : List ℕ) (end : Option TalkEnd) : Type 0 where
  pub printed : (run t).lines ≡ lines
  pub sent : asks t ≡ requests
  pub ended : ended_in (run t).state ≡ end
  pub waits : (run t).is_awaiting ≡ true → end ≡ None

-- no answer is awaited
comes_to_rest : (t : Talk) → awaits t.state ≡ false → t.is_awaiting ≡ false → Comes t t.lines [] (ended_in t.state)
comes_to_rest t e idle = record {
  printed = ap (λ (u : Talk). u.lines) (stands t e);
  sent = asks_none t e;
  ended = ap (λ (u : Talk). ended_in u.state) (stands t e);
  waits = λ on. absurd (true≢false (sym on ∙ ap (λ (u : Talk). u.is_awaiting) (stands t e) ∙ idle));
}

-- what is heard in the bytes that are left
abbrev heard_of : Talk → Heard
heard_of t = hear (awaited_of t.state) t.left.place t.left.reply t.left.rest

heard_run : IsStable → (t : Talk) (h : Heard) → awaits t.state ≡ true → heard_of t ≡ h
    → run t ≡ run_on t (told t.state h) run
unfolding progress
heard_run stable t h is_true e =
    run_step stable t is_true
    ∙ ap (λ (x : List ℕ). run_on t (told t.state (hear (awaited_of t.state) t.left.place t.left.reply x)) run)
    (append-nil t.left.rest)
    ∙ ap (λ (x : Heard). run_on t (told t.state x) run) e

heard_asks : IsStable → (t : Talk) (h : Heard) → awaits t.state ≡ true → heard_of t ≡ h
    → asks t ≡ request t.state ++ asks_on t (told t.state h) asks
unfolding progress
heard_asks stable t h is_true e =
    asks_step stable t is_true
    ∙ ap (λ (x : List ℕ). request t.state
    ++ asks_on t (told t.state (hear (awaited_of t.state) t.left.place t.left.reply x)) asks)
    (append-nil t.left.rest)
    ∙ ap (λ (x : Heard). request t.state ++ asks_on t (told t.state x) asks) e

-- the answer is whole, and the dialogue goes on from what it does
comes_on : IsStable → (t : Talk) (h : Heard) (p : Progress) (lines requests : List ℕ) (end : Option TalkEnd)
    → awaits t.state ≡ true → heard_of t ≡ h → told t.state h ≡ p → p.is_awaiting ≡ false
    → Comes (joined t p) lines requests end → Comes t lines (request t.state ++ requests) end
comes_on stable t h p lines requests end is_true e same done c =
    let r : run t ≡ run (joined t p) =
    heard_run stable t h is_true e
    ∙ ap (λ (q : Progress). run_on t q run) same
    ∙ ap (λ (b : Bool). cond b (joined t p) (run (joined t p))) done in
    record {
      printed = ap (λ (u : Talk). u.lines) r ∙ c.printed;
      sent = heard_asks stable t h is_true e
          ∙ ap (λ (q : Progress). request t.state ++ asks_on t q asks) same
          ∙ ap (λ (b : Bool). request t.state ++ cond b [] (asks (joined t p))) done
          ∙ ap (λ (x : List ℕ). request t.state ++ x) c.sent;
      ended = ap (λ (u : Talk). ended_in u.state) r ∙ c.ended;
      waits = λ on. c.waits (sym (ap (λ (u : Talk). u.is_awaiting) r) ∙ on);
    }

-- no answer to use is heard: more is awaited, or the bytes are none
abbrev IsQuiet : Progress → Type 0
IsQuiet p = (p.printed ≡ []) × (ended_in p.state ≡ None)
    × ((p.is_awaiting ≡ true) ⊎ ((p.is_awaiting ≡ false) × (awaits p.state ≡ false)))

comes_to_quiet : IsStable → (t : Talk) (h : Heard) → awaits t.state ≡ true → heard_of t ≡ h
    → IsQuiet (told t.state h) → Comes t t.lines (request t.state) None
comes_to_quiet stable t h is_true e quiet =
    let p : Progress = told t.state h in
    let same : t.lines ++ p.printed ≡ t.lines =
    ap (λ (x : List ℕ). t.lines ++ x) quiet.0 ∙ append-nil t.lines in
    elim quiet.2 [
      | inl waiting ↦
          let r : run t ≡ joined t p = heard_run stable t h is_true e
          ∙ ap (λ (b : Bool). cond b (joined t p) (run (joined t p))) waiting in
          record {
            printed = ap (λ (u : Talk). u.lines) r ∙ same;
            sent = heard_asks stable t h is_true e
                ∙ ap (λ (b : Bool). request t.state ++ cond b [] (asks (joined t p))) waiting
                ∙ append-nil (request t.state);
            ended = ap (λ (u : Talk). ended_in u.state) r ∙ quiet.1;
            waits = λ on. refl;
          }
      | inr over ↦
          let rest = comes_to_rest (joined t p) over.1 over.0 in
          let c : Comes t (joined t p).lines (request t.state ++ []) (ended_in p.state) =
          comes_on stable t h p (joined t p).lines [] (ended_in p.state) is_true e refl over.0 rest in
          record {
            printed = c.printed ∙ same;
            sent = c.sent ∙ append-nil (request t.state);
            ended = c.ended ∙ quiet.1;
            waits = λ on. refl;
          }
    ]

-- ---- what answers do

none_is_some : {X : Type 0} {x : X} → None ≡ Some x → ⊥
none_is_some e = absurd (true≢false (sym (ap is_some e)))

abbrev status_in : {X : Type 0} → Result X ℕ → ℕ
status_in (Ok x) = 0
status_in (Err status) = status

abbrev size_in : Result ℕ ℕ → ℕ
size_in (Ok size) = size
size_in (Err status) = 0

abbrev stub_in : Result (List ℕ) ℕ → List ℕ
stub_in (Ok stub) = stub
stub_in (Err status) = []

-- a fault or a bind_nak, whatever is left
denied_call : (step : Step) (id size : ℕ) (l : Listening) (a : Answer) (status : ℕ)
    → meaning a ≡ Some (Err status)
    → answered (Calling step id size) l a ≡ refused (error.PeerFault status) status
unfolding answered
denied_call step id size l (answer.Bound recv) status m = absurd (none_is_some m)
denied_call step id size l (answer.Stub place stub) status m =
    absurd (true≢false (ap (λ (o : Option (Result (List ℕ) ℕ)). is_ok (unwrap_or o (Err 0))) m))
denied_call step id size l (answer.Fault given) status m =
    ap (λ (o : Option (Result (List ℕ) ℕ)). refused (error.PeerFault (status_in (unwrap_or o (Err 0))))
    (status_in (unwrap_or o (Err 0)))) m
denied_call step id size l answer.Nak status m =
    ap (λ (o : Option (Result (List ℕ) ℕ)). refused (error.PeerFault (status_in (unwrap_or o (Err 0))))
    (status_in (unwrap_or o (Err 0)))) m

denied_bind : (command : Command) (l : Listening) (a : Answer) (status : ℕ) → bind_meaning a ≡ Some (Err status)
    → answered (Binding command) l a ≡ refused (error.PeerFault status) status
unfolding answered
denied_bind command l (answer.Stub place stub) status m = absurd (none_is_some m)
denied_bind command l (answer.Bound recv) status m =
    absurd (true≢false (ap (λ (o : Option (Result ℕ ℕ)). is_ok (unwrap_or o (Err 0))) m))
denied_bind command l (answer.Fault given) status m =
    ap (λ (o : Option (Result ℕ ℕ)). refused (error.PeerFault (status_in (unwrap_or o (Err 0))))
    (status_in (unwrap_or o (Err 0)))) m
denied_bind command l answer.Nak status m =
    ap (λ (o : Option (Result ℕ ℕ)). refused (error.PeerFault (status_in (unwrap_or o (Err 0))))
    (status_in (unwrap_or o (Err 0)))) m

accepted_bind : (command : Command) (l : Listening) (a : Answer) (size : ℕ) → bind_meaning a ≡ Some (Ok size)
    → answered (Binding command) l a ≡ goes_to (Calling (Opening command) 2 (size_for size)) l []
unfolding answered
accepted_bind command l (answer.Stub place stub) size m = absurd (none_is_some m)
accepted_bind command l (answer.Bound recv) size m =
    ap (λ (o : Option (Result ℕ ℕ)).
    goes_to (Calling (Opening command) 2 (size_for (size_in (unwrap_or o (Ok 0))))) l []) m
accepted_bind command l (answer.Fault given) size m =
    absurd (true≢false (sym (ap (λ (o : Option (Result ℕ ℕ)). is_ok (unwrap_or o (Ok 0))) m)))
accepted_bind command l answer.Nak size m =
    absurd (true≢false (sym (ap (λ (o : Option (Result ℕ ℕ)). is_ok (unwrap_or o (Ok 0))) m)))

-- a stub that is a reply
pub record Turns (step : Step) (id size : ℕ) (l : Listening) (a : Answer) (r : Reply) : Type 0 where
  pub place : ℕ
  pub is : answered (Calling step id size) l a ≡ turned id size place l (after step r)

brings_reply : (step : Step) (id size : ℕ) (l : Listening) (a : Answer) (stub : List ℕ) (r : Reply)
    → meaning a ≡ Some (Ok stub) → reply_in (call_of step) stub ≡ Ok r → Turns step id size l a r
unfolding answered replied
brings_reply step id size l (answer.Bound recv) stub r m e = absurd (none_is_some m)
brings_reply step id size l (answer.Fault given) stub r m e =
    absurd (true≢false (sym (ap (λ (o : Option (Result (List ℕ) ℕ)). is_ok (unwrap_or o (Ok []))) m)))
brings_reply step id size l answer.Nak stub r m e =
    absurd (true≢false (sym (ap (λ (o : Option (Result (List ℕ) ℕ)). is_ok (unwrap_or o (Ok []))) m)))
brings_reply step id size l (answer.Stub place given) stub r m e = record {
  place = place;
  is = ap (λ (o : Option (Result (List ℕ) ℕ)).
      replied step id size place l (reply_in (call_of step) (stub_in (unwrap_or o (Ok []))))) m
      ∙ ap (replied step id size place l) e;
}

-- ---- either the stream has a reply that the step can use, or nothing comes of it

abbrev Replied : ℕ → Step → List ℕ → Type 0
Replied id step bytes = (r : Reply) × (rest : List ℕ) × HasReply id step r bytes rest

fit_or_quiet : (id size place : ℕ) (l : Listening) (o : Outcome) → IsFitFor o ⊎ IsQuiet (turned id size place l o)
unfolding turned
fit_or_quiet id size place l (Goes lines next) = inl tt
fit_or_quiet id size place l (Ends lines) = inl tt
fit_or_quiet id size place l (Refuses status) = inl tt
fit_or_quiet id size place l Unfit = inr (refl, refl, inr (refl, refl))

reply_or_quiet : (step : Step) (id size place : ℕ) (bytes stub : List ℕ) (l : Listening)
    (r : Result Reply WireError) → HasAnswer id None (Ok stub) bytes l.rest → reply_in (call_of step) stub ≡ r
    → Replied id step bytes ⊎ IsQuiet (replied step id size place l r)
unfolding replied turned
reply_or_quiet step id size place bytes stub l (Err e) has is = inr (refl, refl, inr (refl, refl))
reply_or_quiet step id size place bytes stub l (Ok (reply.Fault status)) has is = inr (refl, refl, inr (refl, refl))
reply_or_quiet step id size place bytes stub l (Ok (reply.Done status outs)) has is =
    elim (fit_or_quiet id size place l (after step (reply.Done status outs))) [
      | inl fit ↦ inl (reply.Done status outs, l.rest, (stub, has, is, fit))
      | inr quiet ↦ inr quiet
    ]

said_is : {X : Type 0} {x y : X} → Some x ≡ Some y → x ≡ y
said_is {X} {x} {y} e = ap (λ (o : Option X). unwrap_or o x) e

heard_or_quiet : (step : Step) (id size : ℕ) (bytes : List ℕ) (h : Heard) → HearTells id None bytes h
    → Replied id step bytes ⊎ IsQuiet (told (Calling step id size) h)
unfolding told answered
heard_or_quiet step id size bytes (Waits l) tells = inr (refl, refl, inl refl)
heard_or_quiet step id size bytes (NoAnswer at) tells = inr (refl, refl, inr (refl, refl))
heard_or_quiet step id size bytes (Answered (answer.Bound recv) l) tells = absurd (none_is_some tells.1)
heard_or_quiet step id size bytes (Answered (answer.Fault status) l) tells =
    inl (
      reply.Fault status,
      l.rest,
      subst (λ (s : Result (List ℕ) ℕ). HasAnswer id None s bytes l.rest) (sym (said_is tells.1)) tells.2,
    )
heard_or_quiet step id size bytes (Answered answer.Nak l) tells =
    inl (
      reply.Fault 0,
      l.rest,
      subst (λ (s : Result (List ℕ) ℕ). HasAnswer id None s bytes l.rest) (sym (said_is tells.1)) tells.2,
    )
heard_or_quiet step id size bytes (Answered (answer.Stub place stub) l) tells =
    reply_or_quiet step id size place bytes stub l (reply_in (call_of step) stub)
    (subst (λ (s : Result (List ℕ) ℕ). HasAnswer id None s bytes l.rest) (sym (said_is tells.1)) tells.2) refl

-- ---- what a reply of the stream does

-- the dialogue at a step, with these bytes to hear
abbrev at_step : Step → ℕ → ℕ → ℕ → Bool → List ℕ → List ℕ → Talk
at_step step id size place awaiting bytes lines = record {
  state = Calling step id size;
  is_awaiting = awaiting;
  left = listening place None bytes;
  lines = lines;
}

-- what comes of a reply, with the rest to hear after it
abbrev Does : ℕ → ℕ → Step → Reply → List ℕ → Progress → Type 0
Does id size step (reply.Fault status) rest p = p ≡ refused (error.PeerFault status) status
Does id size step (reply.Done status outs) rest p = (place : ℕ) × (at : ℕ)
    × (p ≡ turned id size place (listening at None rest) (after step (reply.Done status outs)))
    × IsFitFor (after step (reply.Done status outs))

-- it is heard, and less is left
record HearsReply (id size place : ℕ) (step : Step) (r : Reply) (bytes rest : List ℕ) : Type 0 where
  shorter : length rest < length bytes
  does : Does id size step r rest (told (Calling step id size) (hear (TheReply id) place None bytes))

shorter_rest : IsStable → (w : Awaited) (place at : ℕ) (bytes rest : List ℕ) (a : Answer)
    → hear w place None bytes ≡ Answered a (listening at None rest) → length rest < length bytes
shorter_rest stable w place at bytes rest a e =
    let here : Advances place (length bytes) (hear w place None bytes) =
    subst (λ (x : List ℕ). Advances place (length x) (hear w place None x)) (append-nil bytes)
    (advances_on stable w (listening place None bytes) []) in
    (subst (λ (h : Heard). Advances place (length bytes) h) e here).1

reply_heard : Laws → (id size place : ℕ) (step : Step) (r : Reply) (bytes rest : List ℕ)
    → HasReply id step r bytes rest → HearsReply id size place step r bytes rest
unfolding told
reply_heard laws id size place step (reply.Fault status) bytes rest has =
    let h = answer_heard laws id place bytes rest (Err status) has in
    let l : Listening = listening h.hears.at None rest in
    record {
      shorter = shorter_rest laws.stable (TheReply id) place h.hears.at bytes rest h.answer h.hears.is;
      does = ap (told (Calling step id size)) h.hears.is
          ∙ denied_call step id size l h.answer status h.means;
    }
reply_heard laws id size place step (reply.Done status outs) bytes rest has =
    let h = answer_heard laws id place bytes rest (Ok has.0) has.1 in
    let l : Listening = listening h.hears.at None rest in
    let t = brings_reply step id size l h.answer has.0 (reply.Done status outs) h.means has.2 in
    record {
      shorter = shorter_rest laws.stable (TheReply id) place h.hears.at bytes rest h.answer h.hears.is;
      does = (
        t.place,
        h.hears.at,
        ap (told (Calling step id size)) h.hears.is ∙ t.is,
        has.3,
      );
    }

-- something comes of it
loud_outcome : (id size place : ℕ) (l : Listening) (o : Outcome) → IsFitFor o → IsQuiet (turned id size place l o) → ⊥
unfolding turned
loud_outcome id size place l (Goes lines next) fit quiet = elim quiet.2 [
  | inl waiting ↦ true≢false (sym waiting)
  | inr over ↦ true≢false over.1
]
loud_outcome id size place l (Ends lines) fit quiet = none_is_some (sym quiet.1)
loud_outcome id size place l (Refuses status) fit quiet = none_is_some (sym quiet.1)
loud_outcome id size place l Unfit fit quiet = fit

loud : (id size : ℕ) (step : Step) (r : Reply) (rest : List ℕ) (p : Progress) → Does id size step r rest p
    → IsQuiet p → ⊥
loud id size step (reply.Fault status) rest p does quiet =
    none_is_some (sym (subst (λ (q : Progress). ended_in q.state ≡ None) does quiet.1))
loud id size step (reply.Done status outs) rest p does quiet =
    loud_outcome id size does.0 (listening does.1 None rest) (after step (reply.Done status outs)) does.3
    (subst IsQuiet does.2 quiet)

-- ---- the replies of a stream

-- a dialogue at the step comes to what they say, whatever was printed before
abbrev Says : ℕ → List Reply → Type 0
Says size replies = (step : Step) (id place : ℕ) (awaiting : Bool) (bytes lines : List ℕ)
    → AreReplies replies id step bytes
    → Comes (at_step step id size place awaiting bytes lines) (lines ++ lines_of replies step)
    (calls_by size replies id step) (end_after replies step)

same_lines : (t : Talk) (lines lines' requests : List ℕ) (end : Option TalkEnd) → lines ≡ lines'
    → Comes t lines requests end → Comes t lines' requests end
same_lines t lines lines' requests end e c = subst (λ (x : List ℕ). Comes t x requests end) e c

outcome_says : (size : ℕ) (replies : List Reply) → Says size replies → (o : Outcome) (t : Talk) (id place at : ℕ)
    (rest : List ℕ) → IsFitFor o → AreNext replies o (λ next. AreReplies replies (next_id id) next rest)
    → Comes (joined t (turned id size place (listening at None rest) o))
    (t.lines ++ lines_on o (λ next. lines_of replies next))
    (bytes_on o (λ next. calls_by size replies (next_id id) next)) (end_on o (λ next. end_after replies next))
unfolding turned
outcome_says size replies ih (Goes lines next) t id place at rest fit all =
    same_lines (at_step next (next_id id) size at false rest (t.lines ++ lines))
    ((t.lines ++ lines) ++ lines_of replies next) (t.lines ++ (lines ++ lines_of replies next))
    (calls_by size replies (next_id id) next) (end_after replies next)
    (append_assoc t.lines lines (lines_of replies next))
    (ih next (next_id id) at false rest (t.lines ++ lines) all)
outcome_says size replies ih (Ends lines) t id place at rest fit all =
    comes_to_rest (joined t (turned id size place (listening at None rest) (Ends lines))) refl refl
outcome_says size replies ih (Refuses status) t id place at rest fit all =
    comes_to_rest (joined t (turned id size place (listening at None rest) (Refuses status))) refl refl
outcome_says size replies ih Unfit t id place at rest fit all = absurd fit

turned_done : (id size place : ℕ) (l : Listening) (o : Outcome) → (turned id size place l o).is_awaiting ≡ false
unfolding turned
turned_done id size place l (Goes lines next) = refl
turned_done id size place l (Ends lines) = refl
turned_done id size place l (Refuses status) = refl
turned_done id size place l Unfit = refl

replies_say : Laws → (size : ℕ) (replies : List Reply) → Says size replies
unfolding AreReplies calls_by lines_of end_after
replies_say laws size [] step id place awaiting bytes lines none =
    let t : Talk = at_step step id size place awaiting bytes lines in
    let h : Heard = hear (TheReply id) place None bytes in
    elim (heard_or_quiet step id size bytes h (hear_tells laws id place bytes)) [
      | inl found ↦ absurd (none found.0 found.1 found.2)
      | inr quiet ↦ same_lines t lines (lines ++ []) (call_bytes id size (call_of step)) None
          (sym (append-nil lines)) (comes_to_quiet laws.stable t h refl refl quiet)
    ]
replies_say laws size (reply.Fault status ∷ replies) step id place awaiting bytes lines has =
    let t : Talk = at_step step id size place awaiting bytes lines in
    let p : Progress = refused (error.PeerFault status) status in
    let h = reply_heard laws id size place step (reply.Fault status) bytes has.0 has.1 in
    comes_on laws.stable t (hear (TheReply id) place None bytes) p (lines ++ refused_line status) []
    (Some (Refused status)) refl refl h.does refl (comes_to_rest (joined t p) refl refl)
replies_say laws size (reply.Done status outs ∷ replies) step id place awaiting bytes lines has =
    let t : Talk = at_step step id size place awaiting bytes lines in
    let o : Outcome = after step (reply.Done status outs) in
    let h = reply_heard laws id size place step (reply.Done status outs) bytes has.0 has.1 in
    let d : Does id size step (reply.Done status outs) has.0
    (told (Calling step id size) (hear (TheReply id) place None bytes)) = h.does in
    let l : Listening = listening d.1 None has.0 in
    comes_on laws.stable t (hear (TheReply id) place None bytes) (turned id size d.0 l o)
    (lines ++ lines_on o (λ next. lines_of replies next))
    (bytes_on o (λ next. calls_by size replies (next_id id) next)) (end_on o (λ next. end_after replies next))
    refl refl d.2 (turned_done id size d.0 l o)
    (outcome_says size replies (replies_say laws size replies) o t id d.0 d.1 has.0 d.3 has.2)

-- ---- the answers of a stream

abbrev begins_with : Command → List ℕ → Talk
begins_with command stream = record (begun command) { left = listening 0 None stream }

-- no answer to the bind is heard
abbrev IsUnheard : Heard → Type 0
IsUnheard (Waits l) = Unit {0}
IsUnheard (NoAnswer at) = Unit {0}
IsUnheard (Answered a l) = ⊥

abbrev IsBindAnswered : List ℕ → Type 0
IsBindAnswered bytes = (said : Result ℕ ℕ) × (rest : List ℕ) × HasBindAnswer said bytes rest

bind_or_unheard : (bytes : List ℕ) (h : Heard) → BindHearTells bytes h → IsBindAnswered bytes ⊎ IsUnheard h
bind_or_unheard bytes (Waits l) tells = inr tt
bind_or_unheard bytes (NoAnswer at) tells = inr tt
bind_or_unheard bytes (Answered a l) tells = inl (tells.0, l.rest, tells.2)

unheard_is_quiet : (command : Command) (h : Heard) → IsUnheard h → IsQuiet (told (Binding command) h)
unfolding told
unheard_is_quiet command (Waits l) none = (refl, refl, inl refl)
unheard_is_quiet command (NoAnswer at) none = (refl, refl, inr (refl, refl))
unheard_is_quiet command (Answered a l) none = absurd none

-- where the bind is answered so
bind_says : Laws → (command : Command) (stream rest lines requests : List ℕ) (end : Option TalkEnd)
    (said : Result ℕ ℕ) (p : ℕ → Progress)
    → ((a : Answer) (at : ℕ) → bind_meaning a ≡ Some said
    → answered (Binding command) (listening at None rest) a ≡ p at)
    → ((at : ℕ) → (p at).is_awaiting ≡ false)
    → ((at : ℕ) → Comes (joined (begins_with command stream) (p at)) lines requests end)
    → HasBindAnswer said stream rest → Comes (begins_with command stream) lines (bind_bytes ++ requests) end
unfolding told
bind_says laws command stream rest lines requests end said p is done later has =
    let h : HearsBind stream rest said = bind_heard laws stream rest said has in
    let at : ℕ = h.hears.at in
    comes_on laws.stable (begins_with command stream) (Answered h.answer (listening at None rest)) (p at) lines
    requests end refl h.hears.is (is h.answer at h.means) (done at) (later at)

answers_say : Laws → (command : Command) (stream : List ℕ) (answers : PeerAnswers)
    → HasAnswers command stream answers → IsOfAnswers command stream answers
answers_say laws command stream Unanswered none =
    let h : Heard = hear TheBind 0 None stream in
    elim (bind_or_unheard stream h (bind_hear_tells laws 0 stream)) [
      | inl found ↦ absurd (none found.0 found.1 found.2)
      | inr unheard ↦
          let c = comes_to_quiet laws.stable (begins_with command stream) h refl refl
          (unheard_is_quiet command h unheard) in
          record { lines = c.printed; requests = c.sent; end = c.ended; waits = c.waits }
    ]
answers_say laws command stream (BindRefused status) has =
    let p : Progress = refused (error.PeerFault status) status in
    let c = bind_says laws command stream has.0 (refused_line status) [] (Some (Refused status)) (Err status)
    (λ at. p) (λ a at m. denied_bind command (listening at None has.0) a status m) (λ at. refl)
    (λ at. comes_to_rest (joined (begins_with command stream) p) refl refl) has.1 in
    record { lines = c.printed; requests = c.sent ∙ append-nil bind_bytes; end = c.ended; waits = c.waits }
answers_say laws command stream (BindAccepted size replies) has =
    let c = bind_says laws command stream has.0 (lines_of replies (Opening command))
    (calls_by (size_for size) replies 2 (Opening command)) (end_after replies (Opening command)) (Ok size)
    (λ at. goes_to (Calling (Opening command) 2 (size_for size)) (listening at None has.0) [])
    (λ a at m. accepted_bind command (listening at None has.0) a size m) (λ at. refl)
    (λ at. replies_say laws (size_for size) replies (Opening command) 2 at false has.0 [] has.2) has.1 in
    record { lines = c.printed; requests = c.sent; end = c.ended; waits = c.waits }

-- ---- every stream has answers

abbrev Found : ℕ → Step → List ℕ → Type 0
Found id step bytes = (replies : List Reply) × AreReplies replies id step bytes

-- the replies after one
found_on : (o : Outcome) (id : ℕ) (rest : List ℕ)
    → ((next : Step) → Found (next_id id) next rest)
    → (replies : List Reply) × AreNext replies o (λ next. AreReplies replies (next_id id) next rest)
found_on (Goes lines next) id rest later = later next
found_on (Ends lines) id rest later = ([], refl)
found_on (Refuses status) id rest later = ([], refl)
found_on Unfit id rest later = ([], refl)

found_in : Laws → (n id : ℕ) (step : Step) (bytes : List ℕ) → length bytes < n → Found id step bytes
unfolding AreReplies
found_in laws zero id step bytes lt = absurd (omega (arith, lt))
found_in laws (suc n) id step bytes lt =
    elim (heard_or_quiet step id 0 bytes (hear (TheReply id) 0 None bytes) (hear_tells laws id 0 bytes)) [
      | inl found ↦
          let rest : List ℕ = found.1 in
          let h = reply_heard laws id 0 0 step found.0 bytes rest found.2 in
          let less = h.shorter in
          let others = found_on (after step found.0) id rest
          (λ next. found_in laws n (next_id id) next rest (omega (arith, less, lt))) in
          (found.0 ∷ others.0, (rest, found.2, others.1))
      | inr quiet ↦ (
        [],
        λ r rest has. loud id 0 step r rest (told (Calling step id 0) (hear (TheReply id) 0 None bytes))
            (reply_heard laws id 0 0 step r bytes rest has).does quiet,
      )
    ]

bind_answers : Laws → (command : Command) (stream : List ℕ) (said : Result ℕ ℕ) (rest : List ℕ)
    → HasBindAnswer said stream rest → (answers : PeerAnswers) × HasAnswers command stream answers
bind_answers laws command stream (Err status) rest has = (BindRefused status, (rest, has))
bind_answers laws command stream (Ok size) rest has =
    let found = found_in laws (suc (length rest)) 2 (Opening command) rest (omega arith) in
    (BindAccepted size found.0, (rest, has, found.1))

has_answers : Laws → (command : Command) (stream : List ℕ)
    → (answers : PeerAnswers) × HasAnswers command stream answers
has_answers laws command stream =
    let h : Heard = hear TheBind 0 None stream in
    elim (bind_or_unheard stream h (bind_hear_tells laws 0 stream)) [
      | inl found ↦ bind_answers laws command stream found.0 found.1 found.2
      | inr unheard ↦ (
        Unanswered,
        λ said rest has.
            let b = bind_heard laws stream rest said has in subst IsUnheard b.hears.is unheard,
      )
    ]

pub dialogues_are_of_answers_is : Laws → DialoguesAreOfAnswers
dialogues_are_of_answers_is laws command stream =
    let found = has_answers laws command stream in
    record { answers = found.0; has = found.1; only = λ others has. answers_say laws command stream others has }

-- ---- over a link

ends_by : (end : TalkEnd) (t : Talk) (count : ℕ) (old now : Told) (answered : Option TalkEnd)
    → ended_in t.state ≡ answered → (t.is_awaiting ≡ true → answered ≡ None) → EndsBy end t count old now
    → EndsByAnswer end answered
ends_by Done t count old now answered is waits e = sym is ∙ ap ended_in e
ends_by (Refused status) t count old now answered is waits e = elim e [
  | inl refused ↦ sym is ∙ ap ended_in refused
  | inr fault ↦ sym is ∙ ap ended_in fault
]
ends_by (PeerBytes place) t count old now answered is waits e = sym is ∙ ap ended_in e
ends_by NoMemory t count old now answered is waits e = tt
ends_by PeerFault t count old now answered is waits e = waits e.0
ends_by InputTooLong t count old now answered is waits e = waits e.0

pub by_answers : DialoguesAreOfAnswers → (command : Command) (end : TalkEnd) (old new : Told) (printed : List ℕ)
    → Talks command end old new printed → TalksByAnswers command end old new printed
by_answers law command end old new printed t =
    let all = law command t.received in
    let of = all.only all.answers all.has in
    record {
      dialogue = t;
      answers = all.answers;
      answered = all.has;
      sent = subst (λ (x : List ℕ). SendsBy end old new x) of.requests t.sent;
      lines = subst (λ (x : List ℕ). LinesBy end printed x) of.lines t.lines;
      ends = ends_by end (spoken command t.received) (length t.received) old new (end_by command all.answers) of.end
          of.waits t.ends;
    }
