-- A server's replies are heard, and their lines are printed.
use Rattle.std.proofs.Common.{◌≡◌, ℕ, zero, suc, ◌+◌, ◌≤◌, ◌==◌, Bool, true, false, ◌&&◌, List, [], ◌∷◌, ◌++◌}
use Rattle.std.proofs.Common.{length, drop, min, refl, sym, ap, subst, ◌∙◌, arith, append_assoc, length-append, cond}
use Rattle.std.proofs.Common.{Option, Some}
use Rattle.std.proofs.Common.{None, Result, Ok, All}
use Rattle.std.proofs.Math.Seq.{drop-append_seam}
use Rattle.std.proofs.lemmas.Bool.{eq-eqb, le-ltb}
use Rattle.std.proofs.lemmas.List.{append-nil}
use Rattle.std.specs.List.{concat}
use Rattle.acct_codes.specs.Limits.{least_fragment, most_stub}
use Rattle.acct_calls.specs.declared.calls.Face.{Face}
use Rattle.acct_calls.specs.declared.calls.Face.TheVariants.{Samr, Lsa}
use Rattle.acct_calls.specs.declared.replies.Reply.{Reply}
use Rattle.acct_calls.specs.declared.replies.Reply.TheVariants as reply
use Rattle.acct_layouts.specs.ReplyShapes.{HasShape}
use Rattle.acct_stubs.specs.Replies.{reply_at, spell_reply, IsReplyReadAgain}
use Rattle.acct_stubs.specs.declared.errors.WireError.{WireError}
use Rattle.rpc_pdu.specs.declared.pdus.Outcome.{Outcome}
use Rattle.rpc_pdu.specs.declared.pdus.Pdu.TheVariants as pdu
use Rattle.rpc_pdu.specs.Laws.{IsStable, AreReadBack}
use Rattle.rpc_pdu.specs.Written.{written, IsWholeOutcome}
use Rattle.rpc_session.specs.Answers.{first_flag, fault_bytes, reply_bytes, response, responses, RepliesBringStubs}
use Rattle.rpc_session.specs.Answers.{size_for}
use Rattle.samr_wire.specs.Interface.{samr}
use Rattle.lsa_wire.specs.Interface.{lsa}
use Rattle.client_commands.specs.declared.outcomes.Outcome.{Outcome as Brought}
use Rattle.client_commands.specs.declared.outcomes.Outcome.TheVariants.{Goes as Onward, Ends, Refuses, Unfit}
use Rattle.client_commands.specs.declared.steps.Step.{Step}
use Rattle.client_commands.specs.declared.steps.Step.TheVariants.{Opening}
use Rattle.client_commands.specs.Outcomes.{after}
use Rattle.client_commands.specs.Words.{call_of}
use Rattle.acct_client.specs.declared.answers.Answer.{Answer}
use Rattle.acct_client.specs.declared.answers.Answer.TheVariants as answer
use Rattle.acct_client.specs.declared.answers.Awaited.TheVariants.{Binding as TheBind, Reply as TheReply}
use Rattle.acct_client.specs.declared.answers.PartialReply.{PartialReply}
use Rattle.acct_client.specs.declared.answers.Turn.{Turn}
use Rattle.acct_client.specs.declared.answers.Turn.TheVariants.{Goes, Gives, Wrong}
use Rattle.acct_client.specs.declared.dialogue.State.TheVariants.{Calling}
use Rattle.acct_client.specs.declared.dialogue.Talk.{Talk}
use Rattle.acct_client.specs.declared.hearing.Heard.{Heard}
use Rattle.acct_client.specs.declared.hearing.Heard.TheVariants.{Waits, Answered}
use Rattle.acct_client.specs.declared.hearing.Listening.{Listening}
use Rattle.acct_client.specs.Hearings.{gathers, responds, hear, hear_in, heard_next, listening, next_of, stepped}
use Rattle.acct_client.specs.Dialogues.{answered, awaited_of, awaits, begun, joined, next_id, progress, replied}
use Rattle.acct_client.specs.Dialogues.{reply_in, told, turned, wire_of}
use Rattle.acct_client.specs.Requests.{context_of}
use Rattle.acct_client.specs.Talks.{run, run_on}
use Rattle.acct_client.specs.Answered.{bytes_on, lines_of, lines_on}
use Rattle.acct_client.specs.Served.{accepted, bytes_of, stub_of, AreAnswers, AreOn, PrintsReplies}
use Rattle.acct_client.proofs.Cutting.{on_gives, on_goes}
use Rattle.acct_client.proofs.Running.{answered_done, on_done, run_step, stands}

abbrev Gathered : Type 0
Gathered = Option PartialReply

-- ---- one PDU

-- what is gathered of a reply whose next response begins at this place
abbrev so_far : ℕ → Gathered → PartialReply
so_far place None = record { place = place; stub = [] }
so_far place (Some g) = g

abbrev is_first : Gathered → Bool
is_first None = true
is_first (Some g) = false

abbrev with_part : PartialReply → List ℕ → PartialReply
with_part g part = record { place = g.place; stub = g.stub ++ part }

goes_part : (place : ℕ) (part : List ℕ) (g : Gathered)
    → responds place (first_flag (is_first g)) part g ≡ gathers (first_flag (is_first g))
    (with_part (so_far place g) part)
goes_part place part None = refl
goes_part place part (Some g) = refl

last_part : (place : ℕ) (part : List ℕ) (g : Gathered)
    → responds place (first_flag (is_first g) + 2) part g
    ≡ gathers (first_flag (is_first g) + 2) (with_part (so_far place g) part)
last_part place part None = refl
last_part place part (Some g) = refl

gathers_goes : (first : Bool) (g : PartialReply) → length g.stub ≤ most_stub
    → gathers (first_flag first) g ≡ Goes (Some g)
gathers_goes true g few = ap (λ (b : Bool). cond b Wrong (Goes (Some g))) (le-ltb most_stub (length g.stub) few)
gathers_goes false g few = ap (λ (b : Bool). cond b Wrong (Goes (Some g))) (le-ltb most_stub (length g.stub) few)

gathers_gives : (first : Bool) (g : PartialReply) → length g.stub ≤ most_stub
    → gathers (first_flag first + 2) g ≡ Gives (answer.Stub g.place g.stub)
gathers_gives true g few =
    ap (λ (b : Bool). cond b Wrong (Gives (answer.Stub g.place g.stub))) (le-ltb most_stub (length g.stub) few)
gathers_gives false g few =
    ap (λ (b : Bool). cond b Wrong (Gives (answer.Stub g.place g.stub))) (le-ltb most_stub (length g.stub) few)

response_next : AreReadBack → (id context flags left place : ℕ) (part more : List ℕ) (g : Gathered) (turn : Turn)
    → responds place flags part g ≡ turn
    → heard_next (TheReply id) place g (response id context flags left part ++ more)
    ≡ stepped place (24 + length part) turn
unfolding heard_next response
response_next back id context flags left place part more g turn e =
    ap (next_of (TheReply id) place g)
    ((back (pdu.Response id flags context (min left 0xFFFFFFFF) part) tt).back tt more)
    ∙ ap (λ (b : Bool). stepped place (24 + length part) (cond b (responds place flags part g) Wrong))
    (eq-eqb id id refl)
    ∙ ap (stepped place (24 + length part)) e

response_length : AreReadBack → (id context flags left : ℕ) (part : List ℕ)
    → length (response id context flags left part) ≡ 24 + length part
unfolding response
response_length back id context flags left part =
    (back (pdu.Response id flags context (min left 0xFFFFFFFF) part) tt).size

-- what stands after bytes of a known length
behind : (front more : List ℕ) (size : ℕ) → length front ≡ size → drop size (front ++ more) ≡ more
behind front more size long = ap (λ (n : ℕ). drop n (front ++ more)) (sym long) ∙ drop-append_seam front more

-- ---- whole answers

parts_heard : IsStable → AreReadBack → (id context : ℕ) (others : List (List ℕ)) (part : List ℕ) (g : Gathered)
    (place : ℕ) (more : List ℕ)
    → length ((so_far place g).stub ++ concat (part ∷ others)) ≤ most_stub
    → hear (TheReply id) place g (responses id context (is_first g) (part ∷ others) ++ more)
    ≡ Answered (answer.Stub (so_far place g).place ((so_far place g).stub ++ concat (part ∷ others)))
    (listening (place + length (responses id context (is_first g) (part ∷ others))) None more)
parts_heard stable back id context [] part g place more few =
    let before : List ℕ = (so_far place g).stub in
    let flags : ℕ = first_flag (is_first g) + 2 in
    let r : List ℕ = response id context flags (length part) part in
    let p : PartialReply = with_part (so_far place g) part in
    let all : concat (part ∷ []) ≡ part = append-nil part in
    let long : length r ≡ 24 + length part = response_length back id context flags (length part) part in
    let short : length p.stub ≤ most_stub = subst (λ (x : List ℕ). length (before ++ x) ≤ most_stub) all few in
    on_gives stable (TheReply id) place g (r ++ more) (answer.Stub p.place p.stub) (24 + length part)
    (response_next back id context flags (length part) place part more g (Gives (answer.Stub p.place p.stub))
    (last_part place part g ∙ gathers_gives (is_first g) p short))
    ∙ ap (λ (x : List ℕ). Answered (answer.Stub p.place p.stub) (listening (place + (24 + length part)) None x))
    (behind r more (24 + length part) long)
    ∙ ap (λ (n : ℕ). Answered (answer.Stub p.place p.stub) (listening (place + n) None more)) (sym long)
    ∙ ap (λ (x : List ℕ). Answered (answer.Stub p.place (before ++ x)) (listening (place + length r) None more))
    (sym all)
parts_heard stable back id context (next ∷ others) part g place more few =
    let before : List ℕ = (so_far place g).stub in
    let flags : ℕ = first_flag (is_first g) in
    let tail : List ℕ = concat (next ∷ others) in
    let left : ℕ = length (concat (part ∷ next ∷ others)) in
    let r : List ℕ = response id context flags left part in
    let rest : List ℕ = responses id context false (next ∷ others) in
    let p : PartialReply = with_part (so_far place g) part in
    let whole : (before ++ part) ++ tail ≡ before ++ (part ++ tail) = append_assoc before part tail in
    let few' : length ((before ++ part) ++ tail) ≤ most_stub =
    subst (λ (x : List ℕ). length x ≤ most_stub) (sym whole) few in
    let both = length-append (before ++ part) tail in
    let short : length p.stub ≤ most_stub = omega (arith, few', both) in
    let long : length r ≡ 24 + length part = response_length back id context flags left part in
    let sum = length-append r rest in
    let there : (place + (24 + length part)) + length rest ≡ place + length (r ++ rest) = omega (arith, long, sum) in
    ap (hear (TheReply id) place g) (append_assoc r rest more)
    ∙ on_goes stable (TheReply id) place g (Some p) (r ++ (rest ++ more)) (24 + length part)
    (response_next back id context flags left place part (rest ++ more) g (Goes (Some p))
    (goes_part place part g ∙ gathers_goes (is_first g) p short))
    ∙ ap (hear (TheReply id) (place + (24 + length part)) (Some p)) (behind r (rest ++ more) (24 + length part) long)
    ∙ parts_heard stable back id context others next (Some p) (place + (24 + length part)) more few'
    ∙ ap (λ (x : List ℕ). Answered (answer.Stub p.place x)
    (listening ((place + (24 + length part)) + length rest) None more)) whole
    ∙ ap (λ (n : ℕ). Answered (answer.Stub p.place (before ++ (part ++ tail))) (listening n None more)) there

reply_heard : IsStable → AreReadBack → RepliesBringStubs → (id context size place : ℕ) (stub more : List ℕ)
    → least_fragment ≤ size → length stub ≤ most_stub
    → hear (TheReply id) place None (reply_bytes id context size stub ++ more)
    ≡ Answered (answer.Stub place stub) (listening (place + length (reply_bytes id context size stub)) None more)
reply_heard stable back brings id context size place stub more low few =
    let b = brings id context size stub low in
    ap (λ (x : List ℕ). hear (TheReply id) place None (x ++ more)) b.bytes_are
    ∙ parts_heard stable back id context b.others b.part None place more
    (subst (λ (x : List ℕ). length x ≤ most_stub) (sym b.joined) few)
    ∙ ap (λ (x : List ℕ). Answered (answer.Stub place x)
    (listening (place + length (responses id context true (b.part ∷ b.others))) None more)) b.joined
    ∙ ap (λ (x : List ℕ). Answered (answer.Stub place stub) (listening (place + length x) None more)) (sym b.bytes_are)

fault_heard : IsStable → AreReadBack → (id context status place : ℕ) (more : List ℕ)
    → hear (TheReply id) place None (fault_bytes id context status ++ more)
    ≡ Answered (answer.Fault status) (listening (place + 32) None more)
unfolding heard_next fault_bytes
fault_heard stable back id context status place more =
    let w : List ℕ = written (pdu.Fault id context status) in
    let read = back (pdu.Fault id context status) tt in
    on_gives stable (TheReply id) place None (w ++ more) (answer.Fault status) 32
    (ap (next_of (TheReply id) place None) (read.back tt more))
    ∙ ap (λ (x : List ℕ). Answered (answer.Fault status) (listening (place + 32) None x)) (behind w more 32 read.size)

two : {X : Type 0} (P : X → Type 0) (x y : X) → P x → P y → All P (x ∷ y ∷ [])
two P x y p q zero d h = p
two P x y p q (suc zero) d h = q
two P x y p q (suc (suc k)) d h = absurd (omega arith)

both_zero : (first second : Outcome) → first.result ≡ 0 → second.result ≡ 0
    → ((first.result == 0) && (second.result == 0)) ≡ true
both_zero first second is is' =
    (λ i. (first.result == 0) && (eq-eqb second.result 0 is' i))
    ∙ (λ i. (eq-eqb first.result 0 is i) && true)

bound_heard : IsStable → AreReadBack → (xmit recv group : ℕ) (first second : Outcome) (more : List ℕ)
    → first.result ≡ 0 → second.result ≡ 0 → IsWholeOutcome first → IsWholeOutcome second
    → hear TheBind 0 None (accepted xmit recv group first second ++ more)
    ≡ Answered (answer.Bound recv) (listening 80 None more)
unfolding heard_next
bound_heard stable back xmit recv group first second more is is' whole whole' =
    let p = pdu.BindAck 1 xmit recv group (first ∷ second ∷ []) in
    let read = back p (two IsWholeOutcome first second whole whole') in
    on_gives stable TheBind 0 None (written p ++ more) (answer.Bound recv) 80
    (ap (next_of TheBind 0 None) (read.back tt more)
    ∙ ap (λ (b : Bool). stepped 0 80 (cond b (Gives (answer.Bound recv)) Wrong)) (both_zero first second is is'))
    ∙ ap (λ (x : List ℕ). Answered (answer.Bound recv) (listening 80 None x)) (behind (written p) more 80 read.size)

-- ---- a dialogue goes on after an answer that stands at the beginning

abbrev Lines : Talk → List ℕ
Lines t = t.lines

heard_run : IsStable → (t : Talk) (h : Heard) → awaits t.state ≡ true
    → hear (awaited_of t.state) t.left.place t.left.reply t.left.rest ≡ h → run t ≡ run_on t (told t.state h) run
unfolding progress
heard_run stable t h is_true e =
    run_step stable t is_true
    ∙ ap (λ (x : List ℕ). run_on t (told t.state (hear (awaited_of t.state) t.left.place t.left.reply x)) run)
    (append-nil t.left.rest)
    ∙ ap (λ (x : Heard). run_on t (told t.state x) run) e

answered_run : IsStable → (t : Talk) (a : Answer) (l : Listening) → awaits t.state ≡ true
    → hear (awaited_of t.state) t.left.place t.left.reply t.left.rest ≡ Answered a l
    → run t ≡ run (joined t (answered t.state l a))
unfolding told
answered_run stable t a l is_true e =
    heard_run stable t (Answered a l) is_true e
    ∙ on_done t (answered t.state l a) run (answered_done t.state l a)

-- what the proofs stand on
pub record Laws : Type 0 where
  pub stable : IsStable
  pub back : AreReadBack
  pub brings : RepliesBringStubs
  pub samr_again : IsReplyReadAgain samr
  pub lsa_again : IsReplyReadAgain lsa

read_again : Laws → (face : Face) (opnum : ℕ) (r : Reply) → HasShape face opnum r
    → reply_at (wire_of face) opnum (spell_reply (wire_of face) opnum r) ≡ Ok r
read_again laws Samr opnum r shape =
    ap (reply_at samr opnum) (sym (append-nil (spell_reply samr opnum r))) ∙ (laws.samr_again opnum r [] shape).1
read_again laws Lsa opnum r shape =
    ap (reply_at lsa opnum) (sym (append-nil (spell_reply lsa opnum r))) ∙ (laws.lsa_again opnum r [] shape).1

-- the dialogue at a step, with these bytes to hear
abbrev calling : Step → ℕ → ℕ → ℕ → Bool → List ℕ → List ℕ → Talk
calling step id recv place awaiting bytes lines = record {
  state = Calling step id recv;
  is_awaiting = awaiting;
  left = listening place None bytes;
  lines = lines;
}

abbrev later_bytes : ℕ → List Reply → ℕ → Brought → List ℕ
later_bytes size replies id o = bytes_on o (λ next. bytes_of size replies (next_id id) next)

-- the lines of replies are printed, whichever step they begin at
abbrev Prints : ℕ → ℕ → List Reply → Type 0
Prints size recv replies = (step : Step) (id place : ℕ) (awaiting : Bool) (lines : List ℕ) → AreAnswers replies step
    → Lines (run (calling step id recv place awaiting (bytes_of size replies id step) lines))
    ≡ lines ++ lines_of replies step

brought : (size recv : ℕ) (replies : List Reply) → Prints size recv replies → (o : Brought) (t : Talk)
    (id place at : ℕ) → AreOn o (λ next. AreAnswers replies next)
    → Lines (run (joined t (turned id recv at (listening place None (later_bytes size replies id o)) o)))
    ≡ t.lines ++ lines_on o (λ next. lines_of replies next)
unfolding turned
brought size recv replies ih (Onward lines next) t id place at all =
    ih next (next_id id) place false (t.lines ++ lines) all ∙ append_assoc t.lines lines (lines_of replies next)
brought size recv replies ih (Ends lines) t id place at all =
    ap Lines (stands (joined t (turned id recv at (listening place None []) (Ends lines))) refl)
brought size recv replies ih (Refuses status) t id place at all =
    ap Lines (stands (joined t (turned id recv at (listening place None []) (Refuses status))) refl)
brought size recv replies ih Unfit t id place at all =
    ap Lines (stands (joined t (turned id recv at (listening place None []) Unfit)) refl)

replied_is : Laws → (step : Step) (id recv at : ℕ) (l : Listening) (r : Reply)
    → HasShape (call_of step).face (call_of step).opnum r
    → replied step id recv at l (reply_in (call_of step) (stub_of (call_of step) r))
    ≡ turned id recv at l (after step r)
unfolding replied reply_in
replied_is laws step id recv at l r shape =
    ap (λ (x : Result Reply WireError). replied step id recv at l x)
    (read_again laws (call_of step).face (call_of step).opnum r shape)

replies_print : Laws → (size recv : ℕ) (replies : List Reply) → least_fragment ≤ size → Prints size recv replies
unfolding bytes_of lines_of told answered hear hear_in AreAnswers
replies_print laws size recv [] low step id place awaiting lines all =
    ap Lines (heard_run laws.stable (calling step id recv place awaiting [] lines) (Waits (listening place None []))
    refl
    refl)
replies_print laws size recv (reply.Fault status ∷ replies) low step id place awaiting lines all =
    let more : List ℕ = later_bytes size replies id (after step (reply.Fault status)) in
    let t : Talk = calling step id recv place awaiting
    (fault_bytes id (context_of (call_of step).face) status ++ more) lines in
    let l : Listening = listening (place + 32) None more in
    ap Lines (answered_run laws.stable t (answer.Fault status) l refl
    (fault_heard laws.stable laws.back id (context_of (call_of step).face) status place more))
    ∙ ap Lines (stands (joined t (answered t.state l (answer.Fault status))) refl)
replies_print laws size recv (reply.Done status outs ∷ replies) low step id place awaiting lines all =
    let r : Reply = reply.Done status outs in
    let context : ℕ = context_of (call_of step).face in
    let stub : List ℕ = stub_of (call_of step) r in
    let more : List ℕ = later_bytes size replies id (after step r) in
    let t : Talk = calling step id recv place awaiting (reply_bytes id context size stub ++ more) lines in
    let end : ℕ = place + length (reply_bytes id context size stub) in
    ap Lines (answered_run laws.stable t (answer.Stub place stub) (listening end None more) refl
    (reply_heard laws.stable laws.back laws.brings id context size place stub more low all.0.1))
    ∙ ap (λ p. Lines (run (joined t p))) (replied_is laws step id recv place (listening end None more) r all.0.0)
    ∙ brought size recv replies (replies_print laws size recv replies low) (after step r) t id end place all.1

pub prints_replies_is : Laws → PrintsReplies
unfolding answered
prints_replies_is laws command replies xmit recv group size first second is is' whole whole' low all =
    let more : List ℕ = bytes_of size replies 2 (Opening command) in
    let t : Talk = record (begun command) {
      left = listening 0 None (accepted xmit recv group first second ++ more);
    } in
    ap Lines (answered_run laws.stable t (answer.Bound recv) (listening 80 None more) refl
    (bound_heard laws.stable laws.back xmit recv group first second more is is' whole whole'))
    ∙ replies_print laws size (size_for recv) replies low (Opening command) 2 80 false [] all
