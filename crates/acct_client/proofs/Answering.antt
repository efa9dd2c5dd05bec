-- What an answer does to a dialogue, whatever is left to hear after it.
use Rattle.std.proofs.Common.{◌≡◌, ℕ, ◌≤◌, Bool, true, false, List, [], ◌++◌, length, Ok, Err, Result, Option}
use Rattle.std.proofs.Common.{refl, sym, ap, ◌∙◌, ◌⊎◌, inl, inr, cond, if◌then◌else◌}
use Rattle.std.proofs.lemmas.Bool.{true≢false}
use Rattle.acct_calls.specs.declared.replies.Reply.{Reply}
use Rattle.acct_stubs.specs.declared.errors.WireError.{WireError}
use Rattle.rpc_pdu.specs.declared.pdus.Side.TheVariants.{Client}
use Rattle.rpc_pdu.specs.Bodies.{Front, Whole, Rest, Refused, front}
use Rattle.rpc_pdu.specs.Laws.{Stays, IsStable}
use Rattle.client_commands.specs.declared.outcomes.Outcome.{Outcome}
use Rattle.client_commands.specs.declared.outcomes.Outcome.TheVariants.{Goes, Ends, Refuses, Unfit}
use Rattle.client_commands.specs.declared.steps.Step.{Step}
use Rattle.client_commands.specs.declared.steps.Step.TheVariants.{Opening}
use Rattle.client_commands.specs.Outcomes.{after, refused_line}
use Rattle.client_commands.specs.Words.{call_of}
use Rattle.acct_client.specs.declared.answers.Answer.{Answer}
use Rattle.acct_client.specs.declared.answers.Answer.TheVariants as answer
use Rattle.acct_client.specs.declared.answers.Awaited.{Awaited}
use Rattle.acct_client.specs.declared.answers.PartialReply.{PartialReply}
use Rattle.acct_client.specs.declared.answers.Turn.{Turn}
use Rattle.acct_client.specs.declared.answers.Turn.TheVariants as turn
use Rattle.acct_client.specs.declared.dialogue.Progress.{Progress}
use Rattle.acct_client.specs.declared.dialogue.State.{State}
use Rattle.acct_client.specs.declared.dialogue.State.TheVariants.{Binding, Calling, Ended, Failed}
use Rattle.acct_client.specs.declared.dialogue.Talk.{Talk}
use Rattle.acct_client.specs.declared.errors.AskError.{AskError}
use Rattle.acct_client.specs.declared.errors.AskError.TheVariants as error
use Rattle.acct_client.specs.declared.hearing.Listening.{Listening}
use Rattle.acct_client.specs.declared.hearing.Next.{Next}
use Rattle.acct_client.specs.declared.hearing.Next.TheVariants as next
use Rattle.acct_client.specs.Hearings.{turned as turn_of, heard_next, next_of, stepped}
use Rattle.acct_client.specs.Dialogues.{answered, awaits, goes_to, is_failed, next_id, replied, reply_in, silence}
use Rattle.acct_client.specs.Dialogues.{turned}
use Rattle.rpc_session.specs.Answers.{size_for}
use Rattle.acct_client.specs.Runs.{more}

-- ---- a PDU at the beginning

-- a whole PDU at the beginning
pub record IsWhole (bytes : List ℕ) (size : ℕ) : Type 0 where
  pub low : 16 ≤ size
  pub there : size ≤ length bytes

-- what is heard of a PDU is heard of a whole one
abbrev pub HearsWhole : List ℕ → Next → Type 0
HearsWhole bytes (next.Waits reply) = Unit {0}
HearsWhole bytes (next.Wrong at) = Unit {0}
HearsWhole bytes (next.Gives answer size) = IsWhole bytes size
HearsWhole bytes (next.Goes reply size) = IsWhole bytes size

whole_stepped : (place : ℕ) (bytes : List ℕ) (size : ℕ) (t : Turn) → IsWhole bytes size
    → HearsWhole bytes (stepped place size t)
whole_stepped place bytes size turn.Wrong whole = tt
whole_stepped place bytes size (turn.Goes reply) whole = whole
whole_stepped place bytes size (turn.Gives answer) whole = whole

whole_front : (w : Awaited) (place : ℕ) (g : Option PartialReply) (bytes : List ℕ) (f : Front)
    → Stays f Client bytes [] → HearsWhole bytes (next_of w place g f)
whole_front w place g bytes (Whole pdu size) stays =
    whole_stepped place bytes size (turn_of w place g pdu) (record { low = stays.1; there = stays.2 })
whole_front w place g bytes Rest stays = tt
whole_front w place g bytes (Refused at cause ptype id) stays = tt

pub hears_whole : IsStable → (w : Awaited) (place : ℕ) (g : Option PartialReply) (bytes : List ℕ)
    → HearsWhole bytes (heard_next w place g bytes)
unfolding heard_next
hears_whole stable w place g bytes = whole_front w place g bytes (front Client bytes) (stable Client bytes [])

-- ---- a whole answer

-- it leads on, and what is left to hear stays
pub record LeadsOn (f : Listening → Progress) : Type 0 where
  pub state : State
  pub lines : List ℕ
  pub going : is_failed state ≡ false
  pub gives : (l : Listening) → f l ≡ goes_to state l lines

-- it ends the dialogue with an error, and nothing more is heard
pub record EndsInError (f : Listening → Progress) : Type 0 where
  pub lines : List ℕ
  pub error_at : ℕ → AskError
  pub gives : (l : Listening) → f l ≡ goes_to (Failed (error_at l.place)) silence lines

abbrev pub Settles : (Listening → Progress) → Type 0
Settles f = LeadsOn f ⊎ EndsInError f

settles_turned : (id size place : ℕ) (o : Outcome) → Settles (λ l. turned id size place l o)
unfolding turned
settles_turned id size place (Goes lines step) =
    inl (record { state = Calling step (next_id id) size; lines = lines; going = refl; gives = λ l. refl })
settles_turned id size place (Ends lines) =
    inl (record { state = Ended; lines = lines; going = refl; gives = λ l. refl })
settles_turned id size place (Refuses status) =
    inr (record { lines = refused_line status; error_at = λ at. error.Refused status; gives = λ l. refl })
settles_turned id size place Unfit =
    inr (record { lines = []; error_at = λ at. error.PeerBytes place; gives = λ l. refl })

settles_replied : (s : Step) (id size place : ℕ) (r : Result Reply WireError)
    → Settles (λ l. replied s id size place l r)
unfolding replied
settles_replied s id size place (Ok reply) = settles_turned id size place (after s reply)
settles_replied s id size place (Err e) =
    inr (record { lines = []; error_at = λ at. error.PeerBytes place; gives = λ l. refl })

pub settles : (s : State) (a : Answer) → Settles (λ l. answered s l a)
unfolding answered
settles (Binding command) (answer.Fault status) =
    inr (record { lines = refused_line status; error_at = λ at. error.PeerFault status; gives = λ l. refl })
settles (Binding command) answer.Nak =
    inr (record { lines = refused_line 0; error_at = λ at. error.PeerFault 0; gives = λ l. refl })
settles (Binding command) (answer.Bound recv) = inl (record {
  state = Calling (Opening command) 2 (size_for recv);
  lines = [];
  going = refl;
  gives = λ l. refl;
})
settles (Binding command) (answer.Stub place stub) =
    inr (record { lines = []; error_at = λ at. error.PeerBytes at; gives = λ l. refl })
settles (Calling step id size) (answer.Fault status) =
    inr (record { lines = refused_line status; error_at = λ at. error.PeerFault status; gives = λ l. refl })
settles (Calling step id size) answer.Nak =
    inr (record { lines = refused_line 0; error_at = λ at. error.PeerFault 0; gives = λ l. refl })
settles (Calling step id size) (answer.Bound recv) =
    inr (record { lines = []; error_at = λ at. error.PeerBytes at; gives = λ l. refl })
settles (Calling step id size) (answer.Stub place stub) =
    settles_replied step id size place (reply_in (call_of step) stub)
settles Ended (answer.Fault status) =
    inr (record { lines = refused_line status; error_at = λ at. error.PeerFault status; gives = λ l. refl })
settles Ended answer.Nak =
    inr (record { lines = refused_line 0; error_at = λ at. error.PeerFault 0; gives = λ l. refl })
settles Ended (answer.Bound recv) =
    inr (record { lines = []; error_at = λ at. error.PeerBytes at; gives = λ l. refl })
settles Ended (answer.Stub place stub) =
    inr (record { lines = []; error_at = λ at. error.PeerBytes at; gives = λ l. refl })
settles (Failed e) (answer.Fault status) =
    inr (record { lines = refused_line status; error_at = λ at. error.PeerFault status; gives = λ l. refl })
settles (Failed e) answer.Nak =
    inr (record { lines = refused_line 0; error_at = λ at. error.PeerFault 0; gives = λ l. refl })
settles (Failed e) (answer.Bound recv) =
    inr (record { lines = []; error_at = λ at. error.PeerBytes at; gives = λ l. refl })
settles (Failed e) (answer.Stub place stub) =
    inr (record { lines = []; error_at = λ at. error.PeerBytes at; gives = λ l. refl })

-- ---- what follows of it

-- no answer is awaited after a whole one
pub answered_done : (s : State) (l : Listening) (a : Answer) → (answered s l a).is_awaiting ≡ false
answered_done s l a = elim (settles s a) [
  | inl leads ↦ ap (λ (p : Progress). p.is_awaiting) (leads.gives l)
  | inr ends ↦ ap (λ (p : Progress). p.is_awaiting) (ends.gives l)
]

-- what is left after an answer is what was left, or no answer is awaited any more
pub answered_leaves : (s : State) (l : Listening) (a : Answer)
    → ((answered s l a).left ≡ l) ⊎ (awaits (answered s l a).state ≡ false)
answered_leaves s l a = elim (settles s a) [
  | inl leads ↦ inl (ap (λ (p : Progress). p.left) (leads.gives l))
  | inr ends ↦ inr (ap (λ (p : Progress). awaits p.state) (ends.gives l))
]

-- what is left after an answer that is no error
pub answered_kept : (s : State) (l : Listening) (a : Answer) → is_failed (answered s l a).state ≡ false
    → (answered s l a).left ≡ l
answered_kept s l a e = elim (settles s a) [
  | inl leads ↦ ap (λ (p : Progress). p.left) (leads.gives l)
  | inr ends ↦ absurd (true≢false (ap (λ (p : Progress). is_failed p.state) (sym (ends.gives l)) ∙ e))
]

-- more bytes to hear
abbrev pub heard_on : Listening → List ℕ → Listening
heard_on l b = record l { rest = l.rest ++ b }

abbrev pub progress_on : Progress → List ℕ → Progress
progress_on p b = if is_failed p.state then p else record p { left = heard_on p.left b }

leads_to : (state : State) (l : Listening) (lines b : List ℕ) → is_failed state ≡ false
    → goes_to state (heard_on l b) lines ≡ progress_on (goes_to state l lines) b
leads_to state l lines b going =
    ap (λ (x : Bool). cond x (goes_to state l lines) (goes_to state (heard_on l b) lines)) (sym going)

-- bytes after a whole answer wait
pub answered_on : (s : State) (l : Listening) (b : List ℕ) (a : Answer)
    → answered s (heard_on l b) a ≡ progress_on (answered s l a) b
answered_on s l b a = elim (settles s a) [
  | inl leads ↦ leads.gives (heard_on l b)
      ∙ leads_to leads.state l leads.lines b leads.going
      ∙ ap (λ (p : Progress). progress_on p b) (sym (leads.gives l))
  | inr ends ↦ ends.gives (heard_on l b) ∙ ap (λ (p : Progress). progress_on p b) (sym (ends.gives l))
]

-- ---- a dialogue that awaits an answer, with more bytes

pub goes_unfailed : (s : State) → awaits s ≡ true → is_failed s ≡ false
goes_unfailed (Binding command) e = refl
goes_unfailed (Calling step id size) e = refl
goes_unfailed Ended e = refl
goes_unfailed (Failed x) e = absurd (true≢false (sym e))

abbrev pub more_heard : Talk → List ℕ → Talk
more_heard t b = record t { left = heard_on t.left b }

pub more_is : (t : Talk) (b : List ℕ) → awaits t.state ≡ true → more t b ≡ more_heard t b
more_is t b is_true =
    ap (λ (x : Bool). cond x t (record t { left = heard_on t.left b })) (goes_unfailed t.state is_true)
