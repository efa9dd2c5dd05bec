-- A piece that was taken is the stream's next.
use Rattle.std.proofs.Common.{◌≡◌, ◌≢◌, ℕ, zero, suc, ◌+◌, ◌≤◌, Bool, true, false, List, [], ◌++◌, length, drop}
use Rattle.std.proofs.Common.{refl, sym, ap, subst, ◌∙◌, arith, length-drop, length-append, cond, Option, inl, inr}
use Rattle.std.proofs.Common.{Result, Ok, Err, None}
use Rattle.std.proofs.lemmas.Bool.{cases_Bool, true≢false}
use Rattle.std.proofs.lemmas.List.{append-nil}
use Rattle.rpc_pdu.specs.Laws.{IsStable}
use Rattle.acct_calls.specs.declared.replies.Reply.{Reply}
use Rattle.acct_stubs.specs.declared.errors.WireError.{WireError}
use Rattle.acct_client.specs.declared.answers.Answer.{Answer}
use Rattle.acct_client.specs.declared.answers.Answer.TheVariants as answer
use Rattle.acct_client.specs.declared.answers.Awaited.{Awaited}
use Rattle.acct_client.specs.declared.answers.PartialReply.{PartialReply}
use Rattle.client_commands.specs.declared.command.Command.{Command}
use Rattle.acct_client.specs.declared.dialogue.Progress.{Progress}
use Rattle.acct_client.specs.declared.dialogue.State.{State}
use Rattle.acct_client.specs.declared.dialogue.State.TheVariants.{Binding, Calling, Ended, Failed}
use Rattle.acct_client.specs.declared.dialogue.Talk.{Talk}
use Rattle.acct_client.specs.declared.errors.AskError.TheVariants.{Memory}
use Rattle.acct_client.specs.declared.hearing.Heard.{Heard}
use Rattle.acct_client.specs.declared.hearing.Heard.TheVariants.{Waits, Answered, NoAnswer}
use Rattle.acct_client.specs.declared.hearing.Listening.{Listening}
use Rattle.acct_client.specs.declared.hearing.Next.{Next}
use Rattle.acct_client.specs.declared.hearing.Next.TheVariants as next
use Rattle.client_commands.specs.declared.outcomes.Outcome.{Outcome}
use Rattle.client_commands.specs.declared.outcomes.Outcome.TheVariants.{Goes, Ends, Refuses, Unfit}
use Rattle.client_commands.specs.declared.steps.Step.{Step}
use Rattle.acct_client.specs.Dialogues.{replied, reply_in, turned}
use Rattle.client_commands.specs.Outcomes.{after}
use Rattle.client_commands.specs.Words.{call_of}
use Rattle.acct_client.specs.Dialogues.{answered, awaited_of, awaits, begun, is_failed, joined, progress}
use Rattle.acct_client.specs.Askers.{bytes_taken}
use Rattle.acct_client.specs.Dialogues.{told}
use Rattle.acct_client.specs.Hearings.{hear, hear_in, heard_next, listening, on, on_next, IsCutAnywhere}
use Rattle.acct_client.specs.Runs.{more, IsSoFar, GoesOn, Comes}
use Rattle.acct_client.specs.Talks.{run_on, run, spoken}
use Rattle.acct_client.proofs.Cutting.{NextStays, next_stays, whole_next}
use Rattle.acct_client.proofs.Running.{answered_done, answered_leaves, more_heard, more_is, on_done, run_step}
use Rattle.acct_client.proofs.Running.{same_lines, spoken_in_pieces_is, stands}

more_nil : (t : Talk) → more t [] ≡ t
more_nil t =
    let P : Bool → Type 0 = λ b. cond b t t ≡ t in
    let split : (b : Bool) → P b = λ b. elim b as P [
      | true ↦ refl
      | false ↦ refl
    ] in
    ap (λ (x : List ℕ). cond (is_failed t.state) t (record t { left = record t.left { rest = x } }))
    (append-nil t.left.rest) ∙ split (is_failed t.state)

-- what was run stands
run_again : IsStable → IsCutAnywhere → (t : Talk) → run (run t) ≡ run t
run_again stable cut t =
    sym (ap run (more_nil (run t))) ∙ sym (spoken_in_pieces_is stable cut t []) ∙ ap run (more_nil t)

on_waiting : (t : Talk) (p : Progress) (f : Talk → Talk) → p.is_awaiting ≡ true → run_on t p f ≡ joined t p
on_waiting t p f e = ap (λ (b : Bool). cond b (joined t p) (f (joined t p))) e

-- a piece is heard at once
run_piece : IsStable → (t : Talk) (b : List ℕ) → awaits t.state ≡ true
    → run (more t b) ≡ run_on t (progress t.state t.left b) run
unfolding progress
run_piece stable t b is_true =
    let w : Awaited = awaited_of t.state in
    let u : Talk = more_heard t b in
    ap run (more_is t b is_true) ∙ run_step stable u is_true
    ∙ ap (λ (x : List ℕ). run_on u (told t.state (hear w t.left.place t.left.reply x)) run)
    (append-nil (t.left.rest ++ b))
    ∙ same_lines u t (progress t.state t.left b) run refl

pub piece_waits : IsStable → (t : Talk) (b : List ℕ) → awaits t.state ≡ true
    → (progress t.state t.left b).is_awaiting ≡ true → joined t (progress t.state t.left b) ≡ run (more t b)
piece_waits stable t b is_true e =
    sym (on_waiting t (progress t.state t.left b) run e) ∙ sym (run_piece stable t b is_true)

pub piece_runs : IsStable → IsCutAnywhere → (t : Talk) (b : List ℕ) → awaits t.state ≡ true
    → run (joined t (progress t.state t.left b)) ≡ run (more t b)
piece_runs stable cut t b is_true =
    let p : Progress = progress t.state t.left b in
    elim (cases_Bool p.is_awaiting) [
      | inl e ↦ ap run (piece_waits stable t b is_true e) ∙ run_again stable cut (more t b)
      | inr e ↦ sym (on_done t p run e) ∙ sym (run_piece stable t b is_true)
    ]

pub piece_ends : IsStable → IsCutAnywhere → (t : Talk) (b : List ℕ) → awaits t.state ≡ true
    → awaits (progress t.state t.left b).state ≡ false → joined t (progress t.state t.left b) ≡ run (more t b)
piece_ends stable cut t b is_true e =
    sym (stands (joined t (progress t.state t.left b)) e) ∙ piece_runs stable cut t b is_true

-- the whole stream, with a piece more
spoken_on : IsStable → IsCutAnywhere → (t : Talk) (b : List ℕ) (command : Command) (stream : List ℕ)
    → IsSoFar command stream t → run (more t b) ≡ spoken command (stream ++ b)
spoken_on stable cut t b command stream e =
    spoken_in_pieces_is stable cut t b ∙ ap (λ (x : Talk). run (more x b)) e
    ∙ sym (spoken_in_pieces_is stable cut (record (begun command) { left = listening 0 None stream }) b)

pub goes_on_by : IsStable → IsCutAnywhere → (t new : Talk) (b : List ℕ) → run new ≡ run (more t b) → GoesOn t new b
goes_on_by stable cut t new b e = λ command stream so_far. e ∙ spoken_on stable cut t b command stream so_far

pub comes_by : IsStable → IsCutAnywhere → (t new : Talk) (b : List ℕ) → new ≡ run (more t b) → Comes t new b
comes_by stable cut t new b e = λ command stream so_far. e ∙ spoken_on stable cut t b command stream so_far

-- after an error nothing is heard
pub failed_comes : IsStable → IsCutAnywhere → (t : Talk) (b : List ℕ) → is_failed t.state ≡ true
    → awaits t.state ≡ false → Comes t t b
failed_comes stable cut t b is is_false =
    comes_by stable cut t t b
    (sym (stands t is_false) ∙ sym (ap run (ap (λ (x : Bool). cond x t (more_heard t b)) is)))

-- ---- how many bytes were taken

abbrev Counts : ℕ → Heard → Type 0
Counts n (Waits l) = l.place + length l.rest ≡ n
Counts n (NoAnswer at) = Unit {0}
Counts n (Answered a l) = l.place + length l.rest ≡ n

counts_next : (w : Awaited) (place : ℕ) (g : Option PartialReply) (bytes : List ℕ) (n : Next) (turns : ℕ)
    → NextStays w place g bytes [] n
    → ((t : Option PartialReply) (size : ℕ) → n ≡ next.Goes t size
    → Counts (place + length bytes) (hear_in turns w (place + size) t (drop size bytes)))
    → Counts (place + length bytes) (on_next place bytes n (λ p t rest. hear_in turns w p t rest))
counts_next w place g bytes (next.Waits t) turns stays h = refl
counts_next w place g bytes (next.Wrong at) turns stays h = tt
counts_next w place g bytes (next.Gives answer size) turns stays h =
    let there = stays.1.there in let len = length-drop size bytes in omega (arith, there, len)
counts_next w place g bytes (next.Goes t size) turns stays h = h t size refl

counts_in : IsStable → (turns : ℕ) (w : Awaited) (place : ℕ) (g : Option PartialReply) (bytes : List ℕ)
    → Counts (place + length bytes) (hear_in turns w place g bytes)
unfolding hear_in
counts_in stable zero w place g bytes = refl
counts_in stable (suc turns) w place g bytes =
    counts_next w place g bytes (heard_next w place g bytes) turns (next_stays stable w place g bytes [])
    (λ t size e. let x = whole_next stable w place g bytes t size e in let len = length-drop size bytes in
    let there = x.there in
    let same : (place + size) + length (drop size bytes) ≡ place + length bytes = omega (arith, len, there) in
    subst (λ (n : ℕ). Counts n (hear_in turns w (place + size) t (drop size bytes))) same
    (counts_in stable turns w (place + size) t (drop size bytes)))

counts_on : IsStable → (w : Awaited) (l : Listening) (b : List ℕ)
    → Counts (l.place + length (l.rest ++ b)) (on w l b)
unfolding hear
counts_on stable w l b = counts_in stable (length (l.rest ++ b)) w l.place l.reply (l.rest ++ b)

count_told : (s : State) (n : ℕ) (h : Heard) → Counts n h
    → (told s h).left.place + length (told s h).left.rest ≤ n
unfolding told
count_told s n (Waits l) e = omega (arith, e)
count_told s n (NoAnswer at) e = omega arith
count_told s n (Answered a l) e = elim (answered_leaves s l a) [
  | inl left ↦ subst (λ (x : Listening). x.place + length x.rest ≤ n) (sym left) (omega (arith, e))
  | inr done ↦ subst (λ (x : Listening). x.place + length x.rest ≤ n) (sym done.1) (omega arith)
]

pub count_piece : IsStable → (t : Talk) (b : List ℕ)
    → bytes_taken (joined t (progress t.state t.left b)) ≤ bytes_taken t + length b
unfolding progress
count_piece stable t b =
    let w : Awaited = awaited_of t.state in
    let len = length-append t.left.rest b in
    let low = count_told t.state (t.left.place + length (t.left.rest ++ b)) (on w t.left b)
    (counts_on stable w t.left b) in
    omega (arith, len, low)

-- ---- an answer is awaited only where one is awaited in the state

told_awaits : (s : State) (h : Heard) → awaits s ≡ true → (told s h).is_awaiting ≡ true
    → awaits (told s h).state ≡ true
unfolding told
told_awaits s (Waits l) is_true e = is_true
told_awaits s (NoAnswer at) is_true e = absurd (true≢false (sym e))
told_awaits s (Answered a l) is_true e = absurd (true≢false (sym e ∙ answered_done s l a))

pub piece_awaits : (t : Talk) (b : List ℕ) → awaits t.state ≡ true
    → (progress t.state t.left b).is_awaiting ≡ true → awaits (progress t.state t.left b).state ≡ true
unfolding progress
piece_awaits t b is_true e = told_awaits t.state (on (awaited_of t.state) t.left b) is_true e

-- ---- no answer is out of memory

abbrev wants_memory : State → Bool
wants_memory (Failed Memory) = true
wants_memory _ = false

turned_known : (id size place : ℕ) (l : Listening) (o : Outcome)
    → wants_memory (turned id size place l o).state ≡ false
unfolding turned
turned_known id size place l (Goes lines next) = refl
turned_known id size place l (Ends lines) = refl
turned_known id size place l (Refuses status) = refl
turned_known id size place l Unfit = refl

replied_known : (s : Step) (id size place : ℕ) (l : Listening) (r : Result Reply WireError)
    → wants_memory (replied s id size place l r).state ≡ false
unfolding replied
replied_known s id size place l (Ok reply) = turned_known id size place l (after s reply)
replied_known s id size place l (Err e) = refl

answered_known : (s : State) (l : Listening) (a : Answer) → wants_memory (answered s l a).state ≡ false
unfolding answered
answered_known (Binding command) l (answer.Fault status) = refl
answered_known (Binding command) l answer.Nak = refl
answered_known (Binding command) l (answer.Bound recv) = refl
answered_known (Binding command) l (answer.Stub place stub) = refl
answered_known (Calling step id size) l (answer.Fault status) = refl
answered_known (Calling step id size) l answer.Nak = refl
answered_known (Calling step id size) l (answer.Bound recv) = refl
answered_known (Calling step id size) l (answer.Stub place stub) =
    replied_known step id size place l (reply_in (call_of step) stub)
answered_known Ended l (answer.Fault status) = refl
answered_known Ended l answer.Nak = refl
answered_known Ended l (answer.Bound recv) = refl
answered_known Ended l (answer.Stub place stub) = refl
answered_known (Failed e) l (answer.Fault status) = refl
answered_known (Failed e) l answer.Nak = refl
answered_known (Failed e) l (answer.Bound recv) = refl
answered_known (Failed e) l (answer.Stub place stub) = refl

awaits_known : (s : State) → awaits s ≡ true → wants_memory s ≡ false
awaits_known (Binding command) e = refl
awaits_known (Calling step id size) e = refl
awaits_known Ended e = refl
awaits_known (Failed x) e = absurd (true≢false (sym e))

told_known : (s : State) (h : Heard) → awaits s ≡ true → wants_memory (told s h).state ≡ false
unfolding told
told_known s (Waits l) e = awaits_known s e
told_known s (NoAnswer at) e = refl
told_known s (Answered a l) e = answered_known s l a

-- no piece runs out of memory
pub piece_known : (t : Talk) (b : List ℕ) → awaits t.state ≡ true
    → (progress t.state t.left b).state ≢ Failed Memory
unfolding progress
piece_known t b is_true e =
    true≢false (sym (ap wants_memory e) ∙ told_known t.state (on (awaited_of t.state) t.left b) is_true)
