-- A dialogue may be cut anywhere.
use Rattle.std.proofs.Common.{◌≡◌, ℕ, zero, suc, ◌+◌, ◌≤◌, ◌<◌, Bool, true, false, List, [], ◌++◌, length, drop}
use Rattle.std.proofs.Common.{refl, sym, ap, subst, ◌∙◌, arith, length-drop, Ok, Err, Result}
use Rattle.std.proofs.Common.{◌⊎◌, inl, inr, cond, if◌then◌else◌, Option}
use Rattle.std.proofs.lemmas.Bool.{cases_Bool, true≢false}
use Rattle.std.proofs.lemmas.List.{append-nil}
use Rattle.acct_calls.specs.declared.replies.Reply.{Reply}
use Rattle.acct_stubs.specs.declared.errors.WireError.{WireError}
use Rattle.rpc_pdu.specs.Laws.{IsStable}
use Rattle.acct_client.specs.declared.answers.Answer.{Answer}
use Rattle.acct_client.specs.declared.answers.Awaited.{Awaited}
use Rattle.acct_client.specs.declared.answers.PartialReply.{PartialReply}
use Rattle.acct_client.specs.declared.hearing.Next.{Next}
use Rattle.acct_client.specs.declared.hearing.Next.TheVariants as next
use Rattle.acct_client.specs.declared.answers.Answer.TheVariants as answer
use Rattle.acct_client.specs.declared.dialogue.Progress.{Progress}
use Rattle.acct_client.specs.declared.dialogue.State.{State}
use Rattle.acct_client.specs.declared.dialogue.State.TheVariants.{Binding, Calling, Ended, Failed}
use Rattle.acct_client.specs.declared.dialogue.Talk.{Talk}
use Rattle.acct_client.specs.declared.hearing.Heard.{Heard}
use Rattle.acct_client.specs.declared.hearing.Heard.TheVariants.{Waits, Answered, NoAnswer}
use Rattle.acct_client.specs.declared.hearing.Listening.{Listening}
use Rattle.client_commands.specs.declared.outcomes.Outcome.{Outcome}
use Rattle.client_commands.specs.declared.outcomes.Outcome.TheVariants.{Goes, Ends, Refuses, Unfit}
use Rattle.client_commands.specs.declared.steps.Step.{Step}
use Rattle.acct_client.specs.Dialogues.{awaits, is_failed, waits, turned, replied, reply_in, answered}
use Rattle.acct_client.specs.Dialogues.{told, awaited_of, progress, joined, silence}
use Rattle.acct_client.specs.Hearings.{heard_next, on_next, hear_in, hear, on, with_more, IsCutAnywhere}
use Rattle.acct_client.proofs.Cutting.{NextStays, next_stays, whole_next}
use Rattle.client_commands.specs.Outcomes.{after}
use Rattle.client_commands.specs.Words.{call_of}
use Rattle.acct_client.specs.Runs.{more, IsSpokenInPieces}
use Rattle.acct_client.specs.Talks.{run_on, run_in, run}

-- more bytes to hear
abbrev pub heard_on : Listening → List ℕ → Listening
heard_on l b = record l { rest = l.rest ++ b }

abbrev pub progress_on : Progress → List ℕ → Progress
progress_on p b = if is_failed p.state then p else record p { left = heard_on p.left b }

-- ---- bytes after a whole answer wait

turned_on : (id size place : ℕ) (l : Listening) (b : List ℕ) (o : Outcome)
    → turned id size place (heard_on l b) o ≡ progress_on (turned id size place l o) b
unfolding turned
turned_on id size place l b (Goes lines next) = refl
turned_on id size place l b (Ends lines) = refl
turned_on id size place l b (Refuses status) = refl
turned_on id size place l b Unfit = refl

replied_on : (s : Step) (id size place : ℕ) (l : Listening) (b : List ℕ) (r : Result Reply WireError)
    → replied s id size place (heard_on l b) r ≡ progress_on (replied s id size place l r) b
unfolding replied
replied_on s id size place l b (Ok reply) = turned_on id size place l b (after s reply)
replied_on s id size place l b (Err e) = refl

pub answered_on : (s : State) (l : Listening) (b : List ℕ) (a : Answer)
    → answered s (heard_on l b) a ≡ progress_on (answered s l a) b
unfolding answered
answered_on (Binding command) l b (answer.Fault status) = refl
answered_on (Binding command) l b answer.Nak = refl
answered_on (Binding command) l b (answer.Bound recv) = refl
answered_on (Binding command) l b (answer.Stub place stub) = refl
answered_on (Calling step id size) l b (answer.Fault status) = refl
answered_on (Calling step id size) l b answer.Nak = refl
answered_on (Calling step id size) l b (answer.Bound recv) = refl
answered_on (Calling step id size) l b (answer.Stub place stub) =
    replied_on step id size place l b (reply_in (call_of step) stub)
answered_on Ended l b (answer.Fault status) = refl
answered_on Ended l b answer.Nak = refl
answered_on Ended l b (answer.Bound recv) = refl
answered_on Ended l b (answer.Stub place stub) = refl
answered_on (Failed e) l b (answer.Fault status) = refl
answered_on (Failed e) l b answer.Nak = refl
answered_on (Failed e) l b (answer.Bound recv) = refl
answered_on (Failed e) l b (answer.Stub place stub) = refl

turned_done : (id size place : ℕ) (l : Listening) (o : Outcome) → (turned id size place l o).is_awaiting ≡ false
unfolding turned
turned_done id size place l (Goes lines next) = refl
turned_done id size place l (Ends lines) = refl
turned_done id size place l (Refuses status) = refl
turned_done id size place l Unfit = refl

replied_done : (s : Step) (id size place : ℕ) (l : Listening) (r : Result Reply WireError)
    → (replied s id size place l r).is_awaiting ≡ false
unfolding replied
replied_done s id size place l (Ok reply) = turned_done id size place l (after s reply)
replied_done s id size place l (Err e) = refl

pub answered_done : (s : State) (l : Listening) (a : Answer) → (answered s l a).is_awaiting ≡ false
unfolding answered
answered_done (Binding command) l (answer.Fault status) = refl
answered_done (Binding command) l answer.Nak = refl
answered_done (Binding command) l (answer.Bound recv) = refl
answered_done (Binding command) l (answer.Stub place stub) = refl
answered_done (Calling step id size) l (answer.Fault status) = refl
answered_done (Calling step id size) l answer.Nak = refl
answered_done (Calling step id size) l (answer.Bound recv) = refl
answered_done (Calling step id size) l (answer.Stub place stub) =
    replied_done step id size place l (reply_in (call_of step) stub)
answered_done Ended l (answer.Fault status) = refl
answered_done Ended l answer.Nak = refl
answered_done Ended l (answer.Bound recv) = refl
answered_done Ended l (answer.Stub place stub) = refl
answered_done (Failed e) l (answer.Fault status) = refl
answered_done (Failed e) l answer.Nak = refl
answered_done (Failed e) l (answer.Bound recv) = refl
answered_done (Failed e) l (answer.Stub place stub) = refl

-- what is left after an answer is what was left, or nothing more is heard
abbrev pub Leaves : Listening → Progress → Type 0
Leaves l p = (p.left ≡ l) ⊎ (awaits p.state ≡ false) × (p.left ≡ silence)

turned_leaves : (id size place : ℕ) (l : Listening) (o : Outcome) → Leaves l (turned id size place l o)
unfolding turned
turned_leaves id size place l (Goes lines next) = inl refl
turned_leaves id size place l (Ends lines) = inl refl
turned_leaves id size place l (Refuses status) = inr (refl, refl)
turned_leaves id size place l Unfit = inr (refl, refl)

replied_leaves : (s : Step) (id size place : ℕ) (l : Listening) (r : Result Reply WireError)
    → Leaves l (replied s id size place l r)
unfolding replied
replied_leaves s id size place l (Ok reply) = turned_leaves id size place l (after s reply)
replied_leaves s id size place l (Err e) = inr (refl, refl)

pub answered_leaves : (s : State) (l : Listening) (a : Answer) → Leaves l (answered s l a)
unfolding answered
answered_leaves (Binding command) l (answer.Fault status) = inr (refl, refl)
answered_leaves (Binding command) l answer.Nak = inr (refl, refl)
answered_leaves (Binding command) l (answer.Bound recv) = inl refl
answered_leaves (Binding command) l (answer.Stub place stub) = inr (refl, refl)
answered_leaves (Calling step id size) l (answer.Fault status) = inr (refl, refl)
answered_leaves (Calling step id size) l answer.Nak = inr (refl, refl)
answered_leaves (Calling step id size) l (answer.Bound recv) = inr (refl, refl)
answered_leaves (Calling step id size) l (answer.Stub place stub) =
    replied_leaves step id size place l (reply_in (call_of step) stub)
answered_leaves Ended l (answer.Fault status) = inr (refl, refl)
answered_leaves Ended l answer.Nak = inr (refl, refl)
answered_leaves Ended l (answer.Bound recv) = inr (refl, refl)
answered_leaves Ended l (answer.Stub place stub) = inr (refl, refl)
answered_leaves (Failed e) l (answer.Fault status) = inr (refl, refl)
answered_leaves (Failed e) l answer.Nak = inr (refl, refl)
answered_leaves (Failed e) l (answer.Bound recv) = inr (refl, refl)
answered_leaves (Failed e) l (answer.Stub place stub) = inr (refl, refl)

-- ---- a whole answer takes a byte and more

abbrev Shortens : ℕ → Heard → Type 0
Shortens n (Waits l) = Unit {0}
Shortens n (NoAnswer at) = Unit {0}
Shortens n (Answered answer l) = length l.rest < n

shortens_next : (w : Awaited) (place : ℕ) (g : Option PartialReply) (bytes : List ℕ) (n : Next) (turns : ℕ)
    → NextStays w place g bytes [] n
    → ((t : Option PartialReply) (size : ℕ) → n ≡ next.Goes t size
    → Shortens (length bytes) (hear_in turns w (place + size) t (drop size bytes)))
    → Shortens (length bytes) (on_next place bytes n (λ p t rest. hear_in turns w p t rest))
shortens_next w place g bytes (next.Waits t) turns stays h = tt
shortens_next w place g bytes (next.Wrong at) turns stays h = tt
shortens_next w place g bytes (next.Gives answer size) turns stays h =
    let low = stays.1.low in let there = stays.1.there in let len = length-drop size bytes in
    omega (arith, low, there, len)
shortens_next w place g bytes (next.Goes t size) turns stays h = h t size refl

shorter : (m n : ℕ) (h : Heard) → m ≤ n → Shortens m h → Shortens n h
shorter m n (Waits l) le s = tt
shorter m n (NoAnswer at) le s = tt
shorter m n (Answered answer l) le s = omega (arith, le, s)

shortens_in : IsStable → (turns : ℕ) (w : Awaited) (place : ℕ) (g : Option PartialReply) (bytes : List ℕ)
    → Shortens (length bytes) (hear_in turns w place g bytes)
unfolding hear_in
shortens_in stable zero w place g bytes = tt
shortens_in stable (suc turns) w place g bytes =
    shortens_next w place g bytes (heard_next w place g bytes) turns (next_stays stable w place g bytes [])
    (λ t size e. let x = whole_next stable w place g bytes t size e in let len = length-drop size bytes in
    let there = x.there in
    shorter (length (drop size bytes)) (length bytes) (hear_in turns w (place + size) t (drop size bytes))
    (omega (arith, len, there)) (shortens_in stable turns w (place + size) t (drop size bytes)))

shortens_on : IsStable → (w : Awaited) (l : Listening) → Shortens (length l.rest) (on w l [])
unfolding hear
shortens_on stable w l =
    subst (λ (x : List ℕ). Shortens (length x) (hear w l.place l.reply (l.rest ++ []))) (append-nil l.rest)
    (shortens_in stable (length (l.rest ++ [])) w l.place l.reply (l.rest ++ []))

-- ---- runs

-- where no answer is awaited a run stands
stands_in : (n : ℕ) (t : Talk) → awaits t.state ≡ false → run_in n t ≡ t
unfolding run_in
stands_in zero t e = refl
stands_in (suc n) t e = ap (λ (b : Bool). cond b
    (run_on t (progress t.state t.left []) (λ next. run_in n next)) t) e

pub stands : (t : Talk) → awaits t.state ≡ false → run t ≡ t
unfolding run
stands t e = stands_in (suc (length t.left.rest)) t e

step_in : (n : ℕ) (t : Talk) → awaits t.state ≡ true
    → run_in (suc n) t ≡ run_on t (progress t.state t.left []) (λ next. run_in n next)
unfolding run_in
step_in n t e = ap (λ (b : Bool). cond b
    (run_on t (progress t.state t.left []) (λ next. run_in n next)) t) e

-- what a run goes on from: the answer is whole, and less is left to hear; or no answer is awaited
abbrev GoesOn : ℕ → Progress → Type 0
GoesOn n p = p.is_awaiting ≡ false → (length p.left.rest < n) ⊎ (awaits p.state ≡ false)

goes_on_told : (n : ℕ) (s : State) (h : Heard) → Shortens n h → GoesOn n (told s h)
unfolding told
goes_on_told n s (Waits l) short = λ e. absurd (true≢false e)
goes_on_told n s (NoAnswer at) short = λ e. inr refl
goes_on_told n s (Answered a l) short = λ e. elim (answered_leaves s l a) [
  | inl left ↦ inl (subst (λ (x : Listening). length x.rest < n) (sym left) short)
  | inr done ↦ inr done.0
]

goes_on : IsStable → (s : State) (l : Listening) → GoesOn (length l.rest) (progress s l [])
unfolding progress
goes_on stable s l = goes_on_told (length l.rest) s (on (awaited_of s) l []) (shortens_on stable (awaited_of s) l)

same_on : (t : Talk) (p : Progress) (f g : Talk → Talk) → (p.is_awaiting ≡ false → f (joined t p) ≡ g (joined t p))
    → run_on t p f ≡ run_on t p g
same_on t p f g h =
    let P : Bool → Type 0 = λ b. (b ≡ false → f (joined t p) ≡ g (joined t p))
    → cond b (joined t p) (f (joined t p)) ≡ cond b (joined t p) (g (joined t p)) in
    let split : (b : Bool) → P b = λ b. elim b as P [
      | true ↦ λ k. refl
      | false ↦ λ k. k refl
    ] in
    split p.is_awaiting h

same_runs : IsStable → (m k : ℕ) (t : Talk) → length t.left.rest < m → length t.left.rest < k
    → run_in m t ≡ run_in k t
same_runs stable zero k t lt lt' = absurd (omega (arith, lt))
same_runs stable (suc m) zero t lt lt' = absurd (omega (arith, lt'))
same_runs stable (suc m) (suc k) t lt lt' = elim (cases_Bool (awaits t.state)) [
  | inl is_true ↦
      step_in m t is_true
      ∙ same_on t (progress t.state t.left []) (λ next. run_in m next) (λ next. run_in k next)
      (λ e. elim (goes_on stable t.state t.left e) [
        | inl short ↦ same_runs stable m k (joined t (progress t.state t.left [])) (omega (arith, short, lt))
            (omega (arith, short, lt'))
        | inr done ↦ stands_in m (joined t (progress t.state t.left [])) done
            ∙ sym (stands_in k (joined t (progress t.state t.left [])) done)
      ])
      ∙ sym (step_in k t is_true)
  | inr is_false ↦ stands_in (suc m) t is_false ∙ sym (stands_in (suc k) t is_false)
]

pub run_step : IsStable → (t : Talk) → awaits t.state ≡ true
    → run t ≡ run_on t (progress t.state t.left []) run
unfolding run
run_step stable t is_true =
    step_in (length t.left.rest) t is_true
    ∙ same_on t (progress t.state t.left []) (λ next. run_in (length t.left.rest) next)
    (λ next. run_in (suc (length next.left.rest)) next)
    (λ e. elim (goes_on stable t.state t.left e) [
      | inl short ↦ same_runs stable (length t.left.rest)
          (suc (length (joined t (progress t.state t.left [])).left.rest))
          (joined t (progress t.state t.left [])) short (omega arith)
      | inr done ↦ stands_in (length t.left.rest) (joined t (progress t.state t.left [])) done
          ∙ sym (stands_in (suc (length (joined t (progress t.state t.left [])).left.rest))
          (joined t (progress t.state t.left [])) done)
    ])

-- ---- cutting

pub on_done : (t : Talk) (p : Progress) (f : Talk → Talk) → p.is_awaiting ≡ false → run_on t p f ≡ f (joined t p)
on_done t p f e = ap (λ (b : Bool). cond b (joined t p) (f (joined t p))) e

-- only the lines of the dialogue before count
pub same_lines : (t u : Talk) (p : Progress) (f : Talk → Talk) → t.lines ≡ u.lines → run_on t p f ≡ run_on u p f
same_lines t u p f e =
    let J : List ℕ → Talk = λ ls. record {
      state = p.state;
      is_awaiting = p.is_awaiting;
      left = p.left;
      lines = ls ++ p.printed;
    } in
    ap (λ (ls : List ℕ). cond p.is_awaiting (J ls) (f (J ls))) e

joined_on : (t : Talk) (p : Progress) (b : List ℕ) → joined t (progress_on p b) ≡ more (joined t p) b
joined_on t p b =
    let q : Progress = record p { left = heard_on p.left b } in
    let u : Talk = record (joined t p) { left = record (joined t p).left { rest = (joined t p).left.rest ++ b } } in
    let P : Bool → Type 0 = λ x. joined t (cond x p q) ≡ cond x (joined t p) u in
    let split : (x : Bool) → P x = λ x. elim x as P [
      | true ↦ refl
      | false ↦ refl
    ] in
    split (is_failed p.state)

pub goes_unfailed : (s : State) → awaits s ≡ true → is_failed s ≡ false
goes_unfailed (Binding command) e = refl
goes_unfailed (Calling step id size) e = refl
goes_unfailed Ended e = refl
goes_unfailed (Failed x) e = absurd (true≢false (sym e))

abbrev pub more_heard : Talk → List ℕ → Talk
more_heard t b = record t { left = heard_on t.left b }

pub more_is : (t : Talk) (b : List ℕ) → awaits t.state ≡ true → more t b ≡ more_heard t b
more_is t b is_true =
    ap (λ (x : Bool). cond x t (record t { left = heard_on t.left b })) (goes_unfailed t.state is_true)

-- what more bytes do, from what was heard without them
progress_more : IsCutAnywhere → (s : State) (l : Listening) (b : List ℕ)
    → progress s (heard_on l b) [] ≡ told s (with_more (awaited_of s) (on (awaited_of s) l []) b)
unfolding progress told
progress_more cut s l b =
    ap (told s) (ap (λ (x : List ℕ). hear (awaited_of s) l.place l.reply x) (append-nil (l.rest ++ b))
    ∙ cut (awaited_of s) l [] b)

-- a dialogue that awaits, with more bytes
run_more : IsStable → IsCutAnywhere → (t : Talk) (b : List ℕ) → awaits t.state ≡ true
    → run (more t b) ≡ run_on (more_heard t b)
    (told t.state (with_more (awaited_of t.state) (on (awaited_of t.state) t.left []) b)) run
run_more stable cut t b is_true =
    ap run (more_is t b is_true) ∙ run_step stable (record t { left = heard_on t.left b }) is_true
    ∙ ap (λ (p : Progress). run_on (record t { left = heard_on t.left b }) p run) (progress_more cut t.state t.left b)

-- where bytes wait
run_waiting : IsStable → IsCutAnywhere → (t : Talk) (l : Listening) (b : List ℕ) → awaits t.state ≡ true
    → run_on (more_heard t b) (told t.state (on (awaited_of t.state) l b)) run
    ≡ run (more (joined t (waits t.state l)) b)
unfolding told progress
run_waiting stable cut t l b is_true =
    let u : Talk = joined t (waits t.state l) in
    let w : Awaited = awaited_of t.state in
    sym (ap run (more_is u b is_true) ∙ run_step stable (record u { left = heard_on u.left b }) is_true
    ∙ ap (λ (x : List ℕ). run_on (record u { left = heard_on u.left b }) (told t.state (hear w l.place l.reply x)) run)
    (append-nil (l.rest ++ b))
    ∙ same_lines (record u { left = heard_on u.left b }) (record t { left = heard_on t.left b })
    (told t.state (on w l b)) run (append-nil t.lines))

-- what comes after an answer
run_answered : (t : Talk) (l : Listening) (a : Answer) (b : List ℕ)
    → run (more (joined t (answered t.state l a)) b) ≡ run (more (run (joined t (answered t.state l a))) b)
    → run_on (more_heard t b) (answered t.state (heard_on l b) a) run
    ≡ run (more (run_on t (answered t.state l a) run) b)
run_answered t l a b later =
    on_done (record t { left = heard_on t.left b }) (answered t.state (heard_on l b) a) run
    (answered_done t.state (heard_on l b) a)
    ∙ ap (λ (p : Progress). run (joined t p)) (answered_on t.state l b a)
    ∙ ap run (joined_on t (answered t.state l a) b)
    ∙ later
    ∙ sym (ap (λ (x : Talk). run (more x b)) (on_done t (answered t.state l a) run (answered_done t.state l a)))

run_wrong : (t : Talk) (at : ℕ) (b : List ℕ)
    → run_on (more_heard t b) (told t.state (NoAnswer at)) run
    ≡ run (more (run_on t (told t.state (NoAnswer at)) run) b)
unfolding told
run_wrong t at b =
    sym (ap (λ (x : Talk). run (more x b)) (stands (joined t (told t.state (NoAnswer at))) refl))

run_heard : IsStable → IsCutAnywhere → (t : Talk) (b : List ℕ) (h : Heard) → awaits t.state ≡ true
    → ((a : Answer) (l : Listening) → h ≡ Answered a l
    → run (more (joined t (answered t.state l a)) b) ≡ run (more (run (joined t (answered t.state l a))) b))
    → run_on (more_heard t b) (told t.state (with_more (awaited_of t.state) h b)) run
    ≡ run (more (run_on t (told t.state h) run) b)
unfolding told
run_heard stable cut t b (Waits l) is_true later = run_waiting stable cut t l b is_true
run_heard stable cut t b (NoAnswer at) is_true later = run_wrong t at b
run_heard stable cut t b (Answered a l) is_true later = run_answered t l a b (later a l refl)

pieces_in : IsStable → IsCutAnywhere → (n : ℕ) (t : Talk) (b : List ℕ) → length t.left.rest < n
    → run (more t b) ≡ run (more (run t) b)
unfolding progress told
pieces_in stable cut zero t b lt = absurd (omega (arith, lt))
pieces_in stable cut (suc n) t b lt = elim (cases_Bool (awaits t.state)) [
  | inr is_false ↦ ap (λ (x : Talk). run (more x b)) (sym (stands t is_false))
  | inl is_true ↦
      let w : Awaited = awaited_of t.state in
      run_more stable cut t b is_true
      ∙ run_heard stable cut t b (on w t.left []) is_true
      (λ a l e.
      let u : Talk = joined t (answered t.state l a) in
      let short : length l.rest < length t.left.rest =
      subst (λ (h : Heard). Shortens (length t.left.rest) h) e (shortens_on stable w t.left) in
      elim (answered_leaves t.state l a) [
        | inr done ↦ ap (λ (x : Talk). run (more x b)) (sym (stands u done.0))
        | inl left ↦ pieces_in stable cut n u b
            (subst (λ (x : Listening). length x.rest < n) (sym left) (omega (arith, short, lt)))
      ])
      ∙ sym (ap (λ (x : Talk). run (more x b)) (run_step stable t is_true))
]

pub spoken_in_pieces_is : IsStable → IsCutAnywhere → IsSpokenInPieces
spoken_in_pieces_is stable cut t b = pieces_in stable cut (suc (length t.left.rest)) t b (omega arith)
