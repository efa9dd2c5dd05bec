-- What a dialogue still sends, where its peer's stream comes in pieces.
use Rattle.std.proofs.Common.{◌≡◌, ℕ, Bool, true, false, List, [], ◌++◌, Some, None}
use Rattle.std.proofs.Common.{refl, sym, ap, ◌∙◌, cond}
use Rattle.std.proofs.lemmas.Bool.{true≢false}
use Rattle.std.proofs.lemmas.List.{append-nil}
use Rattle.rpc_pdu.specs.Laws.{IsStable}
use Rattle.acct_client.specs.declared.dialogue.Progress.{Progress}
use Rattle.acct_client.specs.declared.dialogue.State.{State}
use Rattle.acct_client.specs.declared.dialogue.State.TheVariants.{Binding, Calling, Ended, Failed}
use Rattle.acct_client.specs.declared.dialogue.Talk.{Talk}
use Rattle.acct_client.specs.declared.hearing.Heard.{Heard}
use Rattle.acct_client.specs.declared.hearing.Heard.TheVariants.{Waits, Answered, NoAnswer}
use Rattle.acct_client.specs.declared.hearing.Listening.{Listening}
use Rattle.acct_client.specs.Dialogues.{answered, asked, awaited_of, awaits, is_failed, joined, progress, sent}
use Rattle.acct_client.specs.Dialogues.{told, took}
use Rattle.acct_client.specs.Hearings.{hear, on, with_more, IsCutAnywhere}
use Rattle.acct_client.specs.Runs.{more}
use Rattle.acct_client.proofs.Answering.{answered_done, answered_on, heard_on, more_heard, more_is, progress_on}
use Rattle.acct_client.specs.Talks.{asks, asks_on, bytes_of}
use Rattle.acct_client.specs.steps.Parts.{to_send}
use Rattle.acct_client.proofs.Requesting.{asks_none, asks_step}
use Rattle.acct_client.proofs.Moving.{took_is}

some_is_none : {b : List ℕ} → None ≡ Some b → ⊥
some_is_none e = cc

-- ---- more bytes

pub more_state : (t : Talk) (b : List ℕ) → (more t b).state ≡ t.state
more_state t b =
    let P : Bool → Type 0 = λ x. (cond x t (record t { left = heard_on t.left b })).state ≡ t.state in
    let split : (x : Bool) → P x = λ x. elim x as P [
      | true ↦ refl
      | false ↦ refl
    ] in
    split (is_failed t.state)

more_awaiting : (t : Talk) (b : List ℕ) → (more t b).is_awaiting ≡ t.is_awaiting
more_awaiting t b =
    let P : Bool → Type 0 = λ x. (cond x t (record t { left = heard_on t.left b })).is_awaiting ≡ t.is_awaiting in
    let split : (x : Bool) → P x = λ x. elim x as P [
      | true ↦ refl
      | false ↦ refl
    ] in
    split (is_failed t.state)

joined_on : (t : Talk) (p : Progress) (b : List ℕ) → joined t (progress_on p b) ≡ more (joined t p) b
joined_on t p b =
    let q : Progress = record p { left = heard_on p.left b } in
    let u : Talk = record (joined t p) { left = heard_on (joined t p).left b } in
    let P : Bool → Type 0 = λ x. joined t (cond x p q) ≡ cond x (joined t p) u in
    let split : (x : Bool) → P x = λ x. elim x as P [
      | true ↦ refl
      | false ↦ refl
    ] in
    split (is_failed p.state)

-- ---- what is sent while an answer is awaited, and while none is

sends_idle : (t : Talk) → t.is_awaiting ≡ false → to_send t ≡ asks t
sends_idle t e = ap (λ (b : Bool). cond b (asks_on t (progress t.state t.left []) asks) (asks t)) e

sends_waiting : (t : Talk) → t.is_awaiting ≡ true → to_send t ≡ asks_on t (progress t.state t.left []) asks
sends_waiting t e = ap (λ (b : Bool). cond b (asks_on t (progress t.state t.left []) asks) (asks t)) e

done_asks : (t : Talk) (p : Progress) → p.is_awaiting ≡ false → asks_on t p asks ≡ asks (joined t p)
done_asks t p e = ap (λ (b : Bool). cond b [] (asks (joined t p))) e

-- only the lines of the dialogue before count
same_lines : (t u : Talk) (p : Progress) → t.lines ≡ u.lines → asks_on t p asks ≡ asks_on u p asks
same_lines t u p e =
    let J : List ℕ → Talk = λ ls. record {
      state = p.state;
      is_awaiting = p.is_awaiting;
      left = p.left;
      lines = ls ++ p.printed;
    } in
    ap (λ (ls : List ℕ). cond p.is_awaiting [] (asks (J ls))) e

-- where no answer is awaited in the state nothing is sent
pub none_sends : (t : Talk) (b : List ℕ) → t.is_awaiting ≡ false → awaits t.state ≡ false → to_send (more t b) ≡ []
none_sends t b idle e =
    sends_idle (more t b) (more_awaiting t b ∙ idle)
    ∙ asks_none (more t b) (ap awaits (more_state t b) ∙ e)

-- ---- a piece is heard

-- what is heard of a piece and of what follows it
progress_piece : IsCutAnywhere → (s : State) (l : Listening) (b x : List ℕ)
    → progress s (heard_on l (b ++ x)) [] ≡ told s (with_more (awaited_of s) (on (awaited_of s) l b) x)
unfolding progress
progress_piece cut s l b x =
    ap (told s) (ap (λ (bytes : List ℕ). hear (awaited_of s) l.place l.reply bytes) (append-nil (l.rest ++ (b ++ x)))
    ∙ cut (awaited_of s) l b x)

-- a piece that is heard at once
progress_at_once : (s : State) (l : Listening) (b : List ℕ)
    → progress s (heard_on l b) [] ≡ told s (on (awaited_of s) l b)
unfolding progress
progress_at_once s l b =
    ap (told s) (ap (λ (bytes : List ℕ). hear (awaited_of s) l.place l.reply bytes) (append-nil (l.rest ++ b)))

-- by what is heard of the piece: what is sent before and after it
abbrev SameSends : Talk → List ℕ → Heard → Type 0
SameSends t x h = asks_on t (told t.state (with_more (awaited_of t.state) h x)) asks
    ≡ to_send (more (joined t (told t.state h)) x)

sends_heard : (t : Talk) (x : List ℕ) (h : Heard) → awaits t.state ≡ true → SameSends t x h
unfolding told
sends_heard t x (Waits l) e =
    let u : Talk = joined t (told t.state (Waits l)) in
    let v : Talk = more_heard u x in
    let p : Progress = told t.state (on (awaited_of t.state) l x) in
    same_lines t v p (sym (append-nil t.lines))
    ∙ ap (λ (q : Progress). asks_on v q asks) (sym (progress_at_once t.state l x))
    ∙ sym (sends_waiting v refl)
    ∙ ap to_send (sym (more_is u x e))
sends_heard t x (NoAnswer at) e =
    asks_none (joined t (told t.state (NoAnswer at))) refl
    ∙ sym (none_sends (joined t (told t.state (NoAnswer at))) x refl refl)
sends_heard t x (Answered a l) e =
    let p : Progress = answered t.state l a in
    let idle : p.is_awaiting ≡ false = answered_done t.state l a in
    done_asks t (answered t.state (heard_on l x) a) (answered_done t.state (heard_on l x) a)
    ∙ ap (λ (q : Progress). asks (joined t q)) (answered_on t.state l x a)
    ∙ ap asks (joined_on t p x)
    ∙ sym (sends_idle (more (joined t p) x) (more_awaiting (joined t p) x ∙ idle))

-- a piece moves nothing between what was sent and what will be
pub took_sends : IsCutAnywhere → (t : Talk) (b x : List ℕ) → t.is_awaiting ≡ true → awaits t.state ≡ true
    → to_send (more t (b ++ x)) ≡ to_send (more (took t b) x)
unfolding progress
took_sends cut t b x waiting e =
    let h : Heard = on (awaited_of t.state) t.left b in
    let v : Talk = more_heard t (b ++ x) in
    ap to_send (more_is t (b ++ x) e)
    ∙ sends_waiting v waiting
    ∙ ap (λ (q : Progress). asks_on v q asks) (progress_piece cut t.state t.left b x)
    ∙ same_lines v t (told t.state (with_more (awaited_of t.state) h x)) refl
    ∙ sends_heard t x h e
    ∙ ap (λ (u : Talk). to_send (more u x)) (sym (took_is t b e))

-- while the answer isn't whole nothing is sent
pub waits_sends : (t : Talk) (b : List ℕ) → t.is_awaiting ≡ true → awaits t.state ≡ true
    → (took t b).is_awaiting ≡ true → to_send (more t b) ≡ []
unfolding progress
waits_sends t b waiting e still =
    let p : Progress = told t.state (on (awaited_of t.state) t.left b) in
    let v : Talk = more_heard t b in
    let on_it : p.is_awaiting ≡ true = ap (λ (u : Talk). u.is_awaiting) (sym (took_is t b e)) ∙ still in
    ap to_send (more_is t b e)
    ∙ sends_waiting v waiting
    ∙ ap (λ (q : Progress). asks_on v q asks) (progress_at_once t.state t.left b)
    ∙ ap (λ (w : Bool). cond w [] (asks (joined v p))) on_it

pub awaits_told : (s : State) (h : Heard) → awaits s ≡ true → (told s h).is_awaiting ≡ true
    → awaits (told s h).state ≡ true
unfolding told
awaits_told s (Waits l) e still = e
awaits_told s (NoAnswer at) e still = absurd (true≢false (sym still))
awaits_told s (Answered a l) e still = absurd (true≢false (sym still ∙ answered_done s l a))

-- an answer is awaited only where one is awaited in the state
pub took_awaits : (t : Talk) (b : List ℕ) → awaits t.state ≡ true → (took t b).is_awaiting ≡ true
    → awaits (took t b).state ≡ true
unfolding progress
took_awaits t b e still =
    let same : took t b ≡ joined t (progress t.state t.left b) = took_is t b e in
    ap (λ (u : Talk). awaits u.state) same
    ∙ awaits_told t.state (on (awaited_of t.state) t.left b) e (ap (λ (u : Talk). u.is_awaiting) (sym same) ∙ still)

-- ---- a request is made

-- a state that sends awaits an answer
pub sends_some : (s : State) (b : List ℕ) → sent s ≡ Some b → awaits s ≡ true
sends_some (Binding command) b e = refl
sends_some (Calling step id size) b e = refl
sends_some Ended b e = absurd (some_is_none e)
sends_some (Failed x) b e = absurd (some_is_none e)

pub sends_none : (s : State) → sent s ≡ None → awaits s ≡ false
sends_none (Binding command) e = absurd (some_is_none (sym e))
sends_none (Calling step id size) e = absurd (some_is_none (sym e))
sends_none Ended e = refl
sends_none (Failed x) e = refl

-- what was to be sent is the request and what is still to be sent
pub next_sends : IsStable → (t : Talk) (b x : List ℕ) → t.is_awaiting ≡ false → sent t.state ≡ Some b
    → to_send (more t x) ≡ b ++ to_send (more (asked t) x)
next_sends stable t b x idle e =
    let on_it : awaits t.state ≡ true = sends_some t.state b e in
    let v : Talk = more_heard t x in
    let w : Talk = more_heard (asked t) x in
    let p : Progress = progress t.state (heard_on t.left x) [] in
    ap to_send (more_is t x on_it)
    ∙ sends_idle v idle
    ∙ asks_step stable v on_it
    ∙ ap (λ (bytes : List ℕ). bytes ++ asks_on v p asks) (ap bytes_of e)
    ∙ ap (λ (bytes : List ℕ). b ++ bytes) (same_lines v w p refl
    ∙ sym (sends_waiting w on_it)
    ∙ ap to_send (sym (more_is (asked t) x on_it)))
