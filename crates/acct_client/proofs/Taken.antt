-- What a piece that was taken leaves keeps the promises of the call.
use Rattle.std.proofs.Common.{◌≡◌, ◌≢◌, ℕ, ◌+◌, ◌≤◌, Bool, true, false, not, List, length, refl, sym, ap, subst}
use Rattle.std.proofs.Common.{◌∙◌}
use Rattle.std.proofs.Common.{inl, inr, ◌⊎◌, cond, arith, Result, IfOk, IfErr}
use Rattle.std.proofs.lemmas.Bool.{cases_Bool, true≢false}
use Rattle.rpc_pdu.specs.Laws.{IsStable}
use Rattle.acct_client.specs.declared.dialogue.State.{State}
use Rattle.acct_client.specs.declared.dialogue.State.TheVariants.{Binding, Calling, Ended, Failed}
use Rattle.acct_client.specs.declared.dialogue.Talk.{Talk}
use Rattle.acct_client.specs.declared.errors.AskError.{AskError}
use Rattle.acct_client.specs.declared.errors.AskError.TheVariants.{Memory}
use Rattle.acct_client.specs.Askers.{answer_of, bytes_taken, lost, IsFailed, IsFitTalk, IsTaken, MayTake}
use Rattle.acct_client.specs.Dialogues.{awaits, is_failed, joined, progress, took, IsFitState}
use Rattle.acct_client.specs.Hearings.{IsCutAnywhere}
use Rattle.acct_client.specs.Talks.{run}
use Rattle.acct_client.specs.Runs.{Comes, IsHeard}
use Rattle.acct_client.proofs.Running.{goes_unfailed}
use Rattle.acct_client.proofs.Taking.{comes_by, count_piece, failed_comes, goes_on_by, piece_awaits, piece_ends}
use Rattle.acct_client.proofs.Taking.{piece_known, piece_runs, piece_waits}

abbrev state_of : Talk → State
state_of t = t.state

-- where an answer is awaited, a piece was heard
pub record Took (t new : Talk) (b : List ℕ) : Type 0 where
  pub stable : IsStable
  pub cut : IsCutAnywhere
  pub awaiting : awaits t.state ≡ true
  pub same : new ≡ joined t (progress t.state t.left b)

pub awaits_unfailed : (t : Talk) → IsFitTalk t → MayTake t → is_failed t.state ≡ false → awaits t.state ≡ true
awaits_unfailed t fit may e = fit.awaiting (may e)

took_unfailed : (t : Talk) (b : List ℕ) → awaits t.state ≡ true → took t b ≡ joined t (progress t.state t.left b)
unfolding took
took_unfailed t b e = ap (λ (x : Bool). cond x t (joined t (progress t.state t.left b))) (goes_unfailed t.state e)

failed_silent : (s : State) (e : AskError) → s ≡ Failed e → awaits s ≡ false
failed_silent s e is = ap awaits is

awaits_nothing : (t : Talk) (e : AskError) → IsFitTalk t → t.state ≡ Failed e → t.is_awaiting ≡ false
awaits_nothing t e fit is = elim (cases_Bool t.is_awaiting) [
  | inl yes_it_is ↦ absurd (true≢false (sym (fit.awaiting yes_it_is) ∙ ap awaits is))
  | inr not_so ↦ not_so
]

-- ---- an error that came before

pub again_failed : (t : Talk) (e : AskError) (b : List ℕ) → IsFitTalk t → t.state ≡ Failed e → IsFailed e t t b
unfolding took
again_failed t e b fit is = record {
  state = is;
  awaiting = awaits_nothing t e fit is;
  cause = λ other. sym (ap (λ (x : Bool). cond x t (joined t (progress t.state t.left b))) (ap is_failed is));
  lines = λ memory. refl;
}

pub again_comes : IsStable → IsCutAnywhere → (t : Talk) (e : AskError) (b : List ℕ) → t.state ≡ Failed e → Comes t t b
again_comes stable cut t e b is = failed_comes stable cut t b (ap is_failed is) (ap awaits is)

-- ---- an error that the piece brought

pub now_failed : (t new : Talk) (e : AskError) (b : List ℕ) → Took t new b → new.state ≡ Failed e → IsFailed e t new b
now_failed t new e b h is =
    let p = progress t.state t.left b in
    let state : p.state ≡ Failed e = sym (ap (λ (x : Talk). x.state) h.same) ∙ is in
    record {
      state = is;
      awaiting = elim (cases_Bool p.is_awaiting) [
        | inl yes_it_is ↦ absurd (true≢false (sym (piece_awaits t b h.awaiting yes_it_is) ∙ ap awaits state))
        | inr not_so ↦ ap (λ (x : Talk). x.is_awaiting) h.same ∙ not_so
      ];
      cause = λ other. h.same ∙ sym (took_unfailed t b h.awaiting);
      lines = λ memory. absurd (piece_known t b h.awaiting (state ∙ ap Failed memory));
    }

pub now_comes : (t new : Talk) (e : AskError) (b : List ℕ) → Took t new b → new.state ≡ Failed e → Comes t new b
now_comes t new e b h is =
    let p = progress t.state t.left b in
    let state : p.state ≡ Failed e = sym (ap (λ (x : Talk). x.state) h.same) ∙ is in
    comes_by h.stable h.cut t new b (h.same ∙ piece_ends h.stable h.cut t b h.awaiting (ap awaits state))

-- ---- no error

pub now_taken : (t new : Talk) (b : List ℕ) → Took t new b → is_failed new.state ≡ false
    → IsTaken (not new.is_awaiting) t new b
now_taken t new b h going = record {
  dialogue = h.same ∙ sym (took_unfailed t b h.awaiting);
  going = going;
  answer = refl;
}

not_false : (b : Bool) → not b ≡ false → b ≡ true
not_false true e = refl
not_false false e = absurd (true≢false e)

pub now_heard : (t new : Talk) (b : List ℕ) → Took t new b → IsHeard (not new.is_awaiting) t new b
now_heard t new b h = record {
  goes = goes_on_by h.stable h.cut t new b
      (ap (λ (x : Talk). run x) h.same ∙ piece_runs h.stable h.cut t b h.awaiting);
  waits = λ e.
      let waits : (progress t.state t.left b).is_awaiting ≡ true =
      sym (ap (λ (x : Talk). x.is_awaiting) h.same) ∙ not_false new.is_awaiting e in
      comes_by h.stable h.cut t new b (h.same ∙ piece_waits h.stable t b h.awaiting waits);
}

-- ---- and in each case

pub now_fit : (t new : Talk) (b : List ℕ) → Took t new b → IsFitState new.state → IsFitTalk new
now_fit t new b h fit = record {
  state = fit;
  awaiting = λ e. ap (λ (x : Talk). awaits x.state) h.same
      ∙ piece_awaits t b h.awaiting (sym (ap (λ (x : Talk). x.is_awaiting) h.same) ∙ e);
}

pub now_counts : (t new : Talk) (b : List ℕ) → Took t new b → bytes_taken new ≤ bytes_taken t + length b
now_counts t new b h =
    subst (λ (x : Talk). bytes_taken x ≤ bytes_taken t + length b) (sym h.same) (count_piece h.stable t b)

-- ---- all of it, by what is answered

-- a piece was taken, or an error had come before
pub record Kept (t new : Talk) (b : List ℕ) : Type 0 where
  pub stable : IsStable
  pub cut : IsCutAnywhere
  pub fit : IsFitTalk t
  pub awaited : MayTake t
  pub same : new ≡ took t b

-- either the error had come before, or the piece was heard
abbrev Both : Talk → Talk → List ℕ → Type 0
Both t new b = ((is_failed t.state ≡ true) × (new ≡ t)) ⊎ Took t new b

both : (t new : Talk) (b : List ℕ) → Kept t new b → Both t new b
unfolding took
both t new b h = elim (cases_Bool (is_failed t.state)) [
  | inl so ↦ inl (so, h.same ∙ ap (λ (x : Bool). cond x t (joined t (progress t.state t.left b))) so)
  | inr not_so ↦ inr (record {
    stable = h.stable;
    cut = h.cut;
    awaiting = awaits_unfailed t h.fit h.awaited not_so;
    same = h.same ∙ took_unfailed t b (awaits_unfailed t h.fit h.awaited not_so);
  })
]

ok_in : (t new : Talk) (b : List ℕ) → Both t new b → (s : State) → new.state ≡ s
    → IfOk (answer_of s new.is_awaiting) (λ whole. IsTaken whole t new b)
ok_in t new b h (Failed e) is = tt
ok_in t new b (inl x) (Binding command) is = absurd (true≢false (sym x.0 ∙ ap is_failed (sym (ap state_of x.1) ∙ is)))
ok_in t new b (inl x) (Calling step id size) is =
    absurd (true≢false (sym x.0 ∙ ap is_failed (sym (ap state_of x.1) ∙ is)))
ok_in t new b (inl x) Ended is = absurd (true≢false (sym x.0 ∙ ap is_failed (sym (ap state_of x.1) ∙ is)))
ok_in t new b (inr h) (Binding command) is = now_taken t new b h (ap is_failed is)
ok_in t new b (inr h) (Calling step id size) is = now_taken t new b h (ap is_failed is)
ok_in t new b (inr h) Ended is = now_taken t new b h (ap is_failed is)

err_in : (t new : Talk) (b : List ℕ) → IsFitTalk t → Both t new b → (s : State) → new.state ≡ s
    → IfErr (answer_of s new.is_awaiting) (λ e. IsFailed e t new b)
err_in t new b fit (inl x) (Failed e) is =
    subst (λ (y : Talk). IsFailed e t y b) (sym x.1) (again_failed t e b fit (sym (ap state_of x.1) ∙ is))
err_in t new b fit (inr h) (Failed e) is = now_failed t new e b h is
err_in t new b fit h (Binding command) is = tt
err_in t new b fit h (Calling step id size) is = tt
err_in t new b fit h Ended is = tt

heard_in : (t new : Talk) (b : List ℕ) → Both t new b → (s : State) → new.state ≡ s
    → IfOk (answer_of s new.is_awaiting) (λ whole. IsHeard whole t new b)
heard_in t new b h (Failed e) is = tt
heard_in t new b (inl x) (Binding command) is =
    absurd (true≢false (sym x.0 ∙ ap is_failed (sym (ap state_of x.1) ∙ is)))
heard_in t new b (inl x) (Calling step id size) is =
    absurd (true≢false (sym x.0 ∙ ap is_failed (sym (ap state_of x.1) ∙ is)))
heard_in t new b (inl x) Ended is = absurd (true≢false (sym x.0 ∙ ap is_failed (sym (ap state_of x.1) ∙ is)))
heard_in t new b (inr h) (Binding command) is = now_heard t new b h
heard_in t new b (inr h) (Calling step id size) is = now_heard t new b h
heard_in t new b (inr h) Ended is = now_heard t new b h

last_in : IsStable → IsCutAnywhere → (t new : Talk) (b : List ℕ) → Both t new b → (s : State) → new.state ≡ s
    → IfErr (answer_of s new.is_awaiting) (λ e. e ≢ Memory → Comes t new b)
last_in stable cut t new b (inl x) (Failed e) is = λ other.
    subst (λ (y : Talk). Comes t y b) (sym x.1) (again_comes stable cut t e b (sym (ap state_of x.1) ∙ is))
last_in stable cut t new b (inr h) (Failed e) is = λ other. now_comes t new e b h is
last_in stable cut t new b h (Binding command) is = tt
last_in stable cut t new b h (Calling step id size) is = tt
last_in stable cut t new b h Ended is = tt

pub kept_answers : (t new : Talk) (b : List ℕ) → Kept t new b → (r : Result Bool AskError)
    → r ≡ answer_of new.state new.is_awaiting → IfOk r (λ whole. IsTaken whole t new b)
kept_answers t new b h r is =
    subst (λ (x : Result Bool AskError). IfOk x (λ whole. IsTaken whole t new b)) (sym is)
    (ok_in t new b (both t new b h) new.state refl)

pub kept_fails : (t new : Talk) (b : List ℕ) → Kept t new b → (r : Result Bool AskError)
    → r ≡ answer_of new.state new.is_awaiting → IfErr r (λ e. IsFailed e t new b)
kept_fails t new b h r is =
    subst (λ (x : Result Bool AskError). IfErr x (λ e. IsFailed e t new b)) (sym is)
    (err_in t new b h.fit (both t new b h) new.state refl)

pub kept_hears : (t new : Talk) (b : List ℕ) → Kept t new b → (r : Result Bool AskError)
    → r ≡ answer_of new.state new.is_awaiting → IfOk r (λ whole. IsHeard whole t new b)
kept_hears t new b h r is =
    subst (λ (x : Result Bool AskError). IfOk x (λ whole. IsHeard whole t new b)) (sym is)
    (heard_in t new b (both t new b h) new.state refl)

pub kept_ends : (t new : Talk) (b : List ℕ) → Kept t new b → (r : Result Bool AskError)
    → r ≡ answer_of new.state new.is_awaiting → IfErr r (λ e. e ≢ Memory → Comes t new b)
kept_ends t new b h r is =
    subst (λ (x : Result Bool AskError). IfErr x (λ e. e ≢ Memory → Comes t new b)) (sym is)
    (last_in h.stable h.cut t new b (both t new b h) new.state refl)

pub kept_counts : (t new : Talk) (b : List ℕ) → Kept t new b → bytes_taken new ≤ bytes_taken t + length b
kept_counts t new b h = elim (both t new b h) [
  | inl x ↦ subst (λ (y : Talk). bytes_taken y ≤ bytes_taken t + length b) (sym x.1) (omega arith)
  | inr heard ↦ now_counts t new b heard
]

pub kept_fits : (t new : Talk) (b : List ℕ) → Kept t new b → IsFitState new.state → IsFitTalk new
kept_fits t new b h fit = elim (both t new b h) [
  | inl x ↦ subst (λ (y : Talk). IsFitTalk y) (sym x.1) h.fit
  | inr heard ↦ now_fit t new b heard fit
]

-- ---- running out of memory

pub lost_fails : (t new : Talk) (lines b : List ℕ) → new ≡ lost lines → lines ≡ t.lines → IsFailed Memory t new b
lost_fails t new lines b same is =
    subst (λ (y : Talk). IsFailed Memory t y b) (sym same)
    (record { state = refl; awaiting = refl; cause = λ other. absurd (other refl); lines = λ memory. is })

pub lost_counts : (t new : Talk) (lines b : List ℕ) → new ≡ lost lines → bytes_taken new ≤ bytes_taken t + length b
lost_counts t new lines b same =
    subst (λ (y : Talk). bytes_taken y ≤ bytes_taken t + length b) (sym same) (omega arith)

pub lost_fits : (new : Talk) (lines : List ℕ) → new ≡ lost lines → IsFitTalk new
lost_fits new lines same =
    subst (λ (y : Talk). IsFitTalk y) (sym same)
    (record { state = tt; awaiting = λ e. absurd (true≢false (sym e)) })
