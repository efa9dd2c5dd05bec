-- What a dialogue still sends, one answer at a time.
use Rattle.std.proofs.Common.{◌≡◌, ℕ, zero, suc, ◌<◌, Bool, true, false, List, [], ◌++◌, length}
use Rattle.std.proofs.Common.{refl, sym, ap, ◌∙◌, arith, inl, inr, cond}
use Rattle.std.proofs.lemmas.Bool.{cases_Bool, true≢false}
use Rattle.std.proofs.lemmas.List.{append-nil}
use Rattle.rpc_pdu.specs.Laws.{IsStable}
use Rattle.acct_client.specs.declared.dialogue.Progress.{Progress}
use Rattle.acct_client.specs.declared.dialogue.State.{State}
use Rattle.acct_client.specs.declared.dialogue.State.TheVariants.{Binding, Calling, Ended, Failed}
use Rattle.acct_client.specs.declared.dialogue.Talk.{Talk}
use Rattle.acct_client.specs.Dialogues.{awaits, joined, progress}
use Rattle.acct_client.specs.Talks.{asks, asks_in, asks_on, request}
use Rattle.acct_client.proofs.Moving.{shrinks}

request_none : (s : State) → awaits s ≡ false → request s ≡ []
request_none (Binding command) e = absurd (true≢false e)
request_none (Calling step id size) e = absurd (true≢false e)
request_none Ended e = refl
request_none (Failed x) e = refl

-- where no answer is awaited nothing is sent
none_in : (n : ℕ) (t : Talk) → awaits t.state ≡ false → asks_in n t ≡ []
unfolding asks_in
none_in zero t e = refl
none_in (suc n) t e =
    ap (λ (b : Bool). request t.state
    ++ cond b (asks_on t (progress t.state t.left []) (λ next. asks_in n next)) []) e
    ∙ append-nil (request t.state) ∙ request_none t.state e

pub asks_none : (t : Talk) → awaits t.state ≡ false → asks t ≡ []
unfolding asks
asks_none t e = none_in (suc (length t.left.rest)) t e

step_in : (n : ℕ) (t : Talk) → awaits t.state ≡ true
    → asks_in (suc n) t ≡ request t.state ++ asks_on t (progress t.state t.left []) (λ next. asks_in n next)
unfolding asks_in
step_in n t e = ap (λ (b : Bool). request t.state
    ++ cond b (asks_on t (progress t.state t.left []) (λ next. asks_in n next)) []) e

same_on : (t : Talk) (p : Progress) (f g : Talk → List ℕ) → (p.is_awaiting ≡ false → f (joined t p) ≡ g (joined t p))
    → asks_on t p f ≡ asks_on t p g
same_on t p f g h =
    let P : Bool → Type 0 = λ b. (b ≡ false → f (joined t p) ≡ g (joined t p))
    → cond b [] (f (joined t p)) ≡ cond b [] (g (joined t p)) in
    let split : (b : Bool) → P b = λ b. elim b as P [
      | true ↦ λ k. refl
      | false ↦ λ k. k refl
    ] in
    split p.is_awaiting h

same_asks : IsStable → (m k : ℕ) (t : Talk) → length t.left.rest < m → length t.left.rest < k
    → asks_in m t ≡ asks_in k t
same_asks stable zero k t lt lt' = absurd (omega (arith, lt))
same_asks stable (suc m) zero t lt lt' = absurd (omega (arith, lt'))
same_asks stable (suc m) (suc k) t lt lt' = elim (cases_Bool (awaits t.state)) [
  | inl is_true ↦
      step_in m t is_true
      ∙ ap (λ (bytes : List ℕ). request t.state ++ bytes)
      (same_on t (progress t.state t.left []) (λ next. asks_in m next) (λ next. asks_in k next)
      (λ e. elim (shrinks stable t.state t.left e) [
        | inl short ↦ same_asks stable m k (joined t (progress t.state t.left [])) (omega (arith, short, lt))
            (omega (arith, short, lt'))
        | inr done ↦ none_in m (joined t (progress t.state t.left [])) done
            ∙ sym (none_in k (joined t (progress t.state t.left [])) done)
      ]))
      ∙ sym (step_in k t is_true)
  | inr is_false ↦ none_in (suc m) t is_false ∙ sym (none_in (suc k) t is_false)
]

-- the request of the state, and then what the awaited answer leads to
pub asks_step : IsStable → (t : Talk) → awaits t.state ≡ true
    → asks t ≡ request t.state ++ asks_on t (progress t.state t.left []) asks
unfolding asks
asks_step stable t is_true =
    step_in (length t.left.rest) t is_true
    ∙ ap (λ (bytes : List ℕ). request t.state ++ bytes)
    (same_on t (progress t.state t.left []) (λ next. asks_in (length t.left.rest) next)
    (λ next. asks_in (suc (length next.left.rest)) next)
    (λ e. elim (shrinks stable t.state t.left e) [
      | inl short ↦ same_asks stable (length t.left.rest)
          (suc (length (joined t (progress t.state t.left [])).left.rest))
          (joined t (progress t.state t.left [])) short (omega arith)
      | inr done ↦ none_in (length t.left.rest) (joined t (progress t.state t.left [])) done
          ∙ sym (none_in (suc (length (joined t (progress t.state t.left [])).left.rest))
          (joined t (progress t.state t.left [])) done)
    ]))
