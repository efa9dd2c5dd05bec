-- What is asked next keeps what was taken of the stream.
use Rattle.std.proofs.Common.{◌≡◌, Bool, true, false, List, ℕ, refl, sym, ap, subst, ◌∙◌, Option, Some, None}
use Rattle.std.proofs.Common.{◌≢◌, Result, IfErr, is_some, option_map}
use Rattle.std.proofs.lemmas.Bool.{true≢false}
use Rattle.rpc_pdu.specs.Laws.{IsStable}
use Rattle.acct_client.specs.declared.dialogue.State.{State}
use Rattle.acct_client.specs.declared.dialogue.State.TheVariants.{Binding, Calling, Ended, Failed}
use Rattle.acct_client.specs.declared.dialogue.Talk.{Talk}
use Rattle.acct_client.specs.declared.errors.AskError.{AskError}
use Rattle.acct_client.specs.declared.errors.AskError.TheVariants.{Memory}
use Rattle.acct_client.specs.Dialogues.{awaits, sent}
use Rattle.acct_client.specs.Talks.{run}
use Rattle.acct_client.specs.Runs.{Comes, IsKept}
use Rattle.acct_client.proofs.Running.{run_step, stands}

-- a run looks at the state alone for whether an answer is awaited
run_awaits : IsStable → (t : Talk) (b : Bool) → awaits t.state ≡ true → run (record t { is_awaiting = b }) ≡ run t
run_awaits stable t b is_true = run_step stable (record t { is_awaiting = b }) is_true ∙ sym (run_step stable t is_true)

-- where nothing is sent the dialogue stays
same_idle : (t : Talk) (b : Bool) → t.is_awaiting ≡ false → b ≡ false → record t { is_awaiting = b } ≡ t
same_idle t b idle e = ap (λ (x : Bool). record t { is_awaiting = x }) (e ∙ sym idle)

kept_in : IsStable → (t : Talk) (b : Bool) → t.is_awaiting ≡ false → (s : State) → t.state ≡ s → b ≡ awaits s
    → IsKept (sent s) t (record t { is_awaiting = b })
kept_in stable t b idle (Binding command) is e = λ c stream so_far. run_awaits stable t b (ap awaits is) ∙ so_far
kept_in stable t b idle (Calling step id size) is e = λ c stream so_far. run_awaits stable t b (ap awaits is) ∙ so_far
kept_in stable t b idle Ended is e = λ c stream so_far.
    same_idle t b idle e ∙ sym (stands t (ap awaits is)) ∙ so_far
kept_in stable t b idle (Failed x) is e = λ c stream so_far.
    same_idle t b idle e ∙ sym (stands t (ap awaits is)) ∙ so_far

pub kept_asked : IsStable → (t : Talk) (b : Bool) (x : Option (List ℕ)) → t.is_awaiting ≡ false → x ≡ sent t.state
    → b ≡ awaits t.state → IsKept x t (record t { is_awaiting = b })
kept_asked stable t b x idle is e =
    subst (λ (y : Option (List ℕ)). IsKept y t (record t { is_awaiting = b })) (sym is)
    (kept_in stable t b idle t.state refl e)

-- whether something is sent, as the state tells
pub some_sent : {T : Type 0} (f : T → List ℕ) (o : Option T) (s : State) (b : Bool) → b ≡ is_some o
    → option_map f o ≡ sent s → b ≡ awaits s
some_sent f (Some x) (Binding command) b e is = e
some_sent f (Some x) (Calling step id size) b e is = e
some_sent f None Ended b e is = e
some_sent f None (Failed x) b e is = e
some_sent f None (Binding command) b e is = absurd (true≢false (sym (ap is_some is)))
some_sent f None (Calling step id size) b e is = absurd (true≢false (sym (ap is_some is)))
some_sent f (Some y) Ended b e is = absurd (true≢false (ap is_some is))
some_sent f (Some y) (Failed x) b e is = absurd (true≢false (ap is_some is))

-- a promise of the dialogue that was taken out, and of that which is put back, is one of those before and after
pub last_of : (t u new kept : Talk) (b : List ℕ) (r : Result Bool AskError) → u ≡ t → kept ≡ new
    → IfErr r (λ e. e ≢ Memory → Comes u new b) → IfErr r (λ e. e ≢ Memory → Comes t kept b)
last_of t u new kept b r same is h =
    subst (λ (y : Talk). IfErr r (λ e. e ≢ Memory → Comes t y b)) (sym is)
    (subst (λ (x : Talk). IfErr r (λ e. e ≢ Memory → Comes x new b)) same h)
