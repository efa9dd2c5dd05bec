-- Acts that were answered one after the other: what is said of a link whose answers they are, over any gate.
use Rattle.std.proofs.Common.{◌≡◌, ℕ, true, false, List, [], ◌∷◌, ◌++◌, inl, inr, ◌⊎◌, refl, sym, ◌∙◌, subst, length}
use Rattle.std.proofs.Common.{Ok, Err, Result}
use Rattle.acct_calls.specs.declared.calls.Call.{Call}
use Rattle.acct_machine.specs.State.{Start}
use Rattle.acct_machine.specs.Passing.{KeepsConnection}
use Rattle.acct_machine.specs.declared.entry.Entry.{Entry}
use Rattle.acct_stubs.specs.declared.errors.WireError.{WireError}
use Rattle.acct_links.specs.Links.{Told, FaultsAre}
use Rattle.rpc_session.specs.declared.sessions.Act.{Act}
use Rattle.rpc_session.specs.declared.sessions.Act.TheVariants as act
use Rattle.rpc_session.specs.declared.sessions.Request.{Request}
use Rattle.link_sessions.specs.declared.ends.Stop.{Stop}
use Rattle.link_sessions.specs.declared.ends.Stop.TheVariants as stop
use Rattle.link_sessions.specs.Answering.{MeetsFullBy}
use Rattle.link_sessions.specs.Transcript.{call_on, busy_bytes, IsFrontOf}
use Rattle.link_sessions.specs.Sessions.{Faults}
use Rattle.link_sessions.specs.steps.SoFar.{end_of_stop}
use Rattle.link_sessions.specs.Taking.{AnswersAct, TakesAct, TakesActs, HaltsAct, HaltsActs, FullRequest}
use Rattle.link_sessions.specs.Taking.{IsSent, IsSentInPart}
use Rattle.link_sessions.specs.steps.Talking.{Answers, Talks, StopsTalk, SendsSome}
use Rattle.link_sessions.proofs.Answering.{answers-bytes, answers-closed, request-is-answered, request-meets-full}
use Rattle.link_sessions.proofs.Answering.{request-is-wanting}
use Rattle.link_sessions.proofs.Faults.{faults-none, faults-then, ends-then}
use Rattle.link_sessions.proofs.Talks.{talks-none, talks-one, talks-then, stops-cut, stops-full, stops-wanting}
use Rattle.link_sessions.proofs.Talks.{stops-then, stops-before, sends-all, sends-front}

-- one act more
pub takes-more : {V U : Type 0} (takes : V → List ℕ → V → Type 0) (start : U → Start) (known : U → List Entry)
    (finds : U → List Entry → Type 0) (serves : U → ℕ → Type 0) (k : ℕ) (xs : List Act) (x : Act)
    (t : V) (g : U) (mid : V) (there : U) (t' : V) (g' : U)
    → TakesActs takes start known finds serves k xs t g mid there
    → TakesAct takes start known finds serves k x mid there t' g'
    → TakesActs takes start known finds serves k (xs ++ x ∷ []) t g t' g'
takes-more {V} {U} takes start known finds serves k [] x t g mid there t' g' same one = record {
  mid = t';
  there = g';
  one = subst (λ (s : V). TakesAct takes start known finds serves k x s g t' g') same.0
      (subst (λ (h : U). TakesAct takes start known finds serves k x mid h t' g') same.1 one);
  others = (refl, refl);
}
takes-more takes start known finds serves k (y ∷ xs) x t g mid there t' g' done one = record {
  mid = done.mid;
  there = done.there;
  one = done.one;
  others =
      takes-more takes start known finds serves k xs x done.mid done.there mid there t' g' done.others one;
}

-- a request that found the history full is a call
pub full-request : {V : Type 0} (takes fails : V → List ℕ → V → Type 0) (start : Start) (finds : List Entry → Type 0)
    (left : List Entry) (n : ℕ) (asked : Request) (t t' : V) (r : Result Call WireError)
    → call_on asked.face asked.opnum asked.stub ≡ r → MeetsFullBy start finds left (length asked.stub) n r
    → takes t (busy_bytes asked) t' ⊎ fails t (busy_bytes asked) t'
    → FullRequest takes fails start finds left n asked t t'
full-request takes fails start finds left n asked t t' (Err e) is meets told = absurd meets
full-request takes fails start finds left n asked t t' (Ok call) is meets told =
    record { call = call; decoded = is; full = meets; told = told }

-- ---- on a link

sends-told : (s t : Told) (bytes : List ℕ) → IsSent s t bytes ⊎ IsSentInPart s t bytes → SendsSome s t bytes
sends-told s t bytes (inl sent) = sends-all s t bytes sent.sends
sends-told s t bytes (inr part) = sends-front s t bytes part.front

told-faults : (s t : Told) (bytes : List ℕ) → IsSent s t bytes ⊎ IsSentInPart s t bytes
    → FaultsAre false false s t ⊎ FaultsAre false true s t
told-faults s t bytes (inl sent) = inl sent.faults
told-faults s t bytes (inr part) = inr part.faults

module _ {V U : Type 0} (told : V → Told) (start : U → Start) (known : U → List Entry)
    (finds : U → List Entry → Type 0) (serves : U → ℕ → Type 0) (k : ℕ)
    (fronts : (g : U) (found : List Entry) → finds g found → IsFrontOf (known g) found)
    (passes : (g : U) (j : ℕ) (found : List Entry) → serves g j → finds g found
    → KeepsConnection (start g) j (known g) found) where
  act-answers : (x : Act) (g g' : U) (bytes : List ℕ) → serves g k
      → AnswersAct (start g) k (finds g) (known g) (known g') x bytes
      → Answers (start g) k (x ∷ []) (known g) (known g') bytes
  act-answers (act.Answered given) g g' bytes served is =
      subst (λ (h : List Entry). Answers (start g) k (act.Answered given ∷ []) (known g) h bytes) (sym is.0)
      (subst (λ (bs : List ℕ). Answers (start g) k (act.Answered given ∷ []) (known g) (known g) bs) (sym is.1)
      (answers-bytes (start g) k (known g) given))
  act-answers (act.Call asked) g g' bytes served is =
      request-is-answered (start g) k (finds g) (known g) (known g') asked
      (λ found finds_it. (fronts g found finds_it, passes g k found served finds_it)) bytes is
  act-answers (act.Closed place cause given) g g' bytes served is =
      subst (λ (h : List Entry). Answers (start g) k (act.Closed place cause given ∷ []) (known g) h bytes)
      (sym is.0)
      (subst (λ (bs : List ℕ). Answers (start g) k (act.Closed place cause given ∷ []) (known g) (known g) bs)
      (sym is.1) (answers-closed (start g) k (known g) place cause given))

  -- the acts were answered on the link
  pub acts-talk : (acts : List Act) (t : V) (g : U) (t' : V) (g' : U)
      → TakesActs (λ s bytes s'. IsSent (told s) (told s') bytes) start known finds serves k acts t g t' g'
      → Talks (start g) k acts (known g) (known g') (told t) (told t')
  acts-talk [] t g t' g' same =
      subst (λ (s : V). Talks (start g) k [] (known g) (known g') (told t) (told s)) (sym same.0)
      (subst (λ (h : U). Talks (start g) k [] (known g) (known h) (told t) (told t)) (sym same.1)
      (talks-none (start g) k (known g) (told t)))
  acts-talk (x ∷ xs) t g t' g' done =
      talks-then (start g) k (x ∷ []) xs (known g) (known done.there) (known g') (told t) (told done.mid) (told t')
      (talks-one (start g) k (x ∷ []) (known g) (known done.there) (told t) (told done.mid) done.one.bytes
      (act-answers x g done.there done.one.bytes done.one.served done.one.answers) done.one.taken.sends)
      (subst (λ (s : Start). Talks s k xs (known done.there) (known g') (told done.mid) (told t')) done.one.same
      (acts-talk xs done.mid done.there t' g' done.others))

  starts : (acts : List Act) (t : V) (g : U) (t' : V) (g' : U)
      → TakesActs (λ s bytes s'. IsSent (told s) (told s') bytes) start known finds serves k acts t g t' g'
      → start g' ≡ start g
  starts [] t g t' g' same = subst (λ (h : U). start h ≡ start g) (sym same.1) refl
  starts (x ∷ xs) t g t' g' done = starts xs done.mid done.there t' g' done.others ∙ done.one.same

  act-stops : (why : Stop) (x : Act) (t : V) (g : U) (t' : V) (g' : U) → serves g k
      → HaltsAct (λ s bytes s'. IsSent (told s) (told s') bytes) (λ s bytes s'. IsSentInPart (told s) (told s') bytes)
      start known finds k x t g t' g' why
      → StopsTalk (start g) k (x ∷ []) (known g) (known g') (told t) (told t') why
  act-stops stop.WriteFault x t g t' g' served h =
      stops-cut (start g) k x (known g) (known g') (told t) (told t') h.bytes
      (act-answers x g g' h.bytes served h.answers) h.failed.front
  act-stops stop.NoMemory (act.Call asked) t g t' g' served h =
      subst (λ (s : V). StopsTalk (start g) k (act.Call asked ∷ []) (known g) (known g') (told t) (told s)
      stop.NoMemory)
      (sym h.1)
      (stops-wanting (start g) k (act.Call asked ∷ []) (known g) (known g') (told t)
      (request-is-wanting (start g) k (finds g) (known g) (known g') asked
      (λ found finds_it. (fronts g found finds_it, passes g k found served finds_it)) h.0))
  act-stops stop.NoMemory (act.Answered bytes) t g t' g' served h = absurd h.0
  act-stops stop.NoMemory (act.Closed place cause bytes) t g t' g' served h = absurd h.0
  act-stops (stop.Full n) (act.Call asked) t g t' g' served h =
      stops-full (start g) k n asked (known g) (known g') (told t) (told t')
      (request-meets-full (start g) k (finds g) (known g) (known g') asked
      (λ found finds_it. (fronts g found finds_it, passes g k found served finds_it)) h.call n h.decoded h.full)
      (sends-told (told t) (told t') (busy_bytes asked) h.told)
  act-stops (stop.Full n) (act.Answered bytes) t g t' g' served h = absurd h
  act-stops (stop.Full n) (act.Closed place cause bytes) t g t' g' served h = absurd h

  -- they were, up to one that wasn't
  pub acts-stop : (acts : List Act) (t : V) (g : U) (t' : V) (g' : U) (why : Stop)
      → HaltsActs (λ s bytes s'. IsSent (told s) (told s') bytes) (λ s bytes s'. IsSentInPart (told s) (told s') bytes)
      start known finds serves k acts t g t' g' why
      → StopsTalk (start g) k acts (known g) (known g') (told t) (told t') why
  acts-stop acts t g t' g' why h =
      subst (λ (xs : List Act). StopsTalk (start g) k xs (known g) (known g') (told t) (told t') why) (sym h.splits)
      (stops-then (start g) k h.done (h.begun ∷ h.others) (known g) (known h.there) (known g') (told t) (told h.mid)
      (told t') why (acts-talk h.done t g h.mid h.there h.answered)
      (subst (λ (s : Start). StopsTalk s k (h.begun ∷ h.others) (known h.there) (known g') (told h.mid) (told t') why)
      (starts h.done t g h.mid h.there h.answered)
      (stops-before (start h.there) k (h.begun ∷ []) h.others (known h.there) (known g') (told h.mid) (told t') why
      (act-stops why h.begun h.mid h.there t' g' h.served h.halts))))

  -- ---- which calls of the link failed

  -- none, while answers are written whole
  pub acts-quiet : (acts : List Act) (t : V) (g : U) (t' : V) (g' : U)
      → TakesActs (λ s bytes s'. IsSent (told s) (told s') bytes) start known finds serves k acts t g t' g'
      → FaultsAre false false (told t) (told t')
  acts-quiet [] t g t' g' same =
      subst (λ (s : V). FaultsAre false false (told t) (told s)) (sym same.0) (faults-none (told t))
  acts-quiet (x ∷ xs) t g t' g' done =
      faults-then false false (told t) (told done.mid) (told t') done.one.taken.faults
      (acts-quiet xs done.mid done.there t' g' done.others)

  act-faults : (why : Stop) (x : Act) (t : V) (g : U) (t' : V) (g' : U)
      → HaltsAct (λ s bytes s'. IsSent (told s) (told s') bytes) (λ s bytes s'. IsSentInPart (told s) (told s') bytes)
      start known finds k x t g t' g' why
      → Faults (end_of_stop why) (told t) (told t')
  act-faults stop.WriteFault x t g t' g' h = h.failed.faults
  act-faults stop.NoMemory x t g t' g' h =
      subst (λ (s : V). FaultsAre false false (told t) (told s)) (sym h.1) (faults-none (told t))
  act-faults (stop.Full n) (act.Call asked) t g t' g' h = told-faults (told t) (told t') (busy_bytes asked) h.told
  act-faults (stop.Full n) (act.Answered bytes) t g t' g' h = absurd h
  act-faults (stop.Full n) (act.Closed place cause bytes) t g t' g' h = absurd h

  -- where an act wasn't answered, the one that is why
  pub acts-fault : (acts : List Act) (t : V) (g : U) (t' : V) (g' : U) (why : Stop)
      → HaltsActs (λ s bytes s'. IsSent (told s) (told s') bytes) (λ s bytes s'. IsSentInPart (told s) (told s') bytes)
      start known finds serves k acts t g t' g' why
      → Faults (end_of_stop why) (told t) (told t')
  acts-fault acts t g t' g' why h =
      ends-then (end_of_stop why) (told t) (told h.mid) (told t') (acts-quiet h.done t g h.mid h.there h.answered)
      (act-faults why h.begun h.mid h.there t' g' h.halts)
