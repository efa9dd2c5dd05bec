-- Acts that were answered to the lines of a replay, over its machine: what they do.
use Rattle.std.proofs.Common.{◌≡◌, ℕ, suc, Bool, true, false, List, [], ◌∷◌, ◌++◌, inl, inr, length, Option, Some}
use Rattle.std.proofs.Common.{None, Result, Ok, Err, refl, sym, ◌∙◌, ap, subst, arith, append_assoc, slice_get, OnOk}
use Rattle.std.proofs.Common.{IfErr, ◌⊎◌}
use Rattle.std.proofs.lemmas.List.{append-nil}
use Rattle.acct_calls.specs.declared.calls.Call.{Call}
use Rattle.acct_machine.specs.State.{Start, State}
use Rattle.acct_machine.specs.declared.entry.Entry.{Entry}
use Rattle.acct_machine.specs.declared.entry.Entry.TheVariants.{Gone}
use Rattle.acct_machine.specs.Machine.{SameLive}
use Rattle.acct_machine.specs.Shown.{Past}
use Rattle.acct_machine.specs.Step.{state_at}
use Rattle.acct_stubs.specs.declared.errors.WireError.{WireError}
use Rattle.rpc_session.specs.declared.sessions.Act.{Act}
use Rattle.rpc_session.specs.declared.sessions.Act.TheVariants as act
use Rattle.rpc_session.specs.Acts.{is_refusal}
use Rattle.link_sessions.specs.declared.ends.Stop.{Stop}
use Rattle.link_sessions.specs.declared.ends.Stop.TheVariants as stop
use Rattle.link_sessions.specs.Sessions.{closing_of}
use Rattle.link_sessions.specs.Transcript.{call_on, busy_bytes}
use Rattle.link_sessions.specs.Taking.{AnswersAct, TakesActs, HaltsAct, HaltsActs}
use Rattle.acct_server.specs.declared.out_lines.OutLines.{OutLines}
use Rattle.acct_server.specs.Replayed.{Out, IsClosed, FoundFull, line_bytes, on_act, on_acts, on_request}
use Rattle.acct_server.specs.steps.Running.{DoesActs, Began, Answered, AnsweredToFull, IsClosing}
use Rattle.acct_server.proofs.Bytes.{on-ok, if-err}
use Rattle.acct_server.proofs.Moves.{Only, prints-act, request-acts, request-fills, request-began, answered-began}
use Rattle.acct_server.proofs.Moves.{request-live, same-live, acts-before, acts-full, began-before, began-at}
use Rattle.acct_server.proofs.Moves.{begins-none}

-- how the lines stand after an answer, and where memory ran out
abbrev pub Takes : OutLines → List ℕ → OutLines → Type 0
Takes old bytes new = (new.conn ≡ old.conn) × (new.is_cut ≡ old.is_cut)
    × (new.lines.items ≡ old.lines.items ++ line_bytes (Out old.conn bytes))

abbrev pub Fails : OutLines → List ℕ → OutLines → Type 0
Fails old bytes new = new.is_cut ≡ true

-- ---- one act

-- an act that is no refusal was answered
act-done : (start : Start) (k : ℕ) (x : Act) → is_refusal x ≡ false → (before now : List Entry)
    (bytes old_lines new_lines : List ℕ) → AnswersAct start k (Only before) before now x bytes
    → new_lines ≡ old_lines ++ line_bytes (Out k bytes)
    → DoesActs (λ verdicts. on_act start verdicts before k x) before now old_lines new_lines None
act-done start k (act.Answered given) still before now bytes old_lines new_lines is printed =
    prints-act (λ verdicts. on_act start verdicts before k (act.Answered given)) before now (Out k given ∷ [])
    old_lines new_lines (λ verdicts. refl) is.0
    (printed ∙ ap (λ (bs : List ℕ). old_lines ++ line_bytes (Out k bs)) is.1
    ∙ ap (λ (bs : List ℕ). old_lines ++ bs) (sym (append-nil _)))
act-done start k (act.Call asked) still before now bytes old_lines new_lines is printed =
    request-acts start before now k asked (length asked.stub) (call_on asked.face asked.opnum asked.stub) bytes
    old_lines new_lines is printed
act-done start k (act.Closed place cause given) still before now bytes old_lines new_lines is printed = absurd cc

-- a refusal was answered, and its connection is gone
closed-done : (start : Start) (k place cause : ℕ) (given : List ℕ) (before now : List Entry)
    (bytes old_lines new_lines : List ℕ)
    → AnswersAct start k (Only before) before now (act.Closed place cause given) bytes
    → new_lines ≡ old_lines ++ line_bytes (Out k bytes)
    → DoesActs (λ verdicts. on_act start verdicts before k (act.Closed place cause given)) before (now ++ Gone k ∷ [])
    old_lines (new_lines ++ line_bytes (IsClosed k place cause)) None
closed-done start k place cause given before now bytes old_lines new_lines is printed =
    let out = line_bytes (Out k given) in
    let last = line_bytes (IsClosed k place cause) in record {
      doing = record { entries = Gone k ∷ []; prints = Out k given ∷ IsClosed k place cause ∷ []; full = None };
      full = refl;
      is = λ later. refl;
      history = ap (λ (h : List Entry). h ++ Gone k ∷ []) is.0;
      prints =
          ap (λ (bs : List ℕ). bs ++ last) (printed ∙ ap (λ (bs : List ℕ). old_lines ++ line_bytes (Out k bs)) is.1)
          ∙ append_assoc old_lines out last
          ∙ ap (λ (bs : List ℕ). old_lines ++ (out ++ bs)) (sym (append-nil last));
    }

-- the same connections are live after an act that was answered
act-live : (start : Start) (k : ℕ) (x : Act) (before now : List Entry) (bytes : List ℕ)
    → AnswersAct start k (Only before) before now x bytes → SameLive (state_at start before) (state_at start now)
act-live start k (act.Answered given) before now bytes is = same-live start before now is.0
act-live start k (act.Call asked) before now bytes is =
    let r = call_on asked.face asked.opnum asked.stub in
    request-live start before now k (length asked.stub) r
    (answered-began start before now k asked (length asked.stub) r bytes is)
act-live start k (act.Closed place cause given) before now bytes is = same-live start before now is.0

-- memory ran out after it, before anything else
act-began : (start : Start) (k : ℕ) (x : Act) (before now : List Entry) (bytes : List ℕ)
    → AnswersAct start k (Only before) before now x bytes
    → Began (λ verdicts. on_act start verdicts before k x) before now
act-began start k (act.Answered given) before now bytes is =
    begins-none (λ verdicts. on_act start verdicts before k (act.Answered given)) before now is.0
act-began start k (act.Call asked) before now bytes is =
    let r = call_on asked.face asked.opnum asked.stub in
    request-began start before now k asked (length asked.stub) r
    (answered-began start before now k asked (length asked.stub) r bytes is)
act-began start k (act.Closed place cause given) before now bytes is =
    begins-none (λ verdicts. on_act start verdicts before k (act.Closed place cause given)) before now is.0

live-then : (a b c : State) → SameLive a b → SameLive b c → SameLive a c
live-then a b c one two =
    record { lives = λ k. two.lives k ∙ one.lives k; count = two.count ∙ one.count }

-- ---- refusals are last

closing-behind : {A : Type 0} (served : Bool) (i : ℕ) (x : A) (xs : List A) (o : Option Act)
    → IsClosing served (suc i) (length (x ∷ xs)) o → IsClosing served i (length xs) o
closing-behind served i x xs None closing = tt
closing-behind served i x xs (Some a) closing =
    λ is. let e = closing is in let count = e.0 in (omega (arith, count), e.1)

-- an act before another is no refusal
open-first : (served : Bool) (x y : Act) (ys : List Act) → IsClosing served 0 (length (x ∷ y ∷ ys)) (Some x)
    → is_refusal x ≡ false
open-first served (act.Answered bytes) y ys closing = refl
open-first served (act.Call asked) y ys closing = refl
open-first served (act.Closed place cause bytes) y ys closing =
    let count = (closing refl).0 in absurd (omega (arith, count))

open-before : (served : Bool) (y : Act) (ys : List Act) (x : Act) (rest : List Act)
    → IsClosing served 0 (length (y ∷ (ys ++ x ∷ rest))) (Some y) → is_refusal y ≡ false
open-before served y [] x rest closing = open-first served y x rest closing
open-before served y (z ∷ zs) x rest closing = open-first served y z (zs ++ x ∷ rest) closing

-- where acts end in a refusal the connection isn't served any more
pub closed-served : (served : Bool) (acts : List Act) (at : ℕ × ℕ)
    → ((i : ℕ) → IsClosing served i (length acts) (slice_get acts i)) → closing_of acts ≡ Some at → served ≡ false
closed-served served [] at closing is = absurd cc
closed-served served (act.Answered bytes ∷ []) at closing is = absurd cc
closed-served served (act.Call asked ∷ []) at closing is = absurd cc
closed-served served (act.Closed place cause bytes ∷ []) at closing is = (closing 0 refl).1
closed-served served (x ∷ y ∷ ys) at closing is =
    closed-served served (y ∷ ys) at
    (λ i. closing-behind served i x (y ∷ ys) (slice_get (y ∷ ys) i) (closing (suc i))) is

-- ---- acts

answered-before : (start : Start) (k : ℕ) (x : Act) (xs : List Act) (before mid now : List Entry)
    (old_lines mid_lines new_lines : List ℕ) (o : Option (ℕ × ℕ))
    → DoesActs (λ verdicts. on_act start verdicts before k x) before mid old_lines mid_lines None
    → Answered k start xs mid now mid_lines new_lines o → Answered k start (x ∷ xs) before now old_lines new_lines o
answered-before start k x xs before mid now old_lines mid_lines new_lines None one others =
    acts-before start k x xs before mid now old_lines mid_lines new_lines None one others
answered-before start k x xs before mid now old_lines mid_lines new_lines (Some at) one others =
    acts-before start k x xs before mid (now ++ Gone k ∷ []) old_lines mid_lines
    (new_lines ++ line_bytes (IsClosed k at.0 at.1)) None one others

none-answered : (start : Start) (k : ℕ) (before now : List Entry) (old_lines new_lines : List ℕ) → now ≡ before
    → new_lines ≡ old_lines
    → DoesActs (λ verdicts. on_acts start verdicts before k []) before now old_lines new_lines None
none-answered start k before now old_lines new_lines same lines =
    prints-act (λ verdicts. on_acts start verdicts before k []) before now [] old_lines new_lines (λ verdicts. refl)
    same (lines ∙ sym (append-nil old_lines))

module _ {U : Type 0} (past : U → Past) (serves : U → ℕ → Type 0) (k : ℕ) where
  -- they have the start of the history that they began in
  starts-on : (acts : List Act) (t : OutLines) (g : U) (t' : OutLines) (g' : U)
      → TakesActs Takes (λ m. (past m).start) (λ m. (past m).history) (λ m found. found ≡ (past m).history) serves k
      acts t g t' g' → (past g').start ≡ (past g).start
  starts-on [] t g t' g' same = ap (λ (m : U). (past m).start) same.1
  starts-on (x ∷ xs) t g t' g' done = starts-on xs done.mid done.there t' g' done.others ∙ done.one.same

  -- the lines are those of the connection, and none is cut that wasn't
  lines-on : (acts : List Act) (t : OutLines) (g : U) (t' : OutLines) (g' : U)
      → TakesActs Takes (λ m. (past m).start) (λ m. (past m).history) (λ m found. found ≡ (past m).history) serves k
      acts t g t' g' → (t'.conn ≡ t.conn) × (t'.is_cut ≡ t.is_cut)
  lines-on [] t g t' g' same = (ap (λ (o : OutLines). o.conn) same.0, ap (λ (o : OutLines). o.is_cut) same.0)
  lines-on (x ∷ xs) t g t' g' done =
      let later = lines-on xs done.mid done.there t' g' done.others in
      (later.0 ∙ done.one.taken.0, later.1 ∙ done.one.taken.1)

  live-on : (acts : List Act) (t : OutLines) (g : U) (t' : OutLines) (g' : U)
      → TakesActs Takes (λ m. (past m).start) (λ m. (past m).history) (λ m found. found ≡ (past m).history) serves k
      acts t g t' g'
      → SameLive (state_at (past g).start (past g).history) (state_at (past g').start (past g').history)
  live-on [] t g t' g' same =
      subst (λ (m : U). SameLive (state_at (past g).start (past g).history)
      (state_at (past m).start (past m).history)) (sym same.1) (record { lives = λ c. refl; count = refl })
  live-on (x ∷ xs) t g t' g' done =
      let there = past done.there in
      live-then (state_at (past g).start (past g).history) (state_at there.start there.history)
      (state_at (past g').start (past g').history)
      (subst (λ (s : Start). SameLive (state_at (past g).start (past g).history) (state_at s there.history))
      (sym done.one.same)
      (act-live (past g).start k x (past g).history there.history done.one.bytes done.one.answers))
      (live-on xs done.mid done.there t' g' done.others)

  printed-by : (t t' : OutLines) (bytes : List ℕ) → t.conn ≡ k → Takes t bytes t'
      → t'.lines.items ≡ t.lines.items ++ line_bytes (Out k bytes)
  printed-by t t' bytes of taken =
      taken.2 ∙ ap (λ (c : ℕ). t.lines.items ++ line_bytes (Out c bytes)) of

  pub acts-answered : (served : Bool) (acts : List Act) (t : OutLines) (g : U) (t' : OutLines) (g' : U)
      → ((i : ℕ) → IsClosing served i (length acts) (slice_get acts i)) → t.conn ≡ k
      → TakesActs Takes (λ m. (past m).start) (λ m. (past m).history) (λ m found. found ≡ (past m).history) serves k
      acts t g t' g'
      → Answered k (past g).start acts (past g).history (past g').history t.lines.items t'.lines.items
      (closing_of acts)
  acts-answered served [] t g t' g' closing of same =
      none-answered (past g).start k (past g).history (past g').history t.lines.items t'.lines.items
      (ap (λ (m : U). (past m).history) same.1) (ap (λ (o : OutLines). o.lines.items) same.0)
  acts-answered served (act.Closed place cause given ∷ []) t g t' g' closing of done =
      let s = (past g).start in
      let h = (past g).history in
      let there = (past done.there).history in
      let last = line_bytes (IsClosed k place cause) in
      let lines = done.mid.lines.items ++ last in
      acts-before s k (act.Closed place cause given) [] h (there ++ Gone k ∷ []) ((past g').history ++ Gone k ∷ [])
      t.lines.items lines (t'.lines.items ++ last) None
      (closed-done s k place cause given h there done.one.bytes t.lines.items done.mid.lines.items done.one.answers
      (printed-by t done.mid done.one.bytes of done.one.taken))
      (none-answered s k (there ++ Gone k ∷ []) ((past g').history ++ Gone k ∷ []) lines (t'.lines.items ++ last)
      (ap (λ (m : U). (past m).history ++ Gone k ∷ []) done.others.1)
      (ap (λ (o : OutLines). o.lines.items ++ last) done.others.0))
  acts-answered served (act.Answered given ∷ []) t g t' g' closing of done =
      acts-before (past g).start k (act.Answered given) [] (past g).history (past done.there).history
      (past g').history t.lines.items done.mid.lines.items t'.lines.items None
      (act-done (past g).start k (act.Answered given) refl (past g).history (past done.there).history done.one.bytes
      t.lines.items done.mid.lines.items done.one.answers (printed-by t done.mid done.one.bytes of done.one.taken))
      (none-answered (past g).start k (past done.there).history (past g').history done.mid.lines.items t'.lines.items
      (ap (λ (m : U). (past m).history) done.others.1) (ap (λ (o : OutLines). o.lines.items) done.others.0))
  acts-answered served (act.Call asked ∷ []) t g t' g' closing of done =
      acts-before (past g).start k (act.Call asked) [] (past g).history (past done.there).history (past g').history
      t.lines.items done.mid.lines.items t'.lines.items None
      (act-done (past g).start k (act.Call asked) refl (past g).history (past done.there).history done.one.bytes
      t.lines.items done.mid.lines.items done.one.answers (printed-by t done.mid done.one.bytes of done.one.taken))
      (none-answered (past g).start k (past done.there).history (past g').history done.mid.lines.items t'.lines.items
      (ap (λ (m : U). (past m).history) done.others.1) (ap (λ (o : OutLines). o.lines.items) done.others.0))
  acts-answered served (x ∷ y ∷ ys) t g t' g' closing of done =
      let there = past done.there in
      answered-before (past g).start k x (y ∷ ys) (past g).history there.history (past g').history t.lines.items
      done.mid.lines.items t'.lines.items (closing_of (y ∷ ys))
      (act-done (past g).start k x (open-first served x y ys (closing 0)) (past g).history there.history done.one.bytes
      t.lines.items done.mid.lines.items done.one.answers (printed-by t done.mid done.one.bytes of done.one.taken))
      (subst (λ (s : Start). Answered k s (y ∷ ys) there.history (past g').history done.mid.lines.items
      t'.lines.items (closing_of (y ∷ ys))) done.one.same
      (acts-answered served (y ∷ ys) done.mid done.there t' g'
      (λ i. closing-behind served i x (y ∷ ys) (slice_get (y ∷ ys) i) (closing (suc i)))
      (done.one.taken.0 ∙ of) done.others))

  -- ---- acts that stopped, behind those that were answered

  -- what is said of acts behind those that were answered, none of which is a refusal, is said of all
  pub full-behind : (served : Bool) (acts : List Act) (x : Act) (rest : List Act) (t : OutLines) (g : U)
      (mid : OutLines) (there : U) (now : List Entry) (lines : List ℕ) (count : ℕ)
      → ((i : ℕ) → IsClosing served i (length (acts ++ x ∷ rest)) (slice_get (acts ++ x ∷ rest) i)) → t.conn ≡ k
      → TakesActs Takes (λ m. (past m).start) (λ m. (past m).history) (λ m found. found ≡ (past m).history) serves k
      acts t g mid there
      → DoesActs (λ verdicts. on_act (past there).start verdicts (past there).history k x) (past there).history now
      mid.lines.items lines (Some count)
      → DoesActs (λ verdicts. on_acts (past g).start verdicts (past g).history k (acts ++ x ∷ rest)) (past g).history
      now
      t.lines.items lines (Some count)
  full-behind served [] x rest t g mid there now lines count closing of same met =
      acts-full (past g).start k x rest (past g).history now t.lines.items lines count
      (subst (λ (m : U). DoesActs (λ verdicts. on_act (past m).start verdicts (past m).history k x) (past m).history now
      t.lines.items lines (Some count)) same.1
      (subst (λ (o : OutLines). DoesActs (λ verdicts. on_act (past there).start verdicts (past there).history k x)
      (past there).history now o.lines.items lines (Some count)) same.0 met))
  full-behind served (y ∷ ys) x rest t g mid there now lines count closing of done met =
      let next = past done.there in
      acts-before (past g).start k y (ys ++ x ∷ rest) (past g).history next.history now t.lines.items
      done.mid.lines.items lines (Some count)
      (act-done (past g).start k y (open-before served y ys x rest (closing 0)) (past g).history next.history
      done.one.bytes t.lines.items done.mid.lines.items done.one.answers
      (printed-by t done.mid done.one.bytes of done.one.taken))
      (subst (λ (s : Start). DoesActs (λ verdicts. on_acts s verdicts next.history k (ys ++ x ∷ rest)) next.history now
      done.mid.lines.items lines (Some count)) done.one.same
      (full-behind served ys x rest done.mid done.there mid there now lines count
      (λ i. closing-behind served i y (ys ++ x ∷ rest) (slice_get (ys ++ x ∷ rest) i) (closing (suc i)))
      (done.one.taken.0 ∙ of) done.others met))

  began-behind : (served : Bool) (acts : List Act) (x : Act) (rest : List Act) (t : OutLines) (g : U)
      (mid : OutLines) (there : U) (now : List Entry)
      → ((i : ℕ) → IsClosing served i (length (acts ++ x ∷ rest)) (slice_get (acts ++ x ∷ rest) i)) → t.conn ≡ k
      → TakesActs Takes (λ m. (past m).start) (λ m. (past m).history) (λ m found. found ≡ (past m).history) serves k
      acts t g mid there
      → Began (λ verdicts. on_act (past there).start verdicts (past there).history k x) (past there).history now
      → Began (λ verdicts. on_acts (past g).start verdicts (past g).history k (acts ++ x ∷ rest)) (past g).history now
  began-behind served [] x rest t g mid there now closing of same met =
      began-at (past g).start k x rest (past g).history now
      (subst (λ (m : U). Began (λ verdicts. on_act (past m).start verdicts (past m).history k x) (past m).history now)
      same.1 met)
  began-behind served (y ∷ ys) x rest t g mid there now closing of done met =
      let next = past done.there in
      began-before (past g).start k y (ys ++ x ∷ rest) (past g).history next.history now t.lines.items
      done.mid.lines.items
      (act-done (past g).start k y (open-before served y ys x rest (closing 0)) (past g).history next.history
      done.one.bytes t.lines.items done.mid.lines.items done.one.answers
      (printed-by t done.mid done.one.bytes of done.one.taken))
      (subst (λ (s : Start). Began (λ verdicts. on_acts s verdicts next.history k (ys ++ x ∷ rest)) next.history now)
      done.one.same
      (began-behind served ys x rest done.mid done.there mid there now
      (λ i. closing-behind served i y (ys ++ x ∷ rest) (slice_get (ys ++ x ∷ rest) i) (closing (suc i)))
      (done.one.taken.0 ∙ of) done.others met))

  done-began : (served : Bool) (acts : List Act) (t : OutLines) (g : U) (t' : OutLines) (g' : U)
      → ((i : ℕ) → IsClosing served i (length acts) (slice_get acts i)) → t.conn ≡ k
      → TakesActs Takes (λ m. (past m).start) (λ m. (past m).history) (λ m found. found ≡ (past m).history) serves k
      acts t g t' g'
      → Began (λ verdicts. on_acts (past g).start verdicts (past g).history k acts) (past g).history (past g').history
  done-began served [] t g t' g' closing of same =
      begins-none (λ verdicts. on_acts (past g).start verdicts (past g).history k []) (past g).history
      (past g').history (ap (λ (m : U). (past m).history) same.1)
  done-began served (x ∷ []) t g t' g' closing of done =
      began-at (past g).start k x [] (past g).history (past g').history
      (act-began (past g).start k x (past g).history (past g').history done.one.bytes
      (subst (λ (h : List Entry). AnswersAct (past g).start k (Only (past g).history) (past g).history h x
      done.one.bytes) (sym (ap (λ (m : U). (past m).history) done.others.1)) done.one.answers))
  done-began served (x ∷ y ∷ ys) t g t' g' closing of done =
      let next = past done.there in
      began-before (past g).start k x (y ∷ ys) (past g).history next.history (past g').history t.lines.items
      done.mid.lines.items
      (act-done (past g).start k x (open-first served x y ys (closing 0)) (past g).history next.history done.one.bytes
      t.lines.items done.mid.lines.items done.one.answers (printed-by t done.mid done.one.bytes of done.one.taken))
      (subst (λ (s : Start). Began (λ verdicts. on_acts s verdicts next.history k (y ∷ ys)) next.history
      (past g').history) done.one.same
      (done-began served (y ∷ ys) done.mid done.there t' g'
      (λ i. closing-behind served i x (y ∷ ys) (slice_get (y ∷ ys) i) (closing (suc i)))
      (done.one.taken.0 ∙ of) done.others))

  -- ---- an act that wasn't answered

  halt-began : (why : Stop) (x : Act) (t : OutLines) (g : U) (t' : OutLines) (g' : U)
      → HaltsAct Takes Fails (λ m. (past m).start) (λ m. (past m).history) (λ m found. found ≡ (past m).history) k x
      t g t' g' why
      → Began (λ verdicts. on_act (past g).start verdicts (past g).history k x) (past g).history (past g').history
  halt-began stop.WriteFault x t g t' g' h =
      act-began (past g).start k x (past g).history (past g').history h.bytes h.answers
  halt-began stop.NoMemory (act.Call asked) t g t' g' h =
      request-began (past g).start (past g).history (past g').history k asked (length asked.stub)
      (call_on asked.face asked.opnum asked.stub) h.0
  halt-began stop.NoMemory (act.Answered bytes) t g t' g' h = absurd h.0
  halt-began stop.NoMemory (act.Closed place cause bytes) t g t' g' h = absurd h.0
  halt-began (stop.Full n) (act.Call asked) t g t' g' h =
      begins-none (λ verdicts. on_act (past g).start verdicts (past g).history k (act.Call asked)) (past g).history
      (past g').history h.full.finds_it
  halt-began (stop.Full n) (act.Answered bytes) t g t' g' h = absurd h
  halt-began (stop.Full n) (act.Closed place cause bytes) t g t' g' h = absurd h

  halt-live : (why : Stop) (x : Act) (t : OutLines) (g : U) (t' : OutLines) (g' : U)
      → HaltsAct Takes Fails (λ m. (past m).start) (λ m. (past m).history) (λ m found. found ≡ (past m).history) k x
      t g t' g' why
      → SameLive (state_at (past g).start (past g).history) (state_at (past g).start (past g').history)
  halt-live stop.WriteFault x t g t' g' h =
      act-live (past g).start k x (past g).history (past g').history h.bytes h.answers
  halt-live stop.NoMemory (act.Call asked) t g t' g' h =
      request-live (past g).start (past g).history (past g').history k (length asked.stub)
      (call_on asked.face asked.opnum asked.stub) h.0
  halt-live stop.NoMemory (act.Answered bytes) t g t' g' h = absurd h.0
  halt-live stop.NoMemory (act.Closed place cause bytes) t g t' g' h = absurd h.0
  halt-live (stop.Full n) (act.Call asked) t g t' g' h =
      same-live (past g).start (past g).history (past g').history h.full.finds_it
  halt-live (stop.Full n) (act.Answered bytes) t g t' g' h = absurd h
  halt-live (stop.Full n) (act.Closed place cause bytes) t g t' g' h = absurd h

  halt-full : (why : Stop) (served : Bool) (acts : List Act) (x : Act) (rest : List Act) (t : OutLines) (g : U)
      (mid : OutLines) (there : U) (t' : OutLines) (g' : U)
      → ((i : ℕ) → IsClosing served i (length (acts ++ x ∷ rest)) (slice_get (acts ++ x ∷ rest) i)) → t.conn ≡ k
      → t'.is_cut ≡ false
      → TakesActs Takes (λ m. (past m).start) (λ m. (past m).history) (λ m found. found ≡ (past m).history) serves k
      acts t g mid there
      → HaltsAct Takes Fails (λ m. (past m).start) (λ m. (past m).history) (λ m found. found ≡ (past m).history) k x
      mid there t' g' why
      → AnsweredToFull k (past g).start (acts ++ x ∷ rest) (past g).history (past g').history t.lines.items
      t'.lines.items why
  halt-full stop.WriteFault served acts x rest t g mid there t' g' closing of whole done h = tt
  halt-full stop.NoMemory served acts x rest t g mid there t' g' closing of whole done h = tt
  halt-full (stop.Full n) served acts (act.Answered bytes) rest t g mid there t' g' closing of whole done h = absurd h
  halt-full (stop.Full n) served acts (act.Closed place cause bytes) rest t g mid there t' g' closing of whole done h =
      absurd h
  halt-full (stop.Full n) served acts (act.Call asked) rest t g mid there t' g' closing of whole done h = told h.told
    where
      told : Takes mid (busy_bytes asked) t' ⊎ Fails mid (busy_bytes asked) t'
          → AnsweredToFull k (past g).start (acts ++ act.Call asked ∷ rest) (past g).history (past g').history
          t.lines.items t'.lines.items (stop.Full n)
      told (inr cut) = let clash : true ≡ false = sym cut ∙ whole in absurd cc
      told (inl taken) =
          full-behind served acts (act.Call asked) rest t g mid there ((past g').history ++ Gone k ∷ [])
          (t'.lines.items ++ line_bytes (FoundFull k)) n closing of done
          (subst (λ (r : Result Call WireError). DoesActs (λ verdicts. on_request (past there).start verdicts
          (past there).history k asked (length asked.stub) r) (past there).history ((past g').history ++ Gone k ∷ [])
          mid.lines.items (t'.lines.items ++ line_bytes (FoundFull k)) (Some n)) (sym h.decoded)
          (request-fills (past there).start (past there).history (past g').history k asked (length asked.stub) h.call n
          mid.lines.items t'.lines.items h.full
          (printed-by mid t' (busy_bytes asked) ((lines-on acts t g mid there done).0 ∙ of) taken)))

  -- ---- whether they were all answered or not

  module _ {T : Type 0} (r : Result T Stop) (served : Bool) (acts : List Act) (t : OutLines) (g : U) (t' : OutLines)
      (g' : U) (closing : (i : ℕ) → IsClosing served i (length acts) (slice_get acts i)) (of : t.conn ≡ k) where
    pub both-began : OnOk r (TakesActs Takes (λ m. (past m).start) (λ m. (past m).history)
        (λ m found. found ≡ (past m).history) serves k acts t g t' g')
        → IfErr r (HaltsActs Takes Fails (λ m. (past m).start) (λ m. (past m).history)
        (λ m found. found ≡ (past m).history) serves k acts t g t' g')
        → Began (λ verdicts. on_acts (past g).start verdicts (past g).history k acts) (past g).history
        (past g').history
    both-began = by r
      where
        by : (q : Result T Stop) → OnOk q (TakesActs Takes (λ m. (past m).start) (λ m. (past m).history)
            (λ m found. found ≡ (past m).history) serves k acts t g t' g')
            → IfErr q (HaltsActs Takes Fails (λ m. (past m).start) (λ m. (past m).history)
            (λ m found. found ≡ (past m).history) serves k acts t g t' g')
            → Began (λ verdicts. on_acts (past g).start verdicts (past g).history k acts) (past g).history
            (past g').history
        by (Ok x) done halts = done-began served acts t g t' g' closing of done
        by (Err why) done h =
            subst (λ (xs : List Act). Began (λ verdicts. on_acts (past g).start verdicts (past g).history k xs)
            (past g).history (past g').history) (sym h.splits)
            (began-behind served h.done h.begun h.others t g h.mid h.there (past g').history
            (subst (λ (xs : List Act). (i : ℕ) → IsClosing served i (length xs) (slice_get xs i)) h.splits closing)
            of h.answered (halt-began why h.begun h.mid h.there t' g' h.halts))

    pub both-live : (past g').start ≡ (past g).start
        → OnOk r (TakesActs Takes (λ m. (past m).start) (λ m. (past m).history)
        (λ m found. found ≡ (past m).history) serves k acts t g t' g')
        → IfErr r (HaltsActs Takes Fails (λ m. (past m).start) (λ m. (past m).history)
        (λ m found. found ≡ (past m).history) serves k acts t g t' g')
        → SameLive (state_at (past g).start (past g).history) (state_at (past g').start (past g').history)
    both-live same = by r
      where
        by : (q : Result T Stop) → OnOk q (TakesActs Takes (λ m. (past m).start) (λ m. (past m).history)
            (λ m found. found ≡ (past m).history) serves k acts t g t' g')
            → IfErr q (HaltsActs Takes Fails (λ m. (past m).start) (λ m. (past m).history)
            (λ m found. found ≡ (past m).history) serves k acts t g t' g')
            → SameLive (state_at (past g).start (past g).history) (state_at (past g').start (past g').history)
        by (Ok x) done halts = live-on acts t g t' g' done
        by (Err why) done h =
            let there = past h.there in
            live-then (state_at (past g).start (past g).history) (state_at there.start there.history)
            (state_at (past g').start (past g').history) (live-on h.done t g h.mid h.there h.answered)
            (subst (λ (s : Start). SameLive (state_at there.start there.history) (state_at s (past g').history))
            (starts-on h.done t g h.mid h.there h.answered ∙ sym same)
            (halt-live why h.begun h.mid h.there t' g' h.halts))

    stop-full : (why : Stop) → t'.is_cut ≡ false
        → HaltsActs Takes Fails (λ m. (past m).start) (λ m. (past m).history) (λ m found. found ≡ (past m).history)
        serves k acts t g t' g' why
        → AnsweredToFull k (past g).start acts (past g).history (past g').history t.lines.items t'.lines.items why
    stop-full why whole h =
        subst (λ (xs : List Act). AnsweredToFull k (past g).start xs (past g).history (past g').history t.lines.items
        t'.lines.items why) (sym h.splits)
        (halt-full why served h.done h.begun h.others t g h.mid h.there t' g'
        (subst (λ (xs : List Act). (i : ℕ) → IsClosing served i (length xs) (slice_get xs i)) h.splits closing) of
        whole h.answered h.halts)

    pub all-answered : OnOk r (TakesActs Takes (λ m. (past m).start) (λ m. (past m).history)
        (λ m found. found ≡ (past m).history) serves k acts t g t' g')
        → OnOk r (Answered k (past g).start acts (past g).history (past g').history t.lines.items t'.lines.items
        (closing_of acts))
    all-answered = on-ok r (acts-answered served acts t g t' g' closing of)

    pub all-full : IfErr r (HaltsActs Takes Fails (λ m. (past m).start) (λ m. (past m).history)
        (λ m found. found ≡ (past m).history) serves k acts t g t' g')
        → IfErr r (λ why. t'.is_cut ≡ false → AnsweredToFull k (past g).start acts (past g).history
        (past g').history t.lines.items t'.lines.items why)
    all-full = if-err r (λ why h whole. stop-full why whole h)
