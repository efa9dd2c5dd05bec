-- Which handles a connection has after an event: those that it had, or one more that was opened.
use Rattle.std.proofs.Common.{◌≡◌, ◌≢◌, inl, inr, ◌⊎◌, ℕ, suc, ◌+◌, ◌<◌, ◌==◌, Bool, true, false, ◌&&◌}
use Rattle.std.proofs.Common.{not, cond, List, [], ◌∷◌, ◌++◌, Option, Some, None, refl, sym, ◌∙◌, ap}
use Rattle.std.proofs.Common.{subst, arith}
use Rattle.std.specs.List.{All, AllPairs, filter, find}
use Rattle.std.proofs.lemmas.Bool.{cases_eq}
use Rattle.std.proofs.lemmas.Bool.Decides.{nat_tests}
use Rattle.std.proofs.lemmas.List.Elements.{All-filter}
use Rattle.acct_config.specs.declared.config.Config.{Config}
use Rattle.acct_calls.specs.declared.calls.Call.{Call}
use Rattle.acct_tables.specs.Keys.{same_object}
use Rattle.acct_rules.specs.declared.planned.Effect.{Effect}
use Rattle.acct_rules.specs.declared.planned.Effect.TheVariants as effects
use Rattle.acct_rules.specs.declared.planned.Opening.{Opening}
use Rattle.acct_rules.specs.declared.planned.Planned.{Planned}
use Rattle.acct_rules.specs.Profiles.{Operation}
use Rattle.acct_machine.specs.declared.entry.Verdict.{Verdict}
use Rattle.acct_machine.specs.declared.entry.Verdict.TheVariants.{Ran}
use Rattle.acct_machine.specs.declared.entry.Entry.{Entry}
use Rattle.acct_machine.specs.declared.entry.Entry.TheVariants.{Opened, Called, Gone, Hooked}
use Rattle.acct_machine.specs.declared.state.Conn.{Conn}
use Rattle.acct_machine.specs.declared.state.Held.{Held}
use Rattle.acct_machine.specs.State.{State, Start, is_live, last_serial, number_of, is_handle}
use Rattle.acct_machine.specs.Access.{grant_of}
use Rattle.acct_machine.specs.Step.{left, changed, with_handle, planned_of, new_conn, acted, step, state_at}
use Rattle.acct_machine.specs.Legal.{HasPassed, May}
use Rattle.acct_machine.specs.Sound.{IsHeldSoundly, AreApart, IsSound, KeepsSound}
use Rattle.acct_machine.specs.Coming.{handle_at, GivesNone, GivesOne, HandlesComeInOrder, HandlesAreFound}
use Rattle.acct_machine.proofs.Cases.{acted-cases}
use Rattle.acct_machine.proofs.Conns.{serial-here, serial-past, serial-set-same, serial-set-other, serial-ended}

-- ---- the test for a handle

both : (a b : Bool) → (a && b) ≡ true → (a ≡ true) × (b ≡ true)
both true true is = (refl, refl)
both true false is = cc
both false b is = cc

not-true : (b : Bool) → (b ≡ true → ⊥) → b ≡ false
not-true true never = absurd (never refl)
not-true false never = refl

equal-numbers : (m n : ℕ) → (m == n) ≡ true → m ≡ n
equal-numbers m n is = grind (arith, nat_tests)

same-number : (n : ℕ) → (n == n) ≡ true
same-number n = grind (arith, nat_tests)

-- a handle that passes is of the connection, and has the serial of the number
handle-conn : (conn number : ℕ) (h : Held) → is_handle conn number h ≡ true → h.conn ≡ conn
handle-conn conn number h is =
    equal-numbers h.conn conn (both (h.conn == conn) (number_of h.conn h.serial == number) is).0

handle-number : (conn number : ℕ) (h : Held) → is_handle conn number h ≡ true → number_of conn h.serial ≡ number
handle-number conn number h is =
    let at : number_of h.conn h.serial ≡ number = equal-numbers (number_of h.conn h.serial) number
    (both (h.conn == conn) (number_of h.conn h.serial == number) is).1 in
    subst (λ (k : ℕ). number_of k h.serial ≡ number) (handle-conn conn number h is) at

same-serial : (conn a b : ℕ) → number_of conn a ≡ number_of conn b → a ≡ b
same-serial conn a b is = omega (arith, is)

handle-serial : (conn serial : ℕ) (h : Held) → is_handle conn (number_of conn serial) h ≡ true → h.serial ≡ serial
handle-serial conn serial h is =
    same-serial conn h.serial serial (handle-number conn (number_of conn serial) h is)

-- a handle passes its own test
own-test : (conn serial : ℕ) (h : Held) → h.conn ≡ conn → h.serial ≡ serial
    → is_handle conn (number_of conn serial) h ≡ true
own-test conn serial h of is =
    let here : is_handle h.conn (number_of h.conn h.serial) h ≡ true =
    rw (same-number h.conn) (same-number (number_of h.conn h.serial)) in
    subst (λ (k : ℕ). is_handle k (number_of k serial) h ≡ true) of
    (subst (λ (n : ℕ). is_handle h.conn (number_of h.conn n) h ≡ true) is here)

-- ---- what is found

past-by : (here : Bool) (x held : Held) (more rest : Option Held) → (more ≡ Some held → rest ≡ Some held)
    → cond here (Some x) more ≡ Some held → cond here (Some x) rest ≡ Some held
past-by true x held more rest later is = is
past-by false x held more rest later is = later is

not-here : (here : Bool) (x held : Held) (rest : Option Held) → (here ≡ true → ⊥) → rest ≡ Some held
    → cond here (Some x) rest ≡ Some held
not-here true x held rest never is = absurd (never refl)
not-here false x held rest never is = is

passes-by : (P : Held → Type 0) (here : Bool) (x held : Held) (rest : Option Held) → (here ≡ true → P x)
    → (rest ≡ Some held → P held) → cond here (Some x) rest ≡ Some held → P held
passes-by P true x held rest this later is = let same : x ≡ held = cc in subst P same (this refl)
passes-by P false x held rest this later is = later is

-- what is found passes the test, and what holds of all holds of it
found-passes : (test : Held → Bool) (hs : List Held) (held : Held) → find test hs ≡ Some held → test held ≡ true
found-passes test [] held is = cc
found-passes test (h ∷ hs) held is =
    passes-by (λ (x : Held). test x ≡ true) (test h) h held (find test hs) (λ e. e) (found-passes test hs held) is

found-holds : (P : Held → Type 0) (test : Held → Bool) (hs : List Held) (held : Held) → All P hs
    → find test hs ≡ Some held → P held
found-holds P test [] held all is = cc
found-holds P test (h ∷ hs) held all is =
    passes-by P (test h) h held (find test hs) (λ e. all 0 h (omega arith))
    (found-holds P test hs held (λ k d lt. all (suc k) d (omega (arith, lt)))) is

-- ---- handles that go

kept-head : (keeps : Bool) (test : Held → Bool) (h held : Held) (kept hs : List Held)
    → (find test kept ≡ Some held → find test hs ≡ Some held)
    → (test h ≡ true → find test kept ≡ Some held → ⊥)
    → find test (cond keeps (h ∷ kept) kept) ≡ Some held → find test (h ∷ hs) ≡ Some held
kept-head true test h held kept hs later apart is =
    past-by (test h) h held (find test kept) (find test hs) later is
kept-head false test h held kept hs later apart is =
    not-here (test h) h held (find test hs) (λ e. apart e is) (later is)

-- two handles that pass one test aren't apart
not-apart : (conn number : ℕ) (h held : Held) → is_handle conn number h ≡ true → is_handle conn number held ≡ true
    → AreApart h held → ⊥
not-apart conn number h held is was apart =
    let conns : h.conn ≡ held.conn = handle-conn conn number h is ∙ sym (handle-conn conn number held was) in
    let serials : h.serial ≡ held.serial = same-serial conn h.serial held.serial
    (handle-number conn number h is ∙ sym (handle-number conn number held was)) in
    apart conns serials

-- what is found among those that a filter leaves is found among all
found-kept : (keeps : Held → Bool) (conn number : ℕ) (hs : List Held) (held : Held) → AllPairs AreApart hs
    → find (is_handle conn number) (filter keeps hs) ≡ Some held → find (is_handle conn number) hs ≡ Some held
found-kept keeps conn number [] held apart is = is
found-kept keeps conn number (h ∷ hs) held apart is =
    let test : Held → Bool = is_handle conn number in
    let others : All (AreApart h) hs = λ k d lt. apart 0 (suc k) d (omega arith) (omega (arith, lt)) in
    kept-head (keeps h) test h held (filter keeps hs) hs
    (found-kept keeps conn number hs held
    (λ i j d lt within. apart (suc i) (suc j) d (omega (arith, lt)) (omega (arith, within))))
    (λ e was. not-apart conn number h held e (found-passes test (filter keeps hs) held was)
    (found-holds (AreApart h) test (filter keeps hs) held (All-filter keeps (AreApart h) hs others) was)) is

found-left : (effect : Effect) (conn number k n : ℕ) (hs : List Held) (held : Held) → AllPairs AreApart hs
    → find (is_handle k n) (left effect conn number hs) ≡ Some held → find (is_handle k n) hs ≡ Some held
found-left effects.Nothing conn number k n hs held apart is = is
found-left (effects.Opens opening) conn number k n hs held apart is = is
found-left (effects.Checks opening) conn number k n hs held apart is = is
found-left effects.Closes conn number k n hs held apart is =
    found-kept (λ h. not (is_handle conn number h)) k n hs held apart is
found-left (effects.Deletes object) conn number k n hs held apart is =
    found-kept (λ h. not (same_object h.object object)) k n hs held apart is

-- ---- a handle that comes

found-push : (test : Held → Bool) (hs : List Held) (h held : Held) → test h ≡ false
    → find test (hs ++ h ∷ []) ≡ Some held → find test hs ≡ Some held
found-push test [] h held other is =
    let none : cond (test h) (Some h) None ≡ Some held = is in
    let e : None ≡ Some held = subst (λ (b : Bool). cond b (Some h) None ≡ Some held) other none in cc
found-push test (x ∷ hs) h held other is =
    past-by (test x) x held (find test (hs ++ h ∷ [])) (find test hs) (found-push test hs h held other) is

none-past : (here : Bool) (x h : Held) (rest more : Option Held) → (rest ≡ None → more ≡ Some h)
    → cond here (Some x) rest ≡ None → cond here (Some x) more ≡ Some h
none-past true x h rest more later is = cc
none-past false x h rest more later is = later is

push-found : (test : Held → Bool) (hs : List Held) (h : Held) → test h ≡ true → find test hs ≡ None
    → find test (hs ++ h ∷ []) ≡ Some h
push-found test [] h is none = subst (λ (b : Bool). cond b (Some h) None ≡ Some h) (sym is) refl
push-found test (x ∷ hs) h is none =
    none-past (test x) x h (find test hs) (find test (hs ++ h ∷ [])) (push-found test hs h is) none

none-by : (kept all : Option Held) → ((held : Held) → kept ≡ Some held → all ≡ Some held) → all ≡ None → kept ≡ None
none-by None all had none = refl
none-by (Some h) all had none = let e : all ≡ Some h = had h refl in cc

none-here : (here : Bool) (x : Held) (rest : Option Held) → (here ≡ true → ⊥) → rest ≡ None
    → cond here (Some x) rest ≡ None
none-here true x rest never is = absurd (never refl)
none-here false x rest never is = is

-- no handle has a serial that was not given yet
none-above : (s : State) (conn serial : ℕ) (hs : List Held) → All (IsHeldSoundly s) hs
    → last_serial conn s.conns < serial
    → find (is_handle conn (number_of conn serial)) hs ≡ None
none-above s conn serial [] all lt = refl
none-above s conn serial (h ∷ hs) all lt =
    let sound : IsHeldSoundly s h = all 0 h (omega arith) in
    none-here (is_handle conn (number_of conn serial) h) h (find (is_handle conn (number_of conn serial)) hs)
    (λ e. let at : h.serial ≡ serial = handle-serial conn serial h e in
    let last : last_serial h.conn s.conns ≡ last_serial conn s.conns =
    ap (λ (k : ℕ). last_serial k s.conns) (handle-conn conn (number_of conn serial) h e) in
    omega (arith, sound.given, at, last, lt))
    (none-above s conn serial hs (λ k d within. all (suc k) d (omega (arith, within))) lt)

-- ---- a call

abbrev Gives : State → Entry → State → ℕ → Type 0
Gives s e new k = GivesNone s new k ⊎ GivesOne s e new k

gives-same : (s : State) (k : ℕ) → GivesNone s s k
gives-same s k = record { last = refl; had = λ serial held is. is }

gives-changed : (config : Config) (s : State) (conn : ℕ) (call : Call) (planned : Planned) (k : ℕ) → IsSound config s
    → GivesNone s (changed s conn call planned) k
gives-changed config s conn call planned k sound = record {
  last = refl;
  had = λ serial held is. found-left planned.effect conn call.handle.number k (number_of k serial) s.handles held
      sound.distinct is;
}

-- the call's own connection
gives-one : (config : Config) (s : State) (conn : ℕ) (call : Call) (verdict : Verdict) (bytes : ℕ) (o : Operation)
    (opening : Opening) (granted : ℕ)
    → IsSound config s → is_live conn s.conns ≡ true → Ran ≡ verdict → HasPassed o s conn call
    → (planned_of o s conn call).effect ≡ effects.Opens opening
    → grant_of s conn opening.object opening.desired ≡ Some granted
    → GivesOne s (Called conn call verdict bytes)
    (with_handle (changed s conn call (planned_of o s conn call)) conn opening.object granted) conn
gives-one config s conn call verdict bytes o opening granted sound live ran passed effect grant =
    let planned : Planned = planned_of o s conn call in
    let serial : ℕ = last_serial conn s.conns + 1 in
    let h : Held = record { conn = conn; serial = serial; object = opening.object; granted = granted } in
    let kept : List Held = left planned.effect conn call.handle.number s.handles in
    let fresh : handle_at s conn serial ≡ None = none-above s conn serial s.handles sound.held (omega arith) in
    let had : (n : ℕ) (held : Held) → find (is_handle conn n) kept ≡ Some held
    → find (is_handle conn n) s.handles ≡ Some held =
    λ n held is. found-left planned.effect conn call.handle.number conn n s.handles held sound.distinct is in
    record {
      held = h;
      call = call;
      bytes = bytes;
      o = o;
      opening = opening;
      event = ap (λ (v : Verdict). Called conn call v bytes) (sym ran);
      of_conn = refl;
      opened = record { passed = passed; opens = effect; object = refl; next = refl; grant = grant };
      last = serial-set-same conn serial s.conns live;
      fresh = fresh;
      there = push-found (is_handle conn (number_of conn serial)) kept h (own-test conn serial h refl refl)
          (none-by (find (is_handle conn (number_of conn serial)) kept) (handle_at s conn serial)
          (had (number_of conn serial)) fresh);
      others = λ n other ne is. had (number_of conn n) other
          (found-push (is_handle conn (number_of conn n)) kept h other
          (not-true (is_handle conn (number_of conn n) h) (λ e. ne (sym (handle-serial conn n h e)))) is);
    }

-- another connection
gives-other : (config : Config) (s : State) (conn : ℕ) (call : Call) (o : Operation) (opening : Opening) (granted k : ℕ)
    → IsSound config s → k ≢ conn
    → GivesNone s (with_handle (changed s conn call (planned_of o s conn call)) conn opening.object granted) k
gives-other config s conn call o opening granted k sound ne =
    let planned : Planned = planned_of o s conn call in
    let serial : ℕ = last_serial conn s.conns + 1 in
    let h : Held = record { conn = conn; serial = serial; object = opening.object; granted = granted } in
    let kept : List Held = left planned.effect conn call.handle.number s.handles in
    record {
      last = serial-set-other k conn serial s.conns ne;
      had = λ n held is. found-left planned.effect conn call.handle.number k (number_of k n) s.handles held
          sound.distinct
          (found-push (is_handle k (number_of k n)) kept h held
          (not-true (is_handle k (number_of k n) h) (λ e. ne (sym (handle-conn k (number_of k n) h e)))) is);
    }

gives-called : (config : Config) (s : State) (conn : ℕ) (call : Call) (verdict : Verdict) (bytes k : ℕ)
    → IsSound config s → is_live conn s.conns ≡ true
    → Gives s (Called conn call verdict bytes) (acted s conn call verdict).0 k
gives-called config s conn call verdict bytes k sound live =
    acted-cases (λ (x : State). Gives s (Called conn call verdict bytes) x k) s conn call verdict (record {
      same = inl (gives-same s k);
      planned = λ o passed. inl (gives-changed config s conn call (planned_of o s conn call) k sound);
      opened = λ o opening granted ran passed effect grant.
          let new : State =
          with_handle (changed s conn call (planned_of o s conn call)) conn opening.object granted in
          elim (cases_eq k conn) [
            | inl same ↦ subst (λ (n : ℕ). Gives s (Called conn call verdict bytes) new n) (sym same)
                (inr (gives-one config s conn call verdict bytes o opening granted sound live ran passed effect grant))
            | inr other ↦ inl (gives-other config s conn call o opening granted k sound other)
          ];
    })

-- ---- each event

serial-arrives : (k : ℕ) (c : Conn) (conns : List Conn) → c.serial ≡ 0
    → last_serial k (conns ++ c ∷ []) ≡ last_serial k conns
serial-arrives k c [] zeroth = elim (cases_eq c.number k) [
  | inl same ↦ serial-here k c [] same ∙ zeroth
  | inr other ↦ serial-past k c [] other
]
serial-arrives k c (d ∷ ds) zeroth = let rest = serial-arrives k c ds zeroth in elim (cases_eq d.number k) [
  | inl same ↦ serial-here k d (ds ++ c ∷ []) same ∙ sym (serial-here k d ds same)
  | inr other ↦ serial-past k d (ds ++ c ∷ []) other ∙ rest ∙ sym (serial-past k d ds other)
]

gives-step : (start : Start) (before : List Entry) (e : Entry) (k : ℕ)
    → IsSound start.config (state_at start before) → May start before e
    → Gives (state_at start before) e (step (state_at start before) e) k
gives-step start before (Opened conn listener) k sound may = inl (record {
  last = serial-arrives k (new_conn conn listener) (state_at start before).conns refl;
  had = λ serial held is. is;
})
gives-step start before (Called conn call verdict bytes) k sound may =
    gives-called start.config (state_at start before) conn call verdict bytes k sound may.0
gives-step start before (Gone conn) k sound may = inl (record {
  last = serial-ended k conn (state_at start before).conns;
  had = λ serial held is. found-kept (λ h. not (h.conn == conn)) k (number_of k serial)
      (state_at start before).handles held sound.distinct is;
})
gives-step start before (Hooked number) k sound may = inl (record { last = refl; had = λ serial held is. is })

pub come-in-order : KeepsSound → HandlesComeInOrder
come-in-order keeps start before e conn right rows legal may =
    gives-step start before e conn (keeps start before right rows legal) may

pub are-found : HandlesAreFound
are-found s conn number held is =
    let passes : is_handle conn number held ≡ true = found-passes (is_handle conn number) s.handles held is in
    (handle-conn conn number held passes, handle-number conn number held passes)
