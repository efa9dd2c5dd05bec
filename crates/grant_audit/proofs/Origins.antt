-- Each handle after a legal history has one origin, which no later event gives it again.
use Rattle.std.proofs.Common.{◌≡◌, inl, inr, ◌⊎◌, ℕ, ◌+◌, ◌<◌, ◌≤◌, Bool, true, false, ◌&&◌, cond, List, [], ◌∷◌, ◌++◌}
use Rattle.std.proofs.Common.{length, Option, Some, None, refl, sym, ◌∙◌, ap, subst, append_assoc, arith}
use Rattle.std.specs.Prelude.{is_none, is_some}
use Rattle.std.proofs.lemmas.Bool.{cases_eq}
use Rattle.std.proofs.lemmas.List.{append-nil}
use Rattle.acct_config.specs.Spelled.{IsRightConfig}
use Rattle.acct_rows.specs.Sound.{IsSoundRows}
use Rattle.acct_rules.specs.declared.planned.Effect.{Effect}
use Rattle.acct_rules.specs.declared.planned.Effect.TheVariants as effects
use Rattle.acct_rules.specs.Planned.{opening_of}
use Rattle.acct_rules.specs.Profiles.{Operation}
use Rattle.acct_machine.specs.declared.entry.Entry.{Entry}
use Rattle.acct_machine.specs.declared.state.Held.{Held}
use Rattle.acct_machine.specs.State.{State, Start, first, last_serial, number_of}
use Rattle.acct_machine.specs.Access.{grant_of}
use Rattle.acct_machine.specs.Step.{planned_of, step, state_after, state_at}
use Rattle.acct_machine.specs.Legal.{LegalAfter, Legal}
use Rattle.acct_machine.specs.Coming.{handle_at, GivesNone, GivesOne, HandlesComeInOrder, HandlesAreFound}
use Rattle.grant_audit.specs.Origins.{gives, granted_to, granted_by, granted_in, Origin, origins_from, origins}
use Rattle.grant_audit.specs.Traced.{HandlesHaveOrigins}
use Rattle.grant_audit.proofs.Lists.{state-append, legal-push, push-by, length-push, le-or}

-- ---- whether an event gives a handle

pub gives-not : (before after : Option Held) → ((held : Held) → after ≡ Some held → before ≡ Some held)
    → (is_none before && is_some after) ≡ false
gives-not None None had = refl
gives-not (Some g) None had = refl
gives-not None (Some h) had = let e : None ≡ Some h = had h refl in cc
gives-not (Some g) (Some h) had = refl

pub gives-is : (before after : Option Held) (held : Held) → before ≡ None → after ≡ Some held
    → (is_none before && is_some after) ≡ true
gives-is None (Some h) held none some = refl
gives-is None None held none some = cc
gives-is (Some g) after held none some = cc

-- ---- origins with more events

pub origins-append : (s : State) (n : ℕ) (es fs : List Entry) (conn serial : ℕ)
    → origins_from s n (es ++ fs) conn serial
    ≡ origins_from s n es conn serial ++ origins_from (state_after s es) (n + length es) fs conn serial
origins-append s n [] fs conn serial =
    let same : n ≡ n + 0 = omega arith in ap (λ (m : ℕ). origins_from s m fs conn serial) same
origins-append s n (e ∷ es) fs conn serial =
    let next : State = step s e in
    let same : n + 1 + length es ≡ n + length (e ∷ es) = omega arith in
    push-by (gives s e conn serial) (record { event = n; grant = granted_in s e })
    (origins_from next (n + 1) (es ++ fs) conn serial) (origins_from next (n + 1) es conn serial)
    (origins_from (state_after next es) (n + length (e ∷ es)) fs conn serial)
    (origins-append next (n + 1) es fs conn serial
    ∙ ap (λ (m : ℕ). origins_from next (n + 1) es conn serial ++ origins_from (state_after next es) m fs conn serial)
    same)

-- one event more that doesn't give the handle, and one that does
pub none-more : (s : State) (before : List Entry) (e : Entry) (conn serial : ℕ)
    → gives (state_after s before) e conn serial ≡ false
    → origins s (before ++ e ∷ []) conn serial ≡ origins s before conn serial
none-more s before e conn serial not_given =
    let origin : Origin = record { event = 1 + length before; grant = granted_in (state_after s before) e } in
    origins-append s 1 before (e ∷ []) conn serial
    ∙ ap (λ (b : Bool). origins s before conn serial ++ cond b (origin ∷ []) []) not_given
    ∙ append-nil (origins s before conn serial)

pub one-more : (s : State) (before : List Entry) (e : Entry) (conn serial : ℕ)
    → gives (state_after s before) e conn serial ≡ true → origins s before conn serial ≡ []
    → origins s (before ++ e ∷ []) conn serial
    ≡ record { event = 1 + length before; grant = granted_in (state_after s before) e } ∷ []
one-more s before e conn serial given none =
    let origin : Origin = record { event = 1 + length before; grant = granted_in (state_after s before) e } in
    origins-append s 1 before (e ∷ []) conn serial
    ∙ ap (λ (b : Bool). origins s before conn serial ++ cond b (origin ∷ []) []) given
    ∙ ap (λ (os : List Origin). os ++ origin ∷ []) none

-- what was granted there is what the handle has
granted-one : (s : State) (e : Entry) (new : State) (conn : ℕ) (one : GivesOne s e new conn)
    → granted_in s e ≡ Some one.held.granted
granted-one s e new conn one =
    let opens : (planned_of one.o s conn one.call).effect ≡ effects.Opens one.opening =
    subst (λ (k : ℕ). (planned_of one.o s k one.call).effect ≡ effects.Opens one.opening) one.of_conn one.opened.opens
    in
    let grant : grant_of s conn one.opening.object one.opening.desired ≡ Some one.held.granted =
    subst (λ (k : ℕ). grant_of s k one.opening.object one.opening.desired ≡ Some one.held.granted) one.of_conn
    one.opened.grant in
    ap (λ (x : Entry). granted_in s x) one.event
    ∙ ap (λ (x : Option Operation). granted_by x s conn one.call) one.opened.passed.found
    ∙ ap (λ (x : Effect). granted_to s conn (opening_of x)) opens
    ∙ grant

-- ---- one origin

pub record IsOnly (s : State) (before : List Entry) (conn serial : ℕ) (held : Held) : Type 0 where
  pub event : ℕ
  pub within : event ≤ length before
  pub is : origins s before conn serial ≡ record { event = event; grant = Some held.granted } ∷ []

-- A serial that was not given yet has no origin, and each handle that is there has one.
pub record Tracked (s : State) (before : List Entry) (conn serial : ℕ) : Type 0 where
  pub later : last_serial conn (state_after s before).conns < serial → origins s before conn serial ≡ []
  pub there : (held : Held) → handle_at (state_after s before) conn serial ≡ Some held
      → IsOnly s before conn serial held

-- a handle that has an origin has a serial that was given
pub given-serial : (s : State) (before : List Entry) (conn serial : ℕ) (held : Held) → Tracked s before conn serial
    → handle_at (state_after s before) conn serial ≡ Some held
    → serial ≤ last_serial conn (state_after s before).conns
given-serial s before conn serial held was is =
    elim (le-or serial (last_serial conn (state_after s before).conns)) [
      | inl le ↦ le
      | inr lt ↦
          let none : origins s before conn serial ≡ [] = was.later lt in
          let some = (was.there held is).is in cc
    ]

-- an event that doesn't give the handle
tracked-same : (s : State) (before : List Entry) (e : Entry) (conn serial : ℕ)
    → ((held : Held) → handle_at (step (state_after s before) e) conn serial ≡ Some held
    → handle_at (state_after s before) conn serial ≡ Some held)
    → last_serial conn (state_after s before).conns ≤ last_serial conn (step (state_after s before) e).conns
    → Tracked s before conn serial → Tracked s (before ++ e ∷ []) conn serial
tracked-same s before e conn serial had rises was =
    let now : state_after s (before ++ e ∷ []) ≡ step (state_after s before) e = state-append s before (e ∷ []) in
    let last : last_serial conn (state_after s (before ++ e ∷ [])).conns
    ≡ last_serial conn (step (state_after s before) e).conns =
    ap (λ (x : State). last_serial conn x.conns) now in
    let same : origins s (before ++ e ∷ []) conn serial ≡ origins s before conn serial =
    none-more s before e conn serial
    (gives-not (handle_at (state_after s before) conn serial) (handle_at (step (state_after s before) e) conn serial)
    had) in
    record {
      later = λ lt. same ∙ was.later (omega (arith, lt, last, rises));
      there = λ held is.
          let only = was.there held
          (had held (subst (λ (x : State). handle_at x conn serial ≡ Some held) now is)) in
          record {
            event = only.event;
            within = omega (arith, only.within, length-push before e);
            is = same ∙ only.is;
          };
    }

-- an event that gives the handle
tracked-new : (s : State) (before : List Entry) (e : Entry) (conn serial : ℕ)
    (one : GivesOne (state_after s before) e (step (state_after s before) e) conn) → serial ≡ one.held.serial
    → Tracked s before conn serial → Tracked s (before ++ e ∷ []) conn serial
tracked-new s before e conn serial one same was =
    let old : State = state_after s before in
    let new : State = step old e in
    let now : state_after s (before ++ e ∷ []) ≡ new = state-append s before (e ∷ []) in
    let last : last_serial conn (state_after s (before ++ e ∷ [])).conns ≡ last_serial conn new.conns =
    ap (λ (x : State). last_serial conn x.conns) now in
    let next : one.held.serial ≡ last_serial conn old.conns + 1 =
    subst (λ (k : ℕ). one.held.serial ≡ last_serial k old.conns + 1) one.of_conn one.opened.next in
    let none : handle_at old conn serial ≡ None =
    subst (λ (n : ℕ). handle_at old conn n ≡ None) (sym same) one.fresh in
    let some : handle_at new conn serial ≡ Some one.held =
    subst (λ (n : ℕ). handle_at new conn n ≡ Some one.held) (sym same) one.there in
    let whole : origins s (before ++ e ∷ []) conn serial
    ≡ record { event = 1 + length before; grant = granted_in old e } ∷ [] =
    one-more s before e conn serial
    (gives-is (handle_at old conn serial) (handle_at new conn serial) one.held none some)
    (was.later (omega (arith, same, next))) in
    record {
      later = λ lt. absurd (omega (arith, lt, last, one.last, same));
      there = λ held is.
          let found : handle_at new conn serial ≡ Some held =
          subst (λ (x : State). handle_at x conn serial ≡ Some held) now is in
          let held_is : one.held ≡ held = cc in
          record {
            event = 1 + length before;
            within = omega (arith, length-push before e);
            is = whole ∙ ap (λ (g : Option ℕ). let o : Origin = record { event = 1 + length before; grant = g } in o ∷ [])
                (granted-one old e new conn one ∙ ap (λ (h : Held). Some h.granted) held_is);
          };
    }

tracked-step : (s : State) (before : List Entry) (e : Entry) (conn serial : ℕ)
    → GivesNone (state_after s before) (step (state_after s before) e) conn
    ⊎ GivesOne (state_after s before) e (step (state_after s before) e) conn
    → Tracked s before conn serial → Tracked s (before ++ e ∷ []) conn serial
tracked-step s before e conn serial (inl none) was =
    tracked-same s before e conn serial (none.had serial) (omega (arith, none.last)) was
tracked-step s before e conn serial (inr one) was =
    let old : State = state_after s before in
    let next : one.held.serial ≡ last_serial conn old.conns + 1 =
    subst (λ (k : ℕ). one.held.serial ≡ last_serial k old.conns + 1) one.of_conn one.opened.next in
    elim (cases_eq serial one.held.serial) [
      | inl same ↦ tracked-new s before e conn serial one same was
      | inr other ↦ tracked-same s before e conn serial (λ held is. one.others serial held other is)
          (omega (arith, one.last, next)) was
    ]

-- ---- a whole history

abbrev pub AllTracked : Start → List Entry → Type 0
AllTracked start before = (conn serial : ℕ) → Tracked (first start) before conn serial

pub all-tracked : HandlesComeInOrder → (start : Start) (before es : List Entry) → IsRightConfig start.config
    → IsSoundRows start.rows → Legal start before → LegalAfter start before es → AllTracked start before
    → AllTracked start (before ++ es)
all-tracked order start before [] right rows was legal tracked =
    subst (λ (xs : List Entry). AllTracked start xs) (sym (append-nil before)) tracked
all-tracked order start before (e ∷ es) right rows was legal tracked =
    let longer : Legal start (before ++ e ∷ []) = legal-push start [] before e was legal.0 in
    let next : AllTracked start (before ++ e ∷ []) = λ conn serial.
    tracked-step (first start) before e conn serial (order start before e conn right rows was legal.0)
    (tracked conn serial) in
    subst (λ (xs : List Entry). AllTracked start xs) (append_assoc before (e ∷ []) es)
    (all-tracked order start (before ++ e ∷ []) es right rows longer legal.1 next)

pub tracked-first : (start : Start) → AllTracked start []
tracked-first start conn serial = record { later = λ lt. refl; there = λ held is. cc }

pub tracked-at : HandlesComeInOrder → (start : Start) (history : List Entry) → IsRightConfig start.config
    → IsSoundRows start.rows → Legal start history → AllTracked start history
tracked-at order start history right rows legal =
    all-tracked order start [] history right rows tt legal (tracked-first start)

-- ---- no other event gives it again

stays-step : (old new : State) (e : Entry) (conn serial : ℕ) → GivesNone old new conn ⊎ GivesOne old e new conn
    → serial ≤ last_serial conn old.conns
    → ((held : Held) → handle_at new conn serial ≡ Some held → handle_at old conn serial ≡ Some held)
    × (serial ≤ last_serial conn new.conns)
stays-step old new e conn serial (inl none) le = (none.had serial, omega (arith, le, none.last))
stays-step old new e conn serial (inr one) le =
    let next : one.held.serial ≡ last_serial conn old.conns + 1 =
    subst (λ (k : ℕ). one.held.serial ≡ last_serial k old.conns + 1) one.of_conn one.opened.next in (
      λ held is. one.others serial held (λ same. omega (arith, same, next, le)) is,
      omega (arith, le, next, one.last),
    )

pub origins-stay : HandlesComeInOrder → (start : Start) (before es : List Entry) (conn serial : ℕ)
    → IsRightConfig start.config → IsSoundRows start.rows → Legal start before → LegalAfter start before es
    → serial ≤ last_serial conn (state_at start before).conns
    → origins (first start) (before ++ es) conn serial ≡ origins (first start) before conn serial
origins-stay order start before [] conn serial right rows was legal le =
    ap (λ (xs : List Entry). origins (first start) xs conn serial) (append-nil before)
origins-stay order start before (e ∷ es) conn serial right rows was legal le =
    let old : State = state_at start before in
    let longer : Legal start (before ++ e ∷ []) = legal-push start [] before e was legal.0 in
    let stays = stays-step old (step old e) e conn serial (order start before e conn right rows was legal.0) le in
    let now : state_at start (before ++ e ∷ []) ≡ step old e = state-append (first start) before (e ∷ []) in
    let last : last_serial conn (state_at start (before ++ e ∷ [])).conns ≡ last_serial conn (step old e).conns =
    ap (λ (x : State). last_serial conn x.conns) now in
    let same : origins (first start) (before ++ e ∷ []) conn serial ≡ origins (first start) before conn serial =
    none-more (first start) before e conn serial
    (gives-not (handle_at old conn serial) (handle_at (step old e) conn serial) stays.0) in
    ap (λ (xs : List Entry). origins (first start) xs conn serial) (sym (append_assoc before (e ∷ []) es))
    ∙ origins-stay order start (before ++ e ∷ []) es conn serial right rows longer legal.1
    (omega (arith, stays.1, last))
    ∙ same

-- ---- the law

pub have-origins : HandlesComeInOrder → HandlesAreFound → HandlesHaveOrigins
have-origins order found start history conn serial held right rows legal is =
    let s : State = state_at start history in
    let at = found s conn (number_of conn serial) held is in
    let serials : held.serial ≡ serial = let e : number_of conn held.serial ≡ number_of conn serial = at.1 in
    omega (arith, e) in
    let only = (tracked-at order start history right rows legal conn serial).there held is in
    record {
      event = only.event;
      only = ap (λ (k : ℕ). origins (first start) history k held.serial) at.0
          ∙ ap (λ (n : ℕ). origins (first start) history conn n) serials ∙ only.is;
    }
