-- One event more is traced and followed.
use Rattle.std.proofs.Common.{◌≡◌, ◌≢◌, inl, inr, ◌⊎◌, ℕ, zero, suc, ◌+◌, ◌^◌, ◌<◌, ◌≤◌, ◌==◌, Bool, true, false}
use Rattle.std.proofs.Common.{cond, List, [], ◌∷◌, ◌++◌, length, take, drop, Option, Some, None, slice_get, refl, sym, ◌∙◌}
use Rattle.std.proofs.Common.{ap, subst, append_assoc, arith}
use Rattle.std.specs.List.{filter}
use Rattle.std.specs.Prelude.{unwrap_or, option_to_list, slice_index_or}
use Rattle.std.proofs.lemmas.Bool.{cases_eq}
use Rattle.std.proofs.lemmas.Bool.Decides.{nat_tests}
use Rattle.std.proofs.lemmas.List.{append-nil}
use Rattle.std.proofs.lemmas.List.Elements.{filter-append}
use Rattle.acct_config.specs.declared.config.Config.{Config}
use Rattle.acct_config.specs.Spelled.{IsRightConfig}
use Rattle.acct_calls.specs.declared.calls.Call.{Call}
use Rattle.acct_rows.specs.Rows.{Lists}
use Rattle.acct_rows.specs.Sound.{IsSoundRows}
use Rattle.acct_machine.specs.declared.entry.Verdict.{Verdict}
use Rattle.acct_machine.specs.declared.entry.Verdict.TheVariants.{Ran}
use Rattle.acct_machine.specs.declared.entry.Entry.{Entry}
use Rattle.acct_machine.specs.declared.entry.Entry.TheVariants.{Opened, Called, Gone, Hooked}
use Rattle.acct_machine.specs.declared.state.Held.{Held}
use Rattle.acct_machine.specs.State.{State, Start, first, last_serial, number_of}
use Rattle.acct_machine.specs.Given.{needed_of, passed_handle}
use Rattle.acct_machine.specs.Step.{step, state_at}
use Rattle.acct_machine.specs.Legal.{May, LegalAfter, Legal}
use Rattle.acct_machine.specs.Machine.{state_of, with_entry}
use Rattle.acct_machine.specs.Shown.{Past}
use Rattle.acct_machine.specs.Coming.{handle_at, GivesNone, GivesOne, HandlesComeInOrder, HandlesAreFound}
use Rattle.acct_machine.specs.Coming.{SerialsAreFew}
use Rattle.grant_audit.specs.declared.trace.Trace.{Trace}
use Rattle.grant_audit.specs.Origins.{granted_in, Origin, origins, first_event, first_grant}
use Rattle.grant_audit.specs.Traces.{traced, traces_at, traces_after, traces, begun}
use Rattle.grant_audit.specs.Traced.{HooksAreTold}
use Rattle.grant_audit.specs.Following.{has_effect, followed, Openings, noted, seen, last_number}
use Rattle.grant_audit.specs.Following.{traces_more, openings_more, TracesEvent, MayWalk, Walks, WalksAreTraces, Follows}
use Rattle.grant_audit.proofs.Lists.{state-append, legal-push, length-push}
use Rattle.grant_audit.proofs.Origins.{gives-not, gives-is, none-more, one-more, IsOnly, AllTracked, given-serial}
use Rattle.grant_audit.proofs.Origins.{tracked-at}
use Rattle.grant_audit.proofs.Traced.{IsHandleOf, passed-at, grant-of}
use Rattle.grant_audit.proofs.Followed.{told-at, told-rest, state-is, may-follow}

-- ---- numbers

differ : (m n : ℕ) → m ≢ n → (m == n) ≡ false
differ m n ne = grind (arith, nat_tests)

equal : (m n : ℕ) → m ≡ n → (m == n) ≡ true
equal m n is = grind (arith, nat_tests)

same-conn : (c k m n : ℕ) → m < 2 ^ 64 → n < 2 ^ 64 → number_of c m ≡ number_of k n → c ≡ k
same-conn c k m n small short is = omega (arith, small, short, is)

same-serial : (c k m n : ℕ) → m < 2 ^ 64 → n < 2 ^ 64 → number_of c m ≡ number_of k n → m ≡ n
same-serial c k m n small short is = omega (arith, small, short, is)

-- ---- what is noted

noted-other : (was now event : ℕ) (at : Openings) (number : ℕ) → (was ≢ now → now ≢ number)
    → noted was now event at number ≡ at number
noted-other was now event at number other = elim (cases_eq was now) [
  | inl same ↦ rw (equal was now same) refl
  | inr ne ↦ rw (differ was now ne) (rw (differ now number (other ne)) refl)
]

noted-here : (was now event : ℕ) (at : Openings) (number : ℕ) → was ≢ now → now ≡ number
    → noted was now event at number ≡ Some event
noted-here was now event at number ne is = rw (differ was now ne) (rw (equal now number is) refl)

-- ---- what is known of the openings

abbrev IsKnown : Start → List Entry → Openings → Type 0
IsKnown start before at =
    (conn serial : ℕ) → serial ≤ last_serial conn (state_at start before).conns
    → at (number_of conn serial) ≡ first_event (origins (first start) before conn serial)

abbrev Gives : State → Entry → ℕ → Type 0
Gives s e conn = GivesNone s (step s e) conn ⊎ GivesOne s e (step s e) conn

now-is : (start : Start) (before : List Entry) (e : Entry)
    → state_at start (before ++ e ∷ []) ≡ step (state_at start before) e
now-is start before e = state-append (first start) before (e ∷ [])

-- an event that gives the connection nothing
none-known : (start : Start) (before : List Entry) (e : Entry) (conn serial : ℕ) (at : Openings)
    → IsKnown start before at → GivesNone (state_at start before) (step (state_at start before) e) conn
    → serial ≤ last_serial conn (step (state_at start before) e).conns
    → at (number_of conn serial) ≡ first_event (origins (first start) (before ++ e ∷ []) conn serial)
none-known start before e conn serial at known none le =
    let s : State = state_at start before in
    known conn serial (omega (arith, le, none.last))
    ∙ ap (λ (os : List Origin). first_event os) (sym (none-more (first start) before e conn serial
    (gives-not (handle_at s conn serial) (handle_at (step s e) conn serial) (none.had serial))))

-- an event that is no call
quiet-known : (start : Start) (before : List Entry) (e : Entry) (at : Openings) → IsKnown start before at
    → ((k : ℕ) → GivesNone (state_at start before) (step (state_at start before) e) k)
    → IsKnown start (before ++ e ∷ []) at
quiet-known start before e at known each conn serial le =
    none-known start before e conn serial at known (each conn)
    (subst (λ (x : State). serial ≤ last_serial conn x.conns) (now-is start before e) le)

-- a call: a connection that it gives nothing
none-noted : (start : Start) (before : List Entry) (e : Entry) (conn k serial event : ℕ) (at : Openings)
    → IsKnown start before at → GivesNone (state_at start before) (step (state_at start before) e) k
    → ((c : ℕ) → last_serial c (step (state_at start before) e).conns < 2 ^ 64)
    → serial ≤ last_serial k (step (state_at start before) e).conns
    → noted (last_number (state_at start before) conn) (last_number (step (state_at start before) e) conn) event at
    (number_of k serial)
    ≡ first_event (origins (first start) (before ++ e ∷ []) k serial)
none-noted start before e conn k serial event at known none few le =
    let s : State = state_at start before in
    let new : State = step s e in
    let was : ℕ = last_serial conn s.conns in
    let now : ℕ = last_serial conn new.conns in
    let short : serial < 2 ^ 64 = omega (arith, le, few k) in
    noted-other (last_number s conn) (last_number new conn) event at (number_of k serial)
    (λ ne is. let same : conn ≡ k = same-conn conn k now serial (few conn) short is in
    let stays : now ≡ was = subst (λ (c : ℕ). last_serial c new.conns ≡ last_serial c s.conns) (sym same) none.last in
    ne (ap (λ (n : ℕ). number_of conn n) (sym stays)))
    ∙ none-known start before e k serial at known none le

-- the connection that it gives a handle: another of its handles, and the new one
one-other : (start : Start) (before : List Entry) (e : Entry) (conn serial event : ℕ) (at : Openings)
    (one : GivesOne (state_at start before) e (step (state_at start before) e) conn)
    → IsKnown start before at
    → ((c : ℕ) → last_serial c (step (state_at start before) e).conns < 2 ^ 64)
    → serial ≤ last_serial conn (step (state_at start before) e).conns → serial ≢ one.held.serial
    → noted (last_number (state_at start before) conn) (last_number (step (state_at start before) e) conn) event at
    (number_of conn serial)
    ≡ first_event (origins (first start) (before ++ e ∷ []) conn serial)
one-other start before e conn serial event at one known few le other =
    let s : State = state_at start before in
    let new : State = step s e in
    let next : one.held.serial ≡ last_serial conn s.conns + 1 =
    subst (λ (k : ℕ). one.held.serial ≡ last_serial k s.conns + 1) one.of_conn one.opened.next in
    let short : serial < 2 ^ 64 = omega (arith, le, few conn) in
    noted-other (last_number s conn) (last_number new conn) event at (number_of conn serial)
    (λ ne is. let same : last_serial conn new.conns ≡ serial =
    same-serial conn conn (last_serial conn new.conns) serial (few conn) short is in
    other (sym same ∙ one.last))
    ∙ known conn serial (below (last_serial conn s.conns) serial one.held.serial (last_serial conn new.conns) next
    one.last le other)
    ∙ ap (λ (os : List Origin). first_event os) (sym (none-more (first start) before e conn serial
    (gives-not (handle_at s conn serial) (handle_at new conn serial)
    (λ held is. one.others serial held other is))))
  where
    below : (last serial new now : ℕ) → new ≡ last + 1 → now ≡ new → serial ≤ now → serial ≢ new → serial ≤ last
    below last serial new now next is le other = omega (arith, next, is, le, other)

one-new : (start : Start) (before : List Entry) (e : Entry) (conn serial event : ℕ) (at : Openings)
    (one : GivesOne (state_at start before) e (step (state_at start before) e) conn)
    → AllTracked start before → event ≡ length before + 1 → serial ≡ one.held.serial
    → noted (last_number (state_at start before) conn) (last_number (step (state_at start before) e) conn) event at
    (number_of conn serial)
    ≡ first_event (origins (first start) (before ++ e ∷ []) conn serial)
one-new start before e conn serial event at one tracked is same =
    let s : State = state_at start before in
    let new : State = step s e in
    let next : one.held.serial ≡ last_serial conn s.conns + 1 =
    subst (λ (k : ℕ). one.held.serial ≡ last_serial k s.conns + 1) one.of_conn one.opened.next in
    let now : last_number new conn ≡ number_of conn serial =
    ap (λ (n : ℕ). number_of conn n) (one.last ∙ sym same) in
    let fresh : handle_at s conn serial ≡ None =
    subst (λ (n : ℕ). handle_at s conn n ≡ None) (sym same) one.fresh in
    let there : handle_at new conn serial ≡ Some one.held =
    subst (λ (n : ℕ). handle_at new conn n ≡ Some one.held) (sym same) one.there in
    let whole : origins (first start) (before ++ e ∷ []) conn serial
    ≡ record { event = 1 + length before; grant = granted_in s e } ∷ [] =
    one-more (first start) before e conn serial
    (gives-is (handle_at s conn serial) (handle_at new conn serial) one.held fresh there)
    ((tracked conn serial).later (omega (arith, same, next))) in
    let number : event ≡ 1 + length before = omega (arith, is) in
    noted-here (last_number s conn) (last_number new conn) event at (number_of conn serial)
    (λ e. changes conn (last_serial conn s.conns) (last_serial conn new.conns) one.held.serial next one.last e) now
    ∙ ap (λ (n : ℕ). Some n) number ∙ sym (ap (λ (os : List Origin). first_event os) whole)
  where
    changes : (c last now held : ℕ) → held ≡ last + 1 → now ≡ held → number_of c last ≡ number_of c now → ⊥
    changes c last now held next is e = omega (arith, next, is, e)

called-known : (start : Start) (before : List Entry) (conn : ℕ) (call : Call) (verdict : Verdict) (bytes event : ℕ)
    (at : Openings)
    → IsKnown start before at → AllTracked start before
    → ((k : ℕ) → Gives (state_at start before) (Called conn call verdict bytes) k)
    → ((c : ℕ) → last_serial c (step (state_at start before) (Called conn call verdict bytes)).conns < 2 ^ 64)
    → event ≡ length before + 1
    → IsKnown start (before ++ Called conn call verdict bytes ∷ [])
    (noted (last_number (state_at start before) conn)
    (last_number (step (state_at start before) (Called conn call verdict bytes)) conn) event at)
called-known start before conn call verdict bytes event at known tracked each few is k serial le =
    let e : Entry = Called conn call verdict bytes in
    let s : State = state_at start before in
    let new : State = step s e in
    let within : serial ≤ last_serial k new.conns =
    subst (λ (x : State). serial ≤ last_serial k x.conns) (now-is start before e) le in
    elim (each k) [
      | inl none ↦ none-noted start before e conn k serial event at known none few within
      | inr one ↦
          let here : conn ≡ k = conn-of conn call verdict bytes k one.call one.bytes one.event in
          subst (λ (c : ℕ). noted (last_number s c) (last_number new c) event at (number_of k serial)
          ≡ first_event (origins (first start) (before ++ e ∷ []) k serial)) (sym here)
          (elim (cases_eq serial one.held.serial) [
            | inl same ↦ one-new start before e k serial event at one tracked is same
            | inr other ↦ one-other start before e k serial event at one known few within other
          ])
    ]
  where
    conn-of : (conn : ℕ) (call : Call) (verdict : Verdict) (bytes k : ℕ) (call' : Call) (bytes' : ℕ)
        → Called conn call verdict bytes ≡ Called k call' Ran bytes' → conn ≡ k
    conn-of conn call verdict bytes k call' bytes' is = cc

-- ---- the trace

seen-traced : HandlesAreFound → (start : Start) (before : List Entry) (conn : ℕ) (call : Call) (event : ℕ)
    (at : Openings)
    → event ≡ length before + 1 → AllTracked start before → IsKnown start before at
    → (o : Option Held) → passed_handle (state_at start before) conn call ≡ o
    → option_to_list (seen (state_at start before) at event call o) ≡ traced (first start) before call o
seen-traced found start before conn call event at is tracked known None passed = refl
seen-traced found start before conn call event at is tracked known (Some held) passed =
    let s : State = state_at start before in
    let here : IsHandleOf s conn call held = passed-at found s conn call held passed in
    let from : List Origin = origins (first start) before held.conn held.serial in
    let only : IsOnly (first start) before held.conn held.serial held =
    (tracked held.conn held.serial).there held here.at in
    let le : held.serial ≤ last_serial held.conn s.conns =
    given-serial (first start) before held.conn held.serial held (tracked held.conn held.serial) here.at in
    let opening : at call.handle.number ≡ first_event from =
    ap at (sym here.number) ∙ known held.conn held.serial le in
    let grant : unwrap_or (first_grant from) 0 ≡ held.granted = grant-of from only.event held.granted only.is in
    let needs : ℕ = needed_of s call in
    ap (λ (n : ℕ). let t : Trace = record {
      entry = n;
      conn = held.conn;
      serial = held.serial;
      opened = unwrap_or (at call.handle.number) 0;
      grant = held.granted;
      needed = needs;
    } in t ∷ []) is
    ∙ ap (λ (o : Option ℕ). let t : Trace = record {
      entry = length before + 1;
      conn = held.conn;
      serial = held.serial;
      opened = unwrap_or o 0;
      grant = held.granted;
      needed = needs;
    } in t ∷ []) opening
    ∙ ap (λ (g : ℕ). let t : Trace = record {
      entry = length before + 1;
      conn = held.conn;
      serial = held.serial;
      opened = unwrap_or (first_event from) 0;
      grant = g;
      needed = needs;
    } in t ∷ []) (sym grant)

more-traced : HandlesAreFound → (start : Start) (before : List Entry) (e : Entry) (past : Past) (event : ℕ)
    (at : Openings)
    → state_of past ≡ state_at start before → event ≡ length before + 1 → AllTracked start before
    → IsKnown start before at
    → traces_more past at event e ≡ traces_at (first start) before e
more-traced found start before (Opened conn listener) past event at state is tracked known = refl
more-traced found start before (Called conn call verdict bytes) past event at state is tracked known =
    ap (λ (s : State). option_to_list (seen s at event call (passed_handle s conn call))) state
    ∙ seen-traced found start before conn call event at is tracked known
    (passed_handle (state_at start before) conn call) refl
more-traced found start before (Gone conn) past event at state is tracked known = refl
more-traced found start before (Hooked number) past event at state is tracked known = refl

-- ---- what the machine has

followed-history : (b : Bool) (past : Past) (e : Entry)
    → (cond b (with_entry past e) past).history ≡ past.history ++ cond b (e ∷ []) []
followed-history true past e = refl
followed-history false past e = sym (append-nil past.history)

followed-start : (b : Bool) (past : Past) (e : Entry) → (cond b (with_entry past e) past).start ≡ past.start
followed-start true past e = refl
followed-start false past e = refl

-- a call alone gives a handle
no-call-none : (s new : State) (k : ℕ) (e : Entry) → GivesNone s new k ⊎ GivesOne s e new k
    → ((call : Call) (bytes : ℕ) → e ≡ Called k call Ran bytes → ⊥) → GivesNone s new k
no-call-none s new k e (inl none) never = none
no-call-none s new k e (inr one) never = absurd (never one.call one.bytes one.event)

more-known : (start : Start) (before : List Entry) (e : Entry) (past : Past) (event : ℕ) (at : Openings)
    → state_of past ≡ state_at start before → state_of (followed past e) ≡ step (state_at start before) e
    → event ≡ length before + 1 → AllTracked start before → IsKnown start before at
    → ((k : ℕ) → Gives (state_at start before) e k)
    → ((c : ℕ) → last_serial c (step (state_at start before) e).conns < 2 ^ 64)
    → IsKnown start (before ++ e ∷ []) (openings_more past at event e)
more-known start before (Opened conn listener) past event at state next is tracked known each few =
    quiet-known start before (Opened conn listener) at known
    (λ k. no-call-none (state_at start before) (step (state_at start before) (Opened conn listener)) k
    (Opened conn listener) (each k) (λ call bytes e. cc))
more-known start before (Called conn call verdict bytes) past event at state next is tracked known each few =
    let e : Entry = Called conn call verdict bytes in
    let s : State = state_at start before in
    subst (λ (x : State). IsKnown start (before ++ e ∷ [])
    (noted (last_number x conn) (last_number (state_of (followed past e)) conn) event at)) (sym state)
    (subst (λ (x : State). IsKnown start (before ++ e ∷ [])
    (noted (last_number s conn) (last_number x conn) event at)) (sym next)
    (called-known start before conn call verdict bytes event at known tracked each few is))
more-known start before (Gone conn) past event at state next is tracked known each few =
    quiet-known start before (Gone conn) at known
    (λ k. no-call-none (state_at start before) (step (state_at start before) (Gone conn)) k (Gone conn) (each k)
    (λ call bytes e. cc))
more-known start before (Hooked number) past event at state next is tracked known each few =
    quiet-known start before (Hooked number) at known
    (λ k. no-call-none (state_at start before) (step (state_at start before) (Hooked number)) k (Hooked number)
    (each k) (λ call bytes e. cc))

-- ---- the loop

-- The events before a place are traced and followed.
pub record Audited (config : Config) (rows : Lists) (before : List Entry) (past : Past) (at : Openings)
    (found : List Trace) : Type 0 where
  pub follows : Follows config rows before past at
  pub traces : found ≡ traces_after (begun config rows) [] before

traces-push : (s : State) (before es : List Entry) (e : Entry)
    → traces_after s before (es ++ e ∷ []) ≡ traces_after s before es ++ traces_at s (before ++ es) e
traces-push s before [] e =
    append-nil (traces_at s before e)
    ∙ ap (λ (xs : List Entry). traces_at s xs e) (sym (append-nil before))
traces-push s before (x ∷ es) e =
    ap (λ (ts : List Trace). traces_at s before x ++ ts) (traces-push s (before ++ x ∷ []) es e)
    ∙ sym (append_assoc (traces_at s before x) (traces_after s (before ++ x ∷ []) es)
    (traces_at s ((before ++ x ∷ []) ++ es) e))
    ∙ ap (λ (xs : List Entry). (traces_at s before x ++ traces_after s (before ++ x ∷ []) es) ++ traces_at s xs e)
    (append_assoc before (x ∷ []) es)

-- what is legal up to an event, and that the event may come
pub record Legally (start : Start) (before : List Entry) (e : Entry) : Type 0 where
  pub legal : Legal start before
  pub may : May start before e
  pub longer : Legal start (before ++ e ∷ [])

pub audited-first : (config : Config) (rows : Lists) (past : Past) (at : Openings)
    → past ≡ record { start = record { config = config; rows = rows; faults = 0 }; history = [] }
    → ((number : ℕ) → at number ≡ None) → Audited config rows [] past at []
audited-first config rows past at is none = record {
  follows = record {
    start = ap (λ (p : Past). p.start) is;
    history = ap (λ (p : Past). p.history) is;
    known = λ conn serial le. none (number_of conn serial);
  };
  traces = refl;
}

-- What the laws of the machine promise.
pub record Laws : Type 0 where
  pub order : HandlesComeInOrder
  pub few : SerialsAreFew
  pub found : HandlesAreFound

pub audited-more : Laws → (start : Start) (before : List Entry) (e : Entry) (event : ℕ) (past new : Past)
    (at new_at : Openings) (found all : List Trace)
    → IsRightConfig start.config → IsSoundRows start.rows → Legally start before e → length (before ++ e ∷ []) < 2 ^ 64
    → event ≡ length before + 1
    → Audited start.config start.rows before past at found → TracesEvent past at event e found new new_at all
    → Audited start.config start.rows (before ++ e ∷ []) new new_at all
audited-more laws start before e event past new at new_at found all right rows legally short is was traces =
    let begins : first past.start ≡ first start = ap (λ (s : Start). first s) was.follows.start in
    let state : state_of past ≡ state_at start before = state-is start before past begins was.follows.history in
    let start_is : new.start ≡ past.start =
    ap (λ (p : Past). p.start) traces.past ∙ followed-start (has_effect e) past e in
    let history_is : new.history ≡ filter has_effect (before ++ e ∷ []) =
    ap (λ (p : Past). p.history) traces.past ∙ followed-history (has_effect e) past e
    ∙ ap (λ (es : List Entry). es ++ cond (has_effect e) (e ∷ []) []) was.follows.history
    ∙ sym (filter-append has_effect before (e ∷ [])) in
    let next : state_of (followed past e) ≡ step (state_at start before) e =
    ap (λ (p : Past). state_of p) (sym traces.past)
    ∙ state-is start (before ++ e ∷ []) new (ap (λ (s : Start). first s) start_is ∙ begins) history_is
    ∙ state-append (first start) before (e ∷ []) in
    let tracked : AllTracked start before = tracked-at laws.order start before right rows legally.legal in
    let few : (c : ℕ) → last_serial c (step (state_at start before) e).conns < 2 ^ 64 = λ c.
    let now : last_serial c (state_at start (before ++ e ∷ [])).conns
    ≡ last_serial c (step (state_at start before) e).conns =
    ap (λ (x : State). last_serial c x.conns) (state-append (first start) before (e ∷ [])) in
    omega (arith, now, laws.few start (before ++ e ∷ []) c, short) in
    let known = more-known start before e past event at state next is tracked was.follows.known
    (λ k. laws.order start before e k right rows legally.legal legally.may) few in
    record {
      follows = record {
        start = start_is ∙ was.follows.start;
        history = history_is;
        known = λ conn serial le. traces.openings (number_of conn serial) ∙ known conn serial le;
      };
      traces = traces.traces
          ∙ ap (λ (ts : List Trace). ts ++ traces_more past at event e) was.traces
          ∙ ap (λ (ts : List Trace). traces_after (first start) [] before ++ ts)
          (more-traced laws.found start before e past event at state is tracked was.follows.known)
          ∙ sym (traces-push (first start) [] before e);
    }

-- ---- all events

length-both : (es fs : List Entry) → length (es ++ fs) ≡ length es + length fs
length-both [] fs = omega arith
length-both (e ∷ es) fs = let rest = length-both es fs in omega (arith, rest)

plus-none : (n : ℕ) → n + 0 ≡ n
plus-none n = omega arith

one-later : (n : ℕ) (es : List Entry) → n + suc (length es) ≡ n + 1 + length es
one-later n es = omega arith

-- the machine's history with one event more
history-more : (past : Past) (before : List Entry) (e : Entry) → past.history ≡ filter has_effect before
    → (followed past e).history ≡ filter has_effect (before ++ e ∷ [])
history-more past before e is =
    followed-history (has_effect e) past e
    ∙ ap (λ (es : List Entry). es ++ cond (has_effect e) (e ∷ []) []) is
    ∙ sym (filter-append has_effect before (e ∷ []))

may-walk : (start : Start) (before es : List Entry) (past : Past) → past.start.config ≡ start.config
    → past.start.rows ≡ start.rows → past.history ≡ filter has_effect before → LegalAfter start before es
    → HooksAreTold start.config es → MayWalk past es
may-walk start before [] past config rows history legal hooks = tt
may-walk start before (e ∷ es) past config rows history legal hooks =
    let same : (followed past e).start ≡ past.start = followed-start (has_effect e) past e in (
      may-follow start before e past config rows history legal.0 (told-at start.config (e ∷ es) 0 e hooks refl),
      may-walk start (before ++ e ∷ []) es (followed past e) (ap (λ (s : Start). s.config) same ∙ config)
          (ap (λ (s : Start). s.rows) same ∙ rows) (history-more past before e history) legal.1
          (told-rest start.config e es hooks),
    )

audited-walk : Laws → (start : Start) (before es : List Entry) (past new : Past) (at new_at : Openings)
    (found all : List Trace)
    → IsRightConfig start.config → IsSoundRows start.rows → Legal start before → LegalAfter start before es
    → length (before ++ es) < 2 ^ 64
    → Audited start.config start.rows before past at found
    → Walks past at (length before + 1) es found new new_at all
    → Audited start.config start.rows (before ++ es) new new_at all
audited-walk laws start before [] past new at new_at found all right rows was legal short had walks =
    subst (λ (xs : List Entry). Audited start.config start.rows xs new new_at all) (sym (append-nil before))
    (subst (λ (p : Past). Audited start.config start.rows before p new_at all) (sym walks.0)
    (subst (λ (o : Openings). Audited start.config start.rows before past o all) (sym walks.1)
    (subst (λ (ts : List Trace). Audited start.config start.rows before past at ts) (sym walks.2) had)))
audited-walk laws start before (e ∷ es) past new at new_at found all right rows was legal short had walks =
    let whole : (before ++ e ∷ []) ++ es ≡ before ++ e ∷ es = append_assoc before (e ∷ []) es in
    let longer : Legal start (before ++ e ∷ []) = legal-push start [] before e was legal.0 in
    let many : length (before ++ e ∷ []) ≡ length before + 1 = length-push before e in
    let all_many : length (before ++ e ∷ es) ≡ length before + length (e ∷ es) = length-both before (e ∷ es) in
    let less : length (before ++ e ∷ []) < 2 ^ 64 = omega (arith, short, many, all_many) in
    let next : Audited start.config start.rows (before ++ e ∷ []) walks.0 walks.1 walks.2 =
    audited-more laws start before e (length before + 1) past walks.0 at walks.1 found walks.2 right rows
    (record { legal = was; may = legal.0; longer = longer }) less refl had walks.3 in
    let rest : Walks walks.0 walks.1 (length (before ++ e ∷ []) + 1) es walks.2 new new_at all =
    subst (λ (n : ℕ). Walks walks.0 walks.1 (n + 1) es walks.2 new new_at all) (sym many) walks.4 in
    subst (λ (xs : List Entry). Audited start.config start.rows xs new new_at all) whole
    (audited-walk laws start (before ++ e ∷ []) es walks.0 new walks.1 new_at walks.2 all right rows longer legal.1
    (subst (λ (xs : List Entry). length xs < 2 ^ 64) (sym whole) short) next rest)

pub walks-are-traces : HandlesComeInOrder → SerialsAreFew → HandlesAreFound → WalksAreTraces
unfolding traces
walks-are-traces order few found config rows history right sound legal hooks past at is none =
    let start : Start = record { config = config; rows = rows; faults = legal.faults } in (
      may-walk start [] history past (ap (λ (p : Past). p.start.config) is) (ap (λ (p : Past). p.start.rows) is)
          (ap (λ (p : Past). p.history) is) legal.legal hooks,
      λ new new_at all short walks.
          (audited-walk (record { order = order; few = few; found = found }) start [] history past new at new_at [] all
          right sound tt legal.legal short (audited-first config rows past at is none) walks).traces,
    )

-- ---- one event more

-- one more event at the end is traced and followed
pub walks-push : (past : Past) (at : Openings) (n : ℕ) (es : List Entry) (e : Entry) (found : List Trace) (mid new : Past)
    (mid_at new_at : Openings) (more all : List Trace)
    → Walks past at n es found mid mid_at more → TracesEvent mid mid_at (n + length es) e more new new_at all
    → Walks past at n (es ++ e ∷ []) found new new_at all
walks-push past at n [] e found mid new mid_at new_at more all walks traces =
    let here : TracesEvent past at n e found new new_at all =
    subst (λ (m : ℕ). TracesEvent past at m e found new new_at all) (plus-none n)
    (subst (λ (p : Past). TracesEvent p at (n + 0) e found new new_at all) walks.0
    (subst (λ (o : Openings). TracesEvent mid o (n + 0) e found new new_at all) walks.1
    (subst (λ (ts : List Trace). TracesEvent mid mid_at (n + 0) e ts new new_at all) walks.2 traces))) in
    (new, new_at, all, here, (refl, refl, refl))
walks-push past at n (x ∷ es) e found mid new mid_at new_at more all walks traces = (
  walks.0,
  walks.1,
  walks.2,
  walks.3,
  walks-push walks.0 walks.1 (n + 1) es e walks.2 mid new mid_at new_at more all walks.4
      (subst (λ (m : ℕ). TracesEvent mid mid_at m e more new new_at all) (one-later n es) traces),
)

-- the event at a place
pub event-here : (i : ℕ) (es : List Entry) (x d : Entry) → i < length es → x ≡ slice_index_or es i d
    → slice_get es i ≡ Some x
event-here i [] x d lt is = absurd (omega arith)
event-here zero (e ∷ es) x d lt is = ap (λ (y : Entry). Some y) (sym is)
event-here (suc i) (e ∷ es) x d lt is = event-here i es x d (omega arith) is

left-behind : (es : List Entry) (i : ℕ) (e : Entry) → slice_get es i ≡ Some e → drop i es ≡ e ∷ drop (suc i) es
left-behind [] i e is = absurd cc
left-behind (x ∷ es) zero e is = let same : x ≡ e = cc in ap (λ (y : Entry). y ∷ es) same
left-behind (x ∷ es) (suc i) e is = left-behind es i e is

taken-to : (es : List Entry) (i : ℕ) (e : Entry) → slice_get es i ≡ Some e → take (suc i) es ≡ take i es ++ e ∷ []
taken-to [] i e is = absurd cc
taken-to (x ∷ es) zero e is = let same : x ≡ e = cc in ap (λ (y : Entry). y ∷ []) same
taken-to (x ∷ es) (suc i) e is = ap (λ (ys : List Entry). x ∷ ys) (taken-to es i e is)

next-place : (i : ℕ) → suc i ≡ i + 1
next-place i = omega arith

-- what is left from a place on begins with the event there
pub left-at : (es : List Entry) (i : ℕ) (e : Entry) → slice_get es i ≡ Some e → drop i es ≡ e ∷ drop (i + 1) es
left-at es i e is = left-behind es i e is ∙ ap (λ (n : ℕ). e ∷ drop n es) (next-place i)

-- and the events up to it end with it
pub taken-at : (es : List Entry) (i : ℕ) (e : Entry) → slice_get es i ≡ Some e → take (i + 1) es ≡ take i es ++ e ∷ []
taken-at es i e is = ap (λ (n : ℕ). take n es) (sym (next-place i)) ∙ taken-to es i e is

pub many-at : (es : List Entry) (i : ℕ) (e : Entry) → slice_get es i ≡ Some e → length (take i es) ≡ i
many-at [] i e is = absurd cc
many-at (x ∷ es) zero e is = refl
many-at (x ∷ es) (suc i) e is = let rest = many-at es i e is in omega (arith, rest)
