-- The traces of a legal history are right.
use Rattle.std.proofs.Common.{◌≡◌, ℕ, ◌+◌, Bool, true, false, ◌&&◌, cond, List, [], ◌∷◌, ◌++◌, length}
use Rattle.std.proofs.Common.{Option, Some, None, refl, sym, ◌∙◌, ap, subst, append_assoc, arith}
use Rattle.std.specs.List.{All}
use Rattle.std.specs.Prelude.{unwrap_or}
use Rattle.std.proofs.lemmas.List.Elements.{All-append, All-cons, All-nil}
use Rattle.acct_config.specs.Spelled.{IsRightConfig}
use Rattle.acct_calls.specs.declared.calls.Call.{Call}
use Rattle.acct_tables.specs.Keys.{kind_of}
use Rattle.acct_rows.specs.Sound.{IsSoundRows}
use Rattle.acct_rules.specs.declared.profile.Brings.{Brings}
use Rattle.acct_rules.specs.declared.profile.Brings.TheVariants as brings
use Rattle.acct_rules.specs.declared.profile.Kinds.{Kinds}
use Rattle.acct_rules.specs.Profiles.{takes, needed_bits, Operation}
use Rattle.acct_machine.specs.declared.checks.Access.TheVariants.{Passed, WrongKind, Denied}
use Rattle.acct_machine.specs.declared.entry.Entry.{Entry}
use Rattle.acct_machine.specs.declared.entry.Entry.TheVariants.{Opened, Called, Gone, Hooked}
use Rattle.acct_machine.specs.declared.state.Held.{Held}
use Rattle.acct_machine.specs.State.{State, Start, first, number_of}
use Rattle.acct_machine.specs.Access.{held_by, has_bits, access_by, access_with, operation_of}
use Rattle.acct_machine.specs.Given.{is_brought, is_passed, needed_in, needed_of, passed_in, passed_handle}
use Rattle.acct_machine.specs.Step.{state_at}
use Rattle.acct_machine.specs.Legal.{LegalAfter, Legal}
use Rattle.acct_machine.specs.Coming.{handle_at, HandlesComeInOrder, HandlesAreFound}
use Rattle.grant_audit.specs.declared.trace.Trace.{Trace}
use Rattle.grant_audit.specs.Origins.{Origin, origins, first_event, first_grant}
use Rattle.grant_audit.specs.Traces.{traced, traces_at, traces_after}
use Rattle.grant_audit.specs.Traced.{IsTraced}
use Rattle.grant_audit.proofs.Lists.{legal-push}
use Rattle.grant_audit.proofs.Origins.{AllTracked, IsOnly, given-serial, all-tracked, origins-stay}

-- ---- a handle that passed

enough-test : (b c : Bool) (h held : Held) → cond (is_passed (cond b (cond c Passed Denied) WrongKind)) (Some h) None ≡ Some held
    → (h ≡ held) × (c ≡ true)
enough-test true true h held is = (cc, refl)
enough-test true false h held is = cc
enough-test false c h held is = cc

enough-found : (kinds : Kinds) (bits : ℕ) (found : Option Held) (held : Held)
    → cond (is_passed (access_by kinds bits found)) found None ≡ Some held
    → (found ≡ Some held) × (has_bits held.granted bits ≡ true)
enough-found kinds bits None held is = cc
enough-found kinds bits (Some h) held is =
    let passed = enough-test (takes kinds (kind_of h.object)) (has_bits h.granted bits) h held is in
    (ap (λ (x : Held). Some x) passed.0, subst (λ (x : Held). has_bits x.granted bits ≡ true) passed.0 passed.1)

enough-brought : (b : Brings) (bits : ℕ) (found : Option Held) (held : Held)
    → cond (is_brought b && is_passed (access_with b bits found)) found None ≡ Some held
    → (found ≡ Some held) × (has_bits held.granted (cond (is_brought b) bits 0) ≡ true)
enough-brought brings.Nothing bits found held is = cc
enough-brought (brings.Handle kinds) bits found held is = enough-found kinds bits found held is

enough-in : (o : Option Operation) (s : State) (conn : ℕ) (call : Call) (held : Held) → passed_in o s conn call ≡ Some held
    → (held_by s conn call ≡ Some held) × (has_bits held.granted (needed_in o s.rows call.args) ≡ true)
enough-in None s conn call held is = cc
enough-in (Some o) s conn call held is =
    enough-brought o.profile.brings (needed_bits o.profile.needs s.rows call.args) (held_by s conn call) held is

-- it is the connection's, and its grant has each bit that is needed
pub passed-enough : (s : State) (conn : ℕ) (call : Call) (held : Held) → passed_handle s conn call ≡ Some held
    → (held_by s conn call ≡ Some held) × (has_bits held.granted (needed_of s call) ≡ true)
passed-enough s conn call held is = enough-in (operation_of call) s conn call held is

-- it is found at its own connection and serial, whose number is that of the call's handle
pub record IsHandleOf (s : State) (conn : ℕ) (call : Call) (held : Held) : Type 0 where
  pub of_conn : held.conn ≡ conn
  pub at : handle_at s held.conn held.serial ≡ Some held
  pub number : number_of held.conn held.serial ≡ call.handle.number

pub passed-at : HandlesAreFound → (s : State) (conn : ℕ) (call : Call) (held : Held)
    → passed_handle s conn call ≡ Some held → IsHandleOf s conn call held
passed-at found s conn call held is =
    let by : held_by s conn call ≡ Some held = (passed-enough s conn call held is).0 in
    let here = found s conn call.handle.number held by in
    let number : number_of held.conn held.serial ≡ call.handle.number =
    subst (λ (k : ℕ). number_of k held.serial ≡ call.handle.number) (sym here.0) here.1 in
    let at : handle_at s conn held.serial ≡ Some held =
    let e : number_of conn held.serial ≡ call.handle.number = here.1 in rw e by in
    record {
      of_conn = here.0;
      at = subst (λ (k : ℕ). handle_at s k held.serial ≡ Some held) (sym here.0) at;
      number = number;
    }

-- ---- what a trace has

pub event-of : (os : List Origin) (event : ℕ) (grant : Option ℕ)
    → os ≡ record { event = event; grant = grant } ∷ [] → unwrap_or (first_event os) 0 ≡ event
event-of os event grant is = ap (λ (x : List Origin). unwrap_or (first_event x) 0) is

pub grant-of : (os : List Origin) (event grant : ℕ) → os ≡ record { event = event; grant = Some grant } ∷ []
    → unwrap_or (first_grant os) 0 ≡ grant
grant-of os event grant is = ap (λ (x : List Origin). unwrap_or (first_grant x) 0) is

single : (P : Trace → Type 0) (t : Trace) → P t → All P (t ∷ [])
single P t holds = All-cons P t [] holds (All-nil P)

traced-right : HandlesComeInOrder → HandlesAreFound → (start : Start) (before es : List Entry) (conn : ℕ) (call : Call)
    → IsRightConfig start.config → IsSoundRows start.rows → Legal start before → LegalAfter start before es
    → AllTracked start before → (o : Option Held) → passed_handle (state_at start before) conn call ≡ o
    → All (IsTraced start.config start.rows (before ++ es)) (traced (first start) before call o)
traced-right order found start before es conn call right rows was legal tracked None is =
    All-nil (IsTraced start.config start.rows (before ++ es))
traced-right order found start before es conn call right rows was legal tracked (Some held) is =
    let s : State = state_at start before in
    let here : IsHandleOf s conn call held = passed-at found s conn call held is in
    let only : IsOnly (first start) before held.conn held.serial held =
    (tracked held.conn held.serial).there held here.at in
    let from : List Origin = origins (first start) before held.conn held.serial in
    let opened : unwrap_or (first_event from) 0 ≡ only.event = event-of from only.event (Some held.granted) only.is in
    let grant : unwrap_or (first_grant from) 0 ≡ held.granted = grant-of from only.event held.granted only.is in
    let stays : origins (first start) (before ++ es) held.conn held.serial ≡ from =
    origins-stay order start before es held.conn held.serial right rows was legal
    (given-serial (first start) before held.conn held.serial held (tracked held.conn held.serial) here.at) in
    let t : Trace = record {
      entry = length before + 1;
      conn = held.conn;
      serial = held.serial;
      opened = unwrap_or (first_event from) 0;
      grant = unwrap_or (first_grant from) 0;
      needed = needed_of s call;
    } in
    single (IsTraced start.config start.rows (before ++ es)) t (record {
      origin = stays ∙ only.is
          ∙ ap (λ (n : ℕ). let o : Origin = record { event = n; grant = Some held.granted } in o ∷ []) (sym opened)
          ∙ ap (λ (g : ℕ). let o : Origin =
          record { event = unwrap_or (first_event from) 0; grant = Some g } in o ∷ []) (sym grant);
      before = omega (arith, opened, only.within);
      enough = subst (λ (g : ℕ). has_bits g (needed_of s call) ≡ true) (sym grant)
          (passed-enough s conn call held is).1;
    })

event-right : HandlesComeInOrder → HandlesAreFound → (start : Start) (before : List Entry) (e : Entry) (es : List Entry)
    → IsRightConfig start.config → IsSoundRows start.rows → Legal start before → LegalAfter start before (e ∷ es)
    → AllTracked start before
    → All (IsTraced start.config start.rows (before ++ e ∷ es)) (traces_at (first start) before e)
event-right order found start before (Opened conn listener) es right rows was legal tracked =
    All-nil (IsTraced start.config start.rows (before ++ Opened conn listener ∷ es))
event-right order found start before (Called conn call verdict bytes) es right rows was legal tracked =
    traced-right order found start before (Called conn call verdict bytes ∷ es) conn call right rows was legal tracked
    (passed_handle (state_at start before) conn call) refl
event-right order found start before (Gone conn) es right rows was legal tracked =
    All-nil (IsTraced start.config start.rows (before ++ Gone conn ∷ es))
event-right order found start before (Hooked number) es right rows was legal tracked =
    All-nil (IsTraced start.config start.rows (before ++ Hooked number ∷ es))

pub traces-right : HandlesComeInOrder → HandlesAreFound → (start : Start) (before es : List Entry)
    → IsRightConfig start.config → IsSoundRows start.rows → Legal start before → LegalAfter start before es
    → AllTracked start before
    → All (IsTraced start.config start.rows (before ++ es)) (traces_after (first start) before es)
traces-right order found start before [] right rows was legal tracked =
    All-nil (IsTraced start.config start.rows (before ++ []))
traces-right order found start before (e ∷ es) right rows was legal tracked =
    let longer : Legal start (before ++ e ∷ []) = legal-push start [] before e was legal.0 in
    let next : AllTracked start (before ++ e ∷ []) =
    all-tracked order start before (e ∷ []) right rows was (legal.0, tt) tracked in
    let rest = traces-right order found start (before ++ e ∷ []) es right rows longer legal.1 next in
    All-append (IsTraced start.config start.rows (before ++ e ∷ es)) (traces_at (first start) before e)
    (traces_after (first start) (before ++ e ∷ []) es)
    (event-right order found start before e es right rows was legal tracked)
    (subst (λ (xs : List Entry). All (IsTraced start.config start.rows xs)
    (traces_after (first start) (before ++ e ∷ []) es)) (append_assoc before (e ∷ []) es) rest)
