-- Every handle was granted by a call of the history.
use Rattle.std.proofs.Common.{◌≡◌, ℕ, ◌+◌, not, ◌==◌, List, [], ◌∷◌, ◌++◌, get_or, refl, sym, ◌∙◌, ap, subst}
use Rattle.std.proofs.Common.{append_assoc}
use Rattle.std.specs.List.{All}
use Rattle.std.proofs.lemmas.List.{append-nil}
use Rattle.std.proofs.lemmas.List.Elements.{All-push, All-filter}
use Rattle.acct_calls.specs.declared.calls.Call.{Call}
use Rattle.acct_rules.specs.declared.planned.Effect.{Effect}
use Rattle.acct_rules.specs.declared.planned.Effect.TheVariants as effects
use Rattle.acct_tables.specs.Keys.{same_object}
use Rattle.acct_machine.specs.declared.entry.Verdict.{Verdict}
use Rattle.acct_machine.specs.declared.entry.Verdict.TheVariants.{Ran}
use Rattle.acct_machine.specs.declared.entry.Entry.{Entry}
use Rattle.acct_machine.specs.declared.entry.Entry.TheVariants.{Opened, Called, Gone, Hooked}
use Rattle.acct_machine.specs.declared.state.Held.{Held}
use Rattle.acct_machine.specs.State.{State, Start, first, last_serial, is_handle}
use Rattle.acct_machine.specs.Step.{left, planned_of, acted, step, state_after, state_at}
use Rattle.acct_machine.specs.Grants.{OpensHandle, IsGrantedIn}
use Rattle.acct_machine.proofs.Cases.{acted-cases}
use Rattle.acct_machine.proofs.History.{state_after-push}

-- what holds of every handle holds of those that a change leaves
pub All-left : (P : Held → Type 0) (effect : Effect) (conn number : ℕ) (handles : List Held) → All P handles
    → All P (left effect conn number handles)
All-left P effects.Nothing conn number handles all = all
All-left P (effects.Opens opening) conn number handles all = all
All-left P (effects.Checks opening) conn number handles all = all
All-left P effects.Closes conn number handles all = All-filter (λ h. not (is_handle conn number h)) P handles all
All-left P (effects.Deletes object) conn number handles all =
    All-filter (λ h. not (same_object h.object object)) P handles all

-- one more event
granted-later : (start : Start) (history : List Entry) (e : Entry) (h : Held) → IsGrantedIn start history h
    → IsGrantedIn start (history ++ e ∷ []) h
granted-later start history e h was = record {
  before = was.before;
  call = was.call;
  bytes = was.bytes;
  after = was.after ++ e ∷ [];
  o = was.o;
  opening = was.opening;
  event = ap (λ (es : List Entry). es ++ e ∷ []) was.event ∙ append_assoc was.before
      (Called h.conn was.call Ran was.bytes ∷ was.after) (e ∷ []);
  opened = was.opened;
}

all-later : (start : Start) (history : List Entry) (e : Entry) (handles : List Held)
    → All (IsGrantedIn start history) handles → All (IsGrantedIn start (history ++ e ∷ [])) handles
all-later start history e handles was = λ k d lt. granted-later start history e (get_or handles k d) (was k d lt)

granted-called : (start : Start) (history : List Entry) (s : State) (conn : ℕ) (call : Call) (verdict : Verdict)
    (bytes : ℕ)
    → state_at start history ≡ s
    → All (IsGrantedIn start history) s.handles
    → All (IsGrantedIn start (history ++ Called conn call verdict bytes ∷ [])) (acted s conn call verdict).0.handles
granted-called start history s conn call verdict bytes is was =
    let event : Entry = Called conn call verdict bytes in
    let same : All (IsGrantedIn start (history ++ event ∷ [])) s.handles =
    all-later start history event s.handles was in
    acted-cases (λ (x : State). All (IsGrantedIn start (history ++ event ∷ [])) x.handles) s conn call verdict (record {
      same = same;
      planned =
          λ o passed. All-left (IsGrantedIn start (history ++ event ∷ [])) (planned_of o s conn call).effect conn
          call.handle.number s.handles same;
      opened = λ o opening granted ran passed effect grant.
          let h : Held =
          record {
            conn = conn;
            serial = last_serial conn s.conns + 1;
            object = opening.object;
            granted = granted;
          } in
          let opened : OpensHandle s h call o opening =
          record { passed = passed; opens = effect; object = refl; next = refl; grant = grant } in
          let new : IsGrantedIn start (history ++ event ∷ []) h = record {
            before = history;
            call = call;
            bytes = bytes;
            after = [];
            o = o;
            opening = opening;
            event = ap (λ (v : Verdict). history ++ Called conn call v bytes ∷ []) (sym ran);
            opened = subst (λ (x : State). OpensHandle x h call o opening) (sym is) opened;
          } in
          All-push (IsGrantedIn start (history ++ event ∷ []))
          (left (planned_of o s conn call).effect conn call.handle.number s.handles) h
          (All-left (IsGrantedIn start (history ++ event ∷ [])) (planned_of o s conn call).effect conn
          call.handle.number s.handles same) new;
    })

granted-step : (start : Start) (history : List Entry) (s : State) (e : Entry) → state_at start history ≡ s
    → All (IsGrantedIn start history) s.handles
    → All (IsGrantedIn start (history ++ e ∷ [])) (step s e).handles
granted-step start history s (Opened conn listener) is was =
    all-later start history (Opened conn listener) s.handles was
granted-step start history s (Called conn call verdict bytes) is was =
    granted-called start history s conn call verdict bytes is was
granted-step start history s (Gone conn) is was =
    All-filter (λ h. not (h.conn == conn)) (IsGrantedIn start (history ++ Gone conn ∷ [])) s.handles
    (all-later start history (Gone conn) s.handles was)
granted-step start history s (Hooked number) is was = all-later start history (Hooked number) s.handles was

pub granted-after : (start : Start) (before es : List Entry) (s : State) → state_at start before ≡ s
    → All (IsGrantedIn start before) s.handles
    → All (IsGrantedIn start (before ++ es)) (state_after s es).handles
granted-after start before [] s is was = rw (append-nil before) was
granted-after start before (e ∷ es) s is was =
    let next : state_at start (before ++ e ∷ []) ≡ step s e =
    state_after-push (first start) before e ∙ ap (λ (x : State). step x e) is in
    subst (λ (all : List Entry). All (IsGrantedIn start all) (state_after (step s e) es).handles)
    (append_assoc before (e ∷ []) es)
    (granted-after start (before ++ e ∷ []) es (step s e) next (granted-step start before s e is was))
