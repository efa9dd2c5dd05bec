-- Each event of a legal history keeps the state sound, since the operations keep the rows sound.
use Rattle.std.proofs.Common.{◌≡◌, ◌≢◌, inl, inr, ℕ, ◌+◌, ◌≤◌, Bool, true, false, not, ◌==◌, List, [], ◌∷◌, ◌++◌}
use Rattle.std.proofs.Common.{length, map, get_or, bit_and, Option, Some, None, refl, sym, ◌∙◌, ap, subst, arith}
use Rattle.std.specs.List.{All, AllPairs}
use Rattle.std.proofs.lemmas.Bool.{cases_eq}
use Rattle.std.proofs.lemmas.Bool.Decides.{nat_tests}
use Rattle.std.proofs.lemmas.List.Elements.{All-push, All-filter, filter_passes}
use Rattle.std.proofs.lemmas.List.Kept.{AllPairs-filter}
use Rattle.std.proofs.lemmas.List.Quantifiers.{all_pairs_push}
use Rattle.acct_codes.specs.declared.kind.Kind.{Kind}
use Rattle.acct_codes.specs.Rights.{valid_rights}
use Rattle.dtyp_access.specs.declared.descriptor.Descriptor.{Descriptor}
use Rattle.dtyp_access.specs.Laws.{GrantsAreValid}
use Rattle.acct_config.specs.declared.config.Config.{Config}
use Rattle.acct_config.specs.declared.config.Listener.{Listener}
use Rattle.acct_config.specs.Spelled.{IsRightConfig}
use Rattle.acct_calls.specs.declared.calls.Call.{Call}
use Rattle.acct_layouts.specs.CallShapes.{CanBeSpelled}
use Rattle.acct_tables.specs.declared.object.Object.{Object}
use Rattle.acct_rows.specs.Laws.{OutsStaySound, RemovedOutsStaySound, PutsAreFound}
use Rattle.acct_rows.specs.Rows.{exists}
use Rattle.acct_tables.specs.Keys.{kind_of, same_object}
use Rattle.acct_rows.specs.Rows.{Lists, remove_row}
use Rattle.acct_rows.specs.Sound.{IsSoundRows}
use Rattle.acct_tables.specs.declared.row.OutRow.{OutRow}
use Rattle.acct_tables.specs.declared.row.RowKey.TheVariants as keys
use Rattle.acct_rules.specs.declared.planned.Effect.{Effect}
use Rattle.acct_rules.specs.declared.planned.Effect.TheVariants as effects
use Rattle.acct_rules.specs.declared.planned.Planned.{Planned}
use Rattle.acct_rules.specs.Profiles.{Operation}
use Rattle.acct_rules.specs.Operations.{is_deleted, Keeps}
use Rattle.acct_operations.specs.Laws.{AreRight, KeepRows}
use Rattle.acct_machine.specs.declared.entry.Verdict.{Verdict}
use Rattle.acct_machine.specs.declared.entry.Entry.{Entry}
use Rattle.acct_machine.specs.declared.entry.Entry.TheVariants.{Opened, Called, Gone, Hooked}
use Rattle.acct_machine.specs.declared.state.Conn.{Conn}
use Rattle.acct_machine.specs.declared.state.Held.{Held}
use Rattle.acct_machine.specs.State.{State, Start, first, find_conn, is_live, last_serial, is_handle, without_conn}
use Rattle.acct_machine.specs.Access.{described, listener_of, checked, grant_of}
use Rattle.acct_machine.specs.Outbox.{least_in}
use Rattle.acct_machine.specs.Step.{serial_set, left, changed, with_handle, planned_of, new_conn, acted, step}
use Rattle.acct_machine.specs.Step.{state_after, state_at}
use Rattle.acct_machine.specs.Legal.{HasPassed, May, LegalAfter, Legal}
use Rattle.acct_machine.specs.Sound.{IsHeldSoundly, AreApart, AreConnected, KeepsConnected, IsSound, KeepsSound}
use Rattle.acct_machine.proofs.Conns.{live-set, serial-set-same, serial-set-other, live-ended-other, serial-ended}
use Rattle.acct_machine.proofs.Conns.{live-push, serial-push, live-above}
use Rattle.acct_machine.proofs.Cases.{acted-cases}
use Rattle.acct_machine.proofs.History.{state_after-push, LegalAfter-push}
use Rattle.acct_machine.proofs.Handles.{keeps}

-- ---- grants

pub checked-valid : GrantsAreValid
    → (k : Kind) (descriptor : Option Descriptor) (listener : Option Listener) (desired granted : ℕ)
    → checked k descriptor listener desired ≡ Some granted → bit_and granted (valid_rights k) ≡ granted
checked-valid within k None listener desired granted is = cc
checked-valid within k (Some descriptor) None desired granted is = cc
checked-valid within k (Some descriptor) (Some listener) desired granted is =
    within k descriptor listener.token desired granted is

pub grant-valid : GrantsAreValid → (s : State) (conn : ℕ) (object : Object) (desired granted : ℕ)
    → grant_of s conn object desired ≡ Some granted
    → bit_and granted (valid_rights (kind_of object)) ≡ granted
grant-valid within s conn object desired granted is =
    checked-valid within (kind_of object) (described s object)
    (listener_of s.config (find_conn conn s.conns)) desired granted is

-- ---- changes

-- a handle stays sound where its connection stays live, its last serial doesn't fall and its object stays
held-kept : (old new : State) (h : Held) → IsHeldSoundly old h → is_live h.conn new.conns ≡ is_live h.conn old.conns
    → last_serial h.conn old.conns ≤ last_serial h.conn new.conns
    → exists new.rows h.object ≡ true → IsHeldSoundly new h
held-kept old new h sound live le there = record {
  live = live ∙ sound.live;
  from_one = sound.from_one;
  given = omega (arith, sound.given, le);
  there = there;
  valid = sound.valid;
}

passes-not : (b : Bool) → not b ≡ true → b ≡ false
passes-not true h = cc
passes-not false h = refl

-- what holds of each handle whose object isn't deleted holds of those that are left
All-left : (P Q : Held → Type 0) (effect : Effect) (conn number : ℕ) (handles : List Held) → All P handles
    → ((h : Held) → P h → is_deleted effect h.object ≡ false → Q h)
    → All Q (left effect conn number handles)
All-left P Q effects.Nothing conn number handles all each = λ k d lt. each (get_or handles k d) (all k d lt) refl
All-left P Q (effects.Opens opening) conn number handles all each =
    λ k d lt. each (get_or handles k d) (all k d lt) refl
All-left P Q (effects.Checks opening) conn number handles all each =
    λ k d lt. each (get_or handles k d) (all k d lt) refl
All-left P Q effects.Closes conn number handles all each =
    let test : Held → Bool = λ h. not (is_handle conn number h) in
    All-filter test Q handles (λ k d lt. each (get_or handles k d) (all k d lt) refl)
All-left P Q (effects.Deletes object) conn number handles all each =
    let test : Held → Bool = λ h. not (same_object h.object object) in
    λ k d lt. each (get_or (left (effects.Deletes object) conn number handles) k d)
    (All-filter test P handles all k d lt)
    (passes-not (same_object (get_or (left (effects.Deletes object) conn number handles) k d).object object)
    (filter_passes test handles k d lt))

pairs-left : (effect : Effect) (conn number : ℕ) (handles : List Held) → AllPairs AreApart handles
    → AllPairs AreApart (left effect conn number handles)
pairs-left effects.Nothing conn number handles all = all
pairs-left (effects.Opens opening) conn number handles all = all
pairs-left (effects.Checks opening) conn number handles all = all
pairs-left effects.Closes conn number handles all =
    AllPairs-filter AreApart (λ h. not (is_handle conn number h)) handles all
pairs-left (effects.Deletes object) conn number handles all =
    AllPairs-filter AreApart (λ h. not (same_object h.object object)) handles all

-- what was planned was done
sound-changed : (config : Config) (s : State) (conn : ℕ) (call : Call) (planned : Planned) → IsSound config s
    → Keeps s.rows planned
    → IsSound config (changed s conn call planned)
sound-changed config s conn call planned sound kept =
    let new : State = changed s conn call planned in
    record {
      connected = record {
        configuration = sound.connected.configuration;
        numbered = sound.connected.numbered;
        configured = sound.connected.configured;
        few = sound.connected.few;
      };
      rows = kept.sound;
      held = All-left (IsHeldSoundly s) (IsHeldSoundly new) planned.effect conn call.handle.number s.handles sound.held
          (λ h was stays. held-kept s new h was refl (omega arith) (kept.stays h.object was.there stays));
      distinct = pairs-left planned.effect conn call.handle.number s.handles sound.distinct;
    }

-- the last serial doesn't fall where a connection is given its next
serial-set-le : (k conn : ℕ) (conns : List Conn) → is_live conn conns ≡ true
    → last_serial k conns ≤ last_serial k (map (serial_set conn (last_serial conn conns + 1)) conns)
serial-set-le k conn conns live =
    let serial = last_serial conn conns + 1 in
    elim (cases_eq k conn) [
      | inl same ↦ rw same (rw (serial-set-same conn serial conns live) (omega arith))
      | inr other ↦ rw (serial-set-other k conn serial conns other) (omega arith)
    ]

-- a handle was opened
sound-opened : (config : Config) (s : State) (conn : ℕ) (object : Object) (granted : ℕ) → IsSound config s
    → is_live conn s.conns ≡ true → exists s.rows object ≡ true
    → bit_and granted (valid_rights (kind_of object)) ≡ granted
    → AreConnected config (with_handle s conn object granted) → IsSound config (with_handle s conn object granted)
sound-opened config s conn object granted sound live there valid connected =
    let serial = last_serial conn s.conns + 1 in
    let new : State = with_handle s conn object granted in
    let h : Held = record { conn = conn; serial = serial; object = object; granted = granted } in
    let last : last_serial conn new.conns ≡ serial = serial-set-same conn serial s.conns live in
    let held-old : (g : Held) → IsHeldSoundly s g → IsHeldSoundly new g =
    λ g was. held-kept s new g was (live-set g.conn conn serial s.conns) (serial-set-le g.conn conn s.conns live)
    was.there in
    let held-new : IsHeldSoundly new h = record {
      live = live-set conn conn serial s.conns ∙ live;
      from_one = omega arith;
      given = omega (arith, last);
      there = there;
      valid = valid;
    } in
    let apart : (g : Held) → IsHeldSoundly s g → g.conn ≡ conn → g.serial ≢ serial =
    λ g was same e. omega (arith, was.given, e, ap (λ k. last_serial k s.conns) same) in
    record {
      connected = connected;
      rows = sound.rows;
      held = All-push (IsHeldSoundly new) s.handles h (λ k d lt. held-old (get_or s.handles k d) (sound.held k d lt))
          held-new;
      distinct =
          all_pairs_push AreApart s.handles h sound.distinct
          (λ k d lt. apart (get_or s.handles k d) (sound.held k d lt));
    }

-- the state is sound where its connections are in order
abbrev With : Config → State → Type 0
With config s = AreConnected config s → IsSound config s

-- What the operations and the rows promise, on which the soundness of what calls leave stands.
record Promised : Type 0 where
  within : GrantsAreValid
  right : AreRight
  each : KeepRows
  stay : OutsStaySound
  taken : RemovedOutsStaySound
  found : PutsAreFound

sound-called : Promised → (config : Config) (s : State) (conn : ℕ) (call : Call) (verdict : Verdict)
    → IsRightConfig s.config
    → IsSound config s → is_live conn s.conns ≡ true → CanBeSpelled call → With config (acted s conn call verdict).0
sound-called laws config s conn call verdict configured sound live spelled =
    let kept : (o : Operation) → HasPassed o s conn call → Keeps s.rows (planned_of o s conn call) = λ o passed.
    keeps laws.stay laws.found laws.right laws.each config s conn call o configured sound spelled passed in
    acted-cases (With config) s conn call verdict (record {
      same = λ connected. sound;
      planned = λ o passed connected.
          sound-changed config s conn call (planned_of o s conn call) sound (kept o passed);
      opened = λ o opening granted ran passed effect grant connected.
          let planned : Planned = planned_of o s conn call in
          let now : Keeps s.rows planned = kept o passed in
          sound-opened config (changed s conn call planned) conn opening.object granted
          (sound-changed config s conn call planned sound now) live
          (now.opens opening effect)
          (grant-valid laws.within s conn opening.object opening.desired granted grant) connected;
    })

-- a connection was opened
sound-arrived : (config : Config) (s : State) (conn listener : ℕ) → IsSound config s → conn ≡ length s.conns + 1
    → With config (step s (Opened conn listener))
sound-arrived config s conn listener sound is connected =
    let c : Conn = new_conn conn listener in
    let new : State = step s (Opened conn listener) in
    let held : (h : Held) → IsHeldSoundly s h → IsHeldSoundly new h = λ h was.
    elim (cases_eq conn h.conn) [
      | inl same ↦ absurd (let e : true ≡ false = sym was.live ∙ live-above 1 h.conn s.conns sound.connected.numbered
          (omega (arith, is, same)) in cc)
      | inr other ↦ held-kept s new h was (live-push h.conn c s.conns other)
          (rw (serial-push h.conn c s.conns other) (omega arith)) was.there
    ] in
    record {
      connected = connected;
      rows = sound.rows;
      held = λ k d lt. held (get_or s.handles k d) (sound.held k d lt);
      distinct = sound.distinct;
    }

-- a connection is gone
sound-gone : (config : Config) (s : State) (conn : ℕ) → IsSound config s → With config (step s (Gone conn))
sound-gone config s conn sound connected =
    let new : State = step s (Gone conn) in
    let stays : (h : Held) → IsHeldSoundly s h → not (h.conn == conn) ≡ true → IsHeldSoundly new h = λ h was passes.
    let other : h.conn ≢ conn = grind (arith, nat_tests) in
    held-kept s new h was (live-ended-other h.conn conn s.conns other)
    (rw (serial-ended h.conn conn s.conns) (omega arith)) was.there in
    record {
      connected = connected;
      rows = sound.rows;
      held = λ k d lt. stays (get_or (without_conn conn s.handles) k d)
          (All-filter (λ h. not (h.conn == conn)) (IsHeldSoundly s) s.handles sound.held k d lt)
          (filter_passes (λ (h : Held). not (h.conn == conn)) s.handles k d lt);
      distinct = AllPairs-filter AreApart (λ h. not (h.conn == conn)) s.handles sound.distinct;
    }

-- an out row was taken out
removed-keeps : RemovedOutsStaySound → (r : Lists) (outs : List OutRow) (number : ℕ) → IsSoundRows r → r.outs ≡ outs
    → least_in outs ≡ Some number
    → IsSoundRows (remove_row (keys.Out number) r)
    × ((x : Object) → exists r x ≡ true → exists (remove_row (keys.Out number) r) x ≡ true)
removed-keeps taken r [] number sound are is = cc
removed-keeps taken r (o ∷ others) number sound are is =
    let same : o.number ≡ number = cc in
    let law = (taken r o others sound are).0 in
    subst (λ (n : ℕ). IsSoundRows (remove_row (keys.Out n) r)
    × ((x : Object) → exists r x ≡ true → exists (remove_row (keys.Out n) r) x ≡ true)) same
    (law.sound, λ x was. law.stays x was refl)

sound-hooked : RemovedOutsStaySound → (config : Config) (s : State) (number : ℕ) → IsSound config s
    → least_in s.rows.outs ≡ Some number → With config (step s (Hooked number))
sound-hooked taken config s number sound least connected =
    let new : State = step s (Hooked number) in
    let rows = removed-keeps taken s.rows s.rows.outs number sound.rows refl least in
    let stays : (h : Held) → IsHeldSoundly s h → IsHeldSoundly new h = λ h was.
    held-kept s new h was refl (omega arith) (rows.1 h.object was.there) in
    record {
      connected = connected;
      rows = rows.0;
      held = λ k d lt. stays (get_or s.handles k d) (sound.held k d lt);
      distinct = sound.distinct;
    }

sound-step : Promised → (start : Start) (before : List Entry) (e : Entry) → IsRightConfig start.config
    → IsSound start.config (state_at start before)
    → May start before e → With start.config (step (state_at start before) e)
sound-step laws start before (Opened conn listener) configured sound may =
    sound-arrived start.config (state_at start before) conn listener sound may.0
sound-step laws start before (Called conn call verdict bytes) configured sound may =
    let here : IsRightConfig (state_at start before).config =
    subst (λ (c : Config). IsRightConfig c) (sym sound.connected.configuration) configured in
    sound-called laws start.config (state_at start before) conn call verdict here sound may.0 may.1.1
sound-step laws start before (Gone conn) configured sound may =
    sound-gone start.config (state_at start before) conn sound
sound-step laws start before (Hooked number) configured sound may =
    sound-hooked laws.taken start.config (state_at start before) number sound may

sound-after : Promised → KeepsConnected → (start : Start) (before es : List Entry) → IsRightConfig start.config
    → Legal start before
    → LegalAfter start before es → (s : State) → state_at start before ≡ s → IsSound start.config s
    → IsSound start.config (state_after s es)
sound-after laws connected start before [] configured was legal s is sound = sound
sound-after laws connected start before (e ∷ es) configured was legal s is sound =
    let now : IsSound start.config (state_at start before) =
    subst (λ (x : State). IsSound start.config x) (sym is) sound in
    let longer : Legal start (before ++ e ∷ []) = LegalAfter-push start [] before e was legal.0 in
    let next : state_at start (before ++ e ∷ []) ≡ step (state_at start before) e =
    state_after-push (first start) before e in
    let there : AreConnected start.config (step (state_at start before) e) =
    subst (λ (x : State). AreConnected start.config x) next (connected start (before ++ e ∷ []) longer) in
    let stepped : IsSound start.config (step s e) =
    subst (λ (x : State). IsSound start.config (step x e)) is
    (sound-step laws start before e configured now legal.0 there) in
    sound-after laws connected start (before ++ e ∷ []) es configured longer legal.1 (step s e)
    (next ∙ ap (λ (x : State). step x e) is) stepped

pub are-sound : GrantsAreValid → KeepsConnected → AreRight → KeepRows → OutsStaySound → RemovedOutsStaySound
    → PutsAreFound → KeepsSound
are-sound within connected right each stay taken found start history configured rows legal =
    let laws : Promised = record {
      within = within;
      right = right;
      each = each;
      stay = stay;
      taken = taken;
      found = found;
    } in
    sound-after laws connected start [] history configured tt legal (first start) refl (record {
      connected = connected start [] tt;
      rows = rows;
      held = λ k d lt. absurd (omega (arith, lt));
      distinct = λ i j d lt lt'. absurd (omega (arith, lt, lt'));
    })
