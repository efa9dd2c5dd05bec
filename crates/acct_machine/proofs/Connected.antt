-- Each event of a legal history keeps the connections numbered, and each at a listener.
use Rattle.std.proofs.Common.{◌≡◌, ℕ, ◌+◌, ◌^◌, ◌<◌, true, false, cond, ◌==◌, List, [], ◌∷◌, ◌++◌, length}
use Rattle.std.proofs.Common.{get_or, refl, sym, ◌∙◌, ap, subst, arith}
use Rattle.std.proofs.lemmas.List.Elements.{All-map, All-push}
use Rattle.acct_config.specs.declared.config.Config.{Config}
use Rattle.acct_calls.specs.declared.calls.Call.{Call}
use Rattle.acct_machine.specs.declared.entry.Verdict.{Verdict}
use Rattle.acct_machine.specs.declared.entry.Entry.{Entry}
use Rattle.acct_machine.specs.declared.entry.Entry.TheVariants.{Opened, Called, Gone, Hooked}
use Rattle.acct_machine.specs.declared.state.Conn.{Conn}
use Rattle.acct_machine.specs.State.{State, Start, first, last_serial}
use Rattle.acct_machine.specs.Step.{serial_set, new_conn, live_ended, acted, step, state_after, state_at}
use Rattle.acct_machine.specs.Legal.{May, LegalAfter}
use Rattle.acct_machine.specs.Sound.{AreConnected}
use Rattle.acct_machine.proofs.Conns.{numbered-set, numbered-ended, numbered-push, length-set, length-ended}
use Rattle.acct_machine.proofs.Conns.{length-push}
use Rattle.acct_machine.proofs.Cases.{acted-cases}
use Rattle.acct_machine.proofs.History.{state_after-push}

connected-opened : (config : Config) (s : State) (conn listener : ℕ) → AreConnected config s → conn ≡ length s.conns + 1
    → conn < 2 ^ 32
    → listener < length config.listeners → AreConnected config (step s (Opened conn listener))
connected-opened config s conn listener was is small fits = record {
  configuration = was.configuration;
  numbered = numbered-push 1 (new_conn conn listener) s.conns was.numbered (omega (arith, is));
  configured = All-push (λ (d : Conn). d.listener < length config.listeners) s.conns (new_conn conn listener)
      was.configured fits;
  few = omega (arith, is, small, length-push (new_conn conn listener) s.conns);
}

connected-called : (config : Config) (s : State) (conn : ℕ) (call : Call) (verdict : Verdict) → AreConnected config s
    → AreConnected config (acted s conn call verdict).0
connected-called config s conn call verdict was =
    let serial = last_serial conn s.conns + 1 in
    let listeners : (c : Conn) → (serial_set conn serial c).listener ≡ c.listener =
    λ c. elim (c.number == conn) as (λ b. (cond b (record c { serial = serial }) c).listener ≡ c.listener)
    [ true ↦ refl | false ↦ refl ] in
    acted-cases (AreConnected config) s conn call verdict (record {
      same = was;
      planned = λ o passed. record {
        configuration = was.configuration;
        numbered = was.numbered;
        configured = was.configured;
        few = was.few;
      };
      opened = λ o opening granted ran passed effect grant. record {
        configuration = was.configuration;
        numbered = numbered-set 1 conn serial s.conns was.numbered;
        configured = All-map (λ (d : Conn). d.listener < length config.listeners) (serial_set conn serial) s.conns
            (λ k d lt. omega (arith, listeners (get_or s.conns k d), was.configured k d lt));
        few = omega (arith, was.few, length-set conn serial s.conns);
      };
    })

connected-gone : (config : Config) (s : State) (conn : ℕ) → AreConnected config s
    → AreConnected config (step s (Gone conn))
connected-gone config s conn was =
    let listeners : (c : Conn) → (live_ended conn c).listener ≡ c.listener =
    λ c. elim (c.number == conn) as (λ b. (cond b (record c { live = false }) c).listener ≡ c.listener)
    [ true ↦ refl | false ↦ refl ] in
    record {
      configuration = was.configuration;
      numbered = numbered-ended 1 conn s.conns was.numbered;
      configured = All-map (λ (d : Conn). d.listener < length config.listeners) (live_ended conn) s.conns
          (λ k d lt. omega (arith, listeners (get_or s.conns k d), was.configured k d lt));
      few = omega (arith, was.few, length-ended conn s.conns);
    }

connected-step : (start : Start) (before : List Entry) (e : Entry) → AreConnected start.config (state_at start before)
    → May start before e
    → AreConnected start.config (step (state_at start before) e)
connected-step start before (Opened conn listener) was may =
    connected-opened start.config (state_at start before) conn listener was may.0 may.1 may.2
connected-step start before (Called conn call verdict bytes) was may =
    connected-called start.config (state_at start before) conn call verdict was
connected-step start before (Gone conn) was may = connected-gone start.config (state_at start before) conn was
connected-step start before (Hooked number) was may = record {
  configuration = was.configuration;
  numbered = was.numbered;
  configured = was.configured;
  few = was.few;
}

connected-after : (start : Start) (before es : List Entry) → LegalAfter start before es → (s : State)
    → state_at start before ≡ s → AreConnected start.config s
    → AreConnected start.config (state_after s es)
connected-after start before [] legal s is was = was
connected-after start before (e ∷ es) legal s is was =
    let now : AreConnected start.config (state_at start before) =
    subst (λ (x : State). AreConnected start.config x) (sym is) was in
    let stepped : AreConnected start.config (step s e) =
    subst (λ (x : State). AreConnected start.config (step x e)) is (connected-step start before e now legal.0) in
    connected-after start (before ++ e ∷ []) es legal.1 (step s e)
    (state_after-push (first start) before e ∙ ap (λ (x : State). step x e) is) stepped

pub are-connected : (start : Start) (history : List Entry) → LegalAfter start [] history
    → AreConnected start.config (state_at start history)
are-connected start history legal =
    connected-after start [] history legal (first start) refl
    (record {
      configuration = refl;
      numbered = tt;
      configured = λ k d lt. absurd (omega (arith, lt));
      few = omega
          arith;
    })
