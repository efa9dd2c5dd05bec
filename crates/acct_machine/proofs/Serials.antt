-- No serial of a connection is above the number of events.
use Rattle.std.proofs.Common.{◌≡◌, inl, inr, ℕ, ◌+◌, ◌≤◌, List, [], ◌∷◌, ◌++◌, length, map, subst, arith}
use Rattle.std.specs.List.{AllByRecursion}
use Rattle.std.proofs.lemmas.Bool.{cases_eq}
use Rattle.acct_machine.specs.declared.entry.Entry.{Entry}
use Rattle.acct_machine.specs.declared.entry.Entry.TheVariants.{Opened, Called, Gone, Hooked}
use Rattle.acct_machine.specs.declared.state.Conn.{Conn}
use Rattle.acct_machine.specs.State.{State, Start, first, last_serial}
use Rattle.acct_machine.specs.Step.{serial_set, new_conn, live_ended, step, state_after, state_at}
use Rattle.acct_machine.proofs.Conns.{set-here, set-past, ended-here, ended-past, serial-here, serial-past}
use Rattle.acct_machine.proofs.Cases.{acted-cases}

-- the serials of the connections, which no event raises by more than one
abbrev Serials : ℕ → List Conn → Type 0
Serials n conns = AllByRecursion (λ c. c.serial ≤ n) conns

last_serial-le : (conn n : ℕ) (conns : List Conn) → Serials n conns → last_serial conn conns ≤ n
last_serial-le conn n [] h = omega arith
last_serial-le conn n (c ∷ conns) h = elim (cases_eq c.number conn) [
  | inl same ↦ rw (serial-here conn c conns same) h.0
  | inr other ↦ rw (serial-past conn c conns other) (last_serial-le conn n conns h.1)
]

weaker : (n : ℕ) (conns : List Conn) → Serials n conns → Serials (n + 1) conns
weaker n [] h = tt
weaker n (c ∷ conns) h = (omega (arith, h.0), weaker n conns h.1)

Serials-set : (conn serial n : ℕ) (conns : List Conn) → Serials n conns → serial ≤ n + 1
    → Serials (n + 1) (map (serial_set conn serial) conns)
Serials-set conn serial n [] h le = tt
Serials-set conn serial n (c ∷ conns) h le = elim (cases_eq c.number conn) [
  | inl same ↦ rw (set-here conn serial c same) (le, Serials-set conn serial n conns h.1 le)
  | inr other ↦ rw (set-past conn serial c other) (omega (arith, h.0), Serials-set conn serial n conns h.1 le)
]

Serials-ended : (conn n : ℕ) (conns : List Conn) → Serials n conns → Serials (n + 1) (map (live_ended conn) conns)
Serials-ended conn n [] h = tt
Serials-ended conn n (c ∷ conns) h = elim (cases_eq c.number conn) [
  | inl same ↦ rw (ended-here conn c same) (omega (arith, h.0), Serials-ended conn n conns h.1)
  | inr other ↦ rw (ended-past conn c other) (omega (arith, h.0), Serials-ended conn n conns h.1)
]

Serials-push : (n : ℕ) (conns : List Conn) (c : Conn) → Serials n conns → c.serial ≤ n
    → Serials (n + 1) (conns ++ c ∷ [])
Serials-push n [] c h le = (omega (arith, le), tt)
Serials-push n (a ∷ conns) c h le = (omega (arith, h.0), Serials-push n conns c h.1 le)

Serials-step : (s : State) (e : Entry) (n : ℕ) → Serials n s.conns → Serials (n + 1) (step s e).conns
Serials-step s (Opened conn listener) n h = Serials-push n s.conns (new_conn conn listener) h (omega arith)
Serials-step s (Called conn call verdict bytes) n h =
    acted-cases (λ (x : State). Serials (n + 1) x.conns) s conn call verdict (record {
      same = weaker n s.conns h;
      planned = λ o passed. weaker n s.conns h;
      opened = λ o opening granted ran passed effect grant.
          Serials-set conn (last_serial conn s.conns + 1) n s.conns h (omega (arith, last_serial-le conn n s.conns h));
    })
Serials-step s (Gone conn) n h = Serials-ended conn n s.conns h
Serials-step s (Hooked number) n h = weaker n s.conns h

Serials-after : (s : State) (es : List Entry) (n : ℕ) → Serials n s.conns
    → Serials (n + length es) (state_after s es).conns
Serials-after s [] n h = let same : n + 0 ≡ n = omega arith in subst (λ (m : ℕ). Serials m s.conns) (omega arith) h
Serials-after s (e ∷ es) n h =
    let same : n + 1 + length es ≡ n + length (e ∷ es) = omega arith in
    subst (λ (m : ℕ). Serials m (state_after (step s e) es).conns) same
    (Serials-after (step s e) es (n + 1) (Serials-step s e n h))

pub serial-at : (start : Start) (history : List Entry) (conn : ℕ)
    → last_serial conn (state_at start history).conns ≤ length history
serial-at start history conn =
    let same : 0 + length history ≡ length history = omega arith in
    last_serial-le conn (length history) (state_at start history).conns
    (subst (λ (m : ℕ). Serials m (state_at start history).conns) same (Serials-after (first start) history 0 tt))
