-- What the parts of a machine keep, with one more event.
use Rattle.std.proofs.Common.{◌≡◌, ℕ, ◌+◌, ◌≤◌, ◌<◌, ◌^◌, true, None, List, [], ◌∷◌, ◌++◌, length, refl, sym, ◌∙◌, ap}
use Rattle.std.proofs.Common.{subst}
use Rattle.std.proofs.Common.{arith}
use Rattle.std.proofs.lemmas.List.{append-nil}
use Rattle.acct_config.specs.declared.config.Config.{Config}
use Rattle.acct_config.specs.Spelled.{IsRightConfig}
use Rattle.acct_rows.specs.Rows.{Lists}
use Rattle.acct_rows.specs.Sound.{IsSoundRows}
use Rattle.acct_calls.specs.declared.calls.Call.{Call}
use Rattle.acct_machine.specs.declared.entry.Verdict.{Verdict}
use Rattle.acct_machine.specs.declared.entry.Entry.{Entry}
use Rattle.acct_machine.specs.declared.entry.Entry.TheVariants.{Opened, Called, Gone, Hooked}
use Rattle.acct_machine.specs.State.{State, Start, first, is_live}
use Rattle.acct_machine.specs.Step.{new_conn, acted, step, state_at}
use Rattle.acct_machine.specs.Access.{IsCall}
use Rattle.acct_machine.specs.Legal.{opened_count, call_count, stub_bytes, hooked_count, most_entries, conns_full}
use Rattle.acct_machine.specs.Legal.{TakesCall, MayHave, Rises, May, Legal, calls_of, replies}
use Rattle.acct_machine.specs.Sound.{AreConnected, KeepsConnected}
use Rattle.acct_machine.specs.Shown.{Past, IsKept, begins, live_count}
use Rattle.acct_machine.specs.Machine.{state_of, with_entry, SameLive, OneMoreLive, OneLessLive, SameCalls, OneMoreCall}
use Rattle.acct_machine.proofs.Conns.{live-ended-same, live-ended-other, length-ended, live-push, length-push}
use Rattle.acct_machine.proofs.Conns.{live-above, live-new, count-ended-live}
use Rattle.acct_machine.proofs.Counting.{calls-push, bytes-push, hooked-push, opened-at, ends-at, limits-are-kept}
use Rattle.acct_machine.proofs.Counting.{takes-calls, takes-bytes}
use Rattle.acct_machine.proofs.Cases.{acted-cases}
use Rattle.acct_machine.proofs.Lives.{same_live-acted}
use Rattle.acct_machine.proofs.History.{state_after-push, LegalAfter-push, calls_of-append, replies-append}

-- the parts after one more event, with its call and its bytes counted
pub IsKept-push : (start : Start) (history : List Entry) (s : State) (calls bytes capacity : ℕ) (e : Entry) (s' : State)
    (calls' bytes' capacity' : ℕ)
    → IsKept start history s calls bytes capacity → May start history e → step s e ≡ s'
    → calls + call_count (e ∷ []) ≡ calls' → bytes + stub_bytes (e ∷ []) ≡ bytes'
    → capacity + hooked_count (e ∷ []) ≤ capacity'
    → IsKept start (history ++ e ∷ []) s' calls' bytes' capacity'
IsKept-push start history s calls bytes capacity e s' calls' bytes' capacity' kept may is more longer grows = record {
  right = kept.right;
  rows = kept.rows;
  legal = LegalAfter-push start [] history e kept.legal may;
  state = state_after-push (first start) history e ∙ ap (λ (x : State). step x e) kept.state ∙ is;
  calls_are = omega (arith, calls-push history e, kept.calls_are, more);
  bytes_are = omega (arith, bytes-push history e, kept.bytes_are, longer);
  room = omega (arith, hooked-push history e, kept.room, grows);
}

-- the live connections after one more event of a history
pub same_live-push : (start : Start) (history : List Entry) (conn : ℕ) (call : Call) (verdict : Verdict) (bytes : ℕ)
    → SameLive (state_at start history) (state_at start (history ++ Called conn call verdict bytes ∷ []))
same_live-push start history conn call verdict bytes =
    rw (state_after-push (first start) history (Called conn call verdict bytes))
    (same_live-acted (state_at start history) conn call verdict)

pub one_less-push : (start : Start) (history : List Entry) (conn : ℕ)
    → OneLessLive (state_at start history) (state_at start (history ++ Gone conn ∷ [])) conn
one_less-push start history conn =
    let s : State = state_at start history in
    rw (state_after-push (first start) history (Gone conn)) (record {
      ended = live-ended-same conn s.conns;
      others = λ k ne. live-ended-other k conn s.conns ne;
      count = length-ended conn s.conns;
    })

pub one_more-push : KeepsConnected → (start : Start) (history : List Entry) (conn listener : ℕ) → Legal start history
    → conn ≡ length (state_at start history).conns + 1
    → OneMoreLive (state_at start history) (state_at start (history ++ Opened conn listener ∷ [])) conn
one_more-push sounds start history conn listener legal is =
    let s : State = state_at start history in
    let sound : AreConnected start.config s = sounds start history legal in
    rw (state_after-push (first start) history (Opened conn listener)) (record {
      live = live-new 1 conn listener s.conns sound.numbered (omega (arith, is));
      fresh = live-above 1 conn s.conns sound.numbered (omega (arith, is));
      others = λ k ne. live-push k (new_conn conn listener) s.conns (λ e. ne (sym e));
      count = length-push (new_conn conn listener) s.conns;
    })

-- the calls and replies after one more event of a history
pub same_calls-opened : (start : Start) (history : List Entry) (conn listener : ℕ)
    → SameCalls (record { start = start; history = history })
    (record { start = start; history = history ++ Opened conn listener ∷ [] })
same_calls-opened start history conn listener = record {
  calls = λ k. calls_of-append k history (Opened conn listener ∷ []) ∙ append-nil (calls_of k history);
  replies = λ k. replies-append (first start) k history (Opened conn listener ∷ []) ∙ append-nil
      (replies start k history);
}

pub same_calls-gone : (start : Start) (history : List Entry) (conn : ℕ)
    → SameCalls (record { start = start; history = history })
    (record { start = start; history = history ++ Gone conn ∷ [] })
same_calls-gone start history conn = record {
  calls = λ k. calls_of-append k history (Gone conn ∷ []) ∙ append-nil (calls_of k history);
  replies = λ k. replies-append (first start) k history (Gone conn ∷ []) ∙ append-nil (replies start k history);
}

pub one_more_call : (start : Start) (history : List Entry) (conn : ℕ) (call : Call) (verdict : Verdict) (bytes : ℕ)
    → OneMoreCall (record { start = start; history = history })
    (record { start = start; history = history ++ Called conn call verdict bytes ∷ [] }) conn call bytes
    (acted (state_at start history) conn call verdict).1
one_more_call start history conn call verdict bytes = record {
  calls = λ k. calls_of-append k history (Called conn call verdict bytes ∷ []);
  replies = λ k. replies-append (first start) k history (Called conn call verdict bytes ∷ []);
}

-- the condition of an opening, on the parts
pub may-opened : (start : Start) (history : List Entry) (s : State) (conn listener : ℕ) → state_at start history ≡ s
    → conn ≡ length s.conns + 1 → conn < 2 ^ 32
    → listener < length start.config.listeners → conns_full start history ≡ None
    → May start history (Opened conn listener)
may-opened start history s conn listener is count small fits taken =
    (omega (arith, count, ap (λ (x : State). length x.conns) is), small, fits, taken)

-- the condition of a call, on the parts
pub may-called : (start : Start) (history : List Entry) (s : State) (conn : ℕ) (call : Call) (verdict : Verdict)
    (bytes : ℕ)
    → state_at start history ≡ s → is_live conn s.conns ≡ true → IsCall call → bytes < 2 ^ 32
    → MayHave s conn call verdict → TakesCall start history bytes → Rises start history verdict
    → May start history (Called conn call verdict bytes)
may-called start history s conn call verdict bytes is live spelled small may taken rises = (
  subst (λ (x : State). is_live conn x.conns ≡ true) (sym is) live,
  spelled,
  small,
  subst (λ (x : State). MayHave x conn call verdict) (sym is) may,
  taken,
  rises,
)

-- ---- what a machine shows, by its parts

abbrev pub shown : State → Lists → ℕ → List Entry → Past
shown s rows since history = record { start = begins s rows since; history = history }

config-acted : (s : State) (conn : ℕ) (call : Call) (verdict : Verdict)
    → (acted s conn call verdict).0.config ≡ s.config
config-acted s conn call verdict = acted-cases (λ (x : State). x.config ≡ s.config) s conn call verdict (record {
  same = refl;
  planned = λ o passed. refl;
  opened = λ o opening granted ran passed effect grant. refl;
})

config-step : (s : State) (e : Entry) → (step s e).config ≡ s.config
config-step s (Opened conn listener) = refl
config-step s (Called conn call verdict bytes) = config-acted s conn call verdict
config-step s (Gone conn) = refl
config-step s (Hooked number) = refl

pub begins-same : (s s' : State) (rows : Lists) (since : ℕ) (e : Entry) → s' ≡ step s e
    → begins s rows since ≡ begins s' rows since
begins-same s s' rows since e is =
    ap (λ (x : Config). let y : Start = record { config = x; rows = rows; faults = since } in y)
    (sym (config-step s e) ∙ ap (λ (x : State). x.config) (sym is))

-- nothing has happened
pub kept-new : (s : State) (config : Config) (rows lists : Lists) (history : List Entry) (since capacity : ℕ)
    → s ≡ record { config = config; rows = rows; conns = []; handles = [] } → lists ≡ rows → history ≡ []
    → IsRightConfig config → IsSoundRows rows → most_entries config.limits ≤ capacity
    → IsKept (begins s lists since) history s 0 0 capacity
kept-new s config rows lists history since capacity is same none right sound fits =
    subst (λ (h : List Entry). IsKept (begins s lists since) h s 0 0 capacity) (sym none)
    (subst (λ (l : Lists). IsKept (begins s l since) [] s 0 0 capacity) (sym same)
    (subst (λ (x : State). IsKept (begins x rows since) [] x 0 0 capacity) (sym is) (record {
      right = right;
      rows = sound;
      legal = tt;
      state = refl;
      calls_are = refl;
      bytes_are = refl;
      room = omega (arith, fits);
    })))

-- with one more entry
pub shown-more : (old : Past) (s s' : State) (rows : Lists) (since : ℕ) (history more : List Entry) (e : Entry)
    → shown s rows since history ≡ old → s' ≡ step s e → more ≡ history ++ e ∷ []
    → with_entry old e ≡ shown s' rows since more
shown-more old s s' rows since history more e view is longer =
    subst (λ (m : Past). with_entry m e ≡ shown s' rows since more) view
    (ap (λ (x : Start). let y : Past = record { start = x; history = history ++ e ∷ [] } in y)
    (begins-same s s' rows since e is)
    ∙ ap (λ (x : List Entry). shown s' rows since x) (sym longer))

pub kept-more : (s s' : State) (rows : Lists) (since : ℕ) (history more : List Entry)
    (calls bytes capacity calls' bytes' capacity' : ℕ) (e : Entry)
    → IsKept (begins s rows since) history s calls bytes capacity
    → May (begins s rows since) history e → s' ≡ step s e → more ≡ history ++ e ∷ []
    → calls + call_count (e ∷ []) ≡ calls' → bytes + stub_bytes (e ∷ []) ≡ bytes'
    → capacity + hooked_count (e ∷ []) ≤ capacity'
    → IsKept (begins s' rows since) more s' calls' bytes' capacity'
kept-more s s' rows since history more calls bytes capacity calls' bytes' capacity' e kept may is longer counts adds
    grows =
    rw longer (subst (λ (x : Start). IsKept x (history ++ e ∷ []) s' calls' bytes' capacity')
    (begins-same s s' rows since e is)
    (IsKept-push (begins s rows since) history s calls bytes capacity e s' calls' bytes' capacity' kept may (sym is)
    counts
    adds grows))

-- the state that a machine shows
pub state-shown : (old : Past) (s : State) (rows : Lists) (since : ℕ) (history : List Entry) (calls bytes capacity : ℕ)
    → shown s rows since history ≡ old → IsKept (begins s rows since) history s calls bytes capacity → state_of old ≡ s
state-shown old s rows since history calls bytes capacity view kept =
    subst (λ (m : Past). state_of m ≡ s) view kept.state

-- how many connections were opened, by the parts
pub opened-kept : (start : Start) (history : List Entry) (s : State) (calls bytes capacity : ℕ)
    → IsKept start history s calls bytes capacity → opened_count history ≡ length s.conns
opened-kept start history s calls bytes capacity kept =
    opened-at start history ∙ ap (λ (x : State). length x.conns) kept.state

-- the history takes a further call, by the counts
pub takes-call : (start : Start) (history : List Entry) (s : State) (calls bytes capacity more : ℕ)
    → IsKept start history s calls bytes capacity → calls < start.config.limits.max_calls
    → bytes + more ≤ start.config.limits.max_bytes → TakesCall start history more
takes-call start history s calls bytes capacity more kept few short = record {
  few = takes-calls start history calls kept.calls_are few;
  short = takes-bytes start history more (bytes + more) (omega (arith, kept.bytes_are)) short;
}

-- room for a further entry, where a connection is opened, a call is made or a connection goes
pub room-to-open : (start : Start) (history : List Entry) (s : State) (calls bytes capacity : ℕ)
    → IsKept start history s calls bytes capacity → length s.conns < start.config.limits.max_conns
    → length history < capacity
room-to-open start history s calls bytes capacity kept lt = omega (
  arith,
  ends-at start history kept.legal,
  opened-kept start history s calls bytes capacity kept,
  (limits-are-kept start history kept.legal).calls,
  kept.room,
  lt,
)

pub room-to-call : (start : Start) (history : List Entry) (s : State) (calls bytes capacity : ℕ)
    → IsKept start history s calls bytes capacity → calls < start.config.limits.max_calls
    → length history < capacity
room-to-call start history s calls bytes capacity kept lt = omega (
  arith,
  ends-at start history kept.legal,
  kept.calls_are,
  (limits-are-kept start history kept.legal).conns,
  kept.room,
  lt,
)

pub room-to-end : (start : Start) (history : List Entry) (s : State) (calls bytes capacity conn : ℕ)
    → IsKept start history s calls bytes capacity → is_live conn s.conns ≡ true → length history < capacity
room-to-end start history s calls bytes capacity conn kept live =
    let lives : live_count (state_at start history).conns ≡ live_count s.conns =
    ap (λ (x : State). live_count x.conns) kept.state in
    omega (
      arith,
      ends-at start history kept.legal,
      lives,
      count-ended-live conn s.conns live,
      (limits-are-kept start history kept.legal).conns,
      (limits-are-kept start history kept.legal).calls,
      kept.room,
    )
