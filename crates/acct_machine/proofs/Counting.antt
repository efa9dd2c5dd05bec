-- What a legal history has stays within the limits, and so does the number of its entries.
use Rattle.std.proofs.Common.{◌≡◌, ℕ, ◌+◌, ◌*◌, ◌≤◌, ◌<◌, Bool, true, false, cond, Some, None, List, []}
use Rattle.std.proofs.Common.{◌∷◌}
use Rattle.std.proofs.Common.{◌++◌, length, refl, sym, ◌∙◌, ap, subst, append_assoc, arith}
use Rattle.std.specs.Prelude.{nat_le, nat_lt}
use Rattle.std.proofs.lemmas.Bool.Decides.{nat_tests}
use Rattle.std.proofs.lemmas.List.{append-nil}
use Rattle.acct_config.specs.declared.config.Config.{Config}
use Rattle.acct_config.specs.Spelled.{IsRightConfig}
use Rattle.acct_machine.specs.declared.entry.Entry.{Entry}
use Rattle.acct_machine.specs.declared.entry.Entry.TheVariants.{Opened, Called, Gone, Hooked}
use Rattle.acct_machine.specs.State.{State, Start, first, is_live}
use Rattle.acct_machine.specs.Step.{new_conn, step, state_after, state_at}
use Rattle.acct_machine.specs.Legal.{opened_count, call_count, stub_bytes, hooked_count, conns_full, calls_full}
use Rattle.acct_machine.specs.Legal.{bytes_full, IsWithin, May, LegalAfter, Legal, LimitsAreKept}
use Rattle.acct_machine.specs.Shown.{live_count}
use Rattle.acct_machine.proofs.Conns.{count-push, count-ended-live, length-push, length-ended}
use Rattle.acct_machine.proofs.Lives.{same_live-acted, live_count-acted}
use Rattle.acct_machine.proofs.History.{state_after-push}

-- ---- counts with one more entry

pub opened-push : (history : List Entry) (e : Entry)
    → opened_count (history ++ e ∷ []) ≡ opened_count history + opened_count (e ∷ [])
opened-push [] e = omega arith
opened-push (Opened conn listener ∷ history) e = omega (arith, opened-push history e)
opened-push (Called conn call verdict bytes ∷ history) e = opened-push history e
opened-push (Gone conn ∷ history) e = opened-push history e
opened-push (Hooked number ∷ history) e = opened-push history e

pub calls-push : (history : List Entry) (e : Entry)
    → call_count (history ++ e ∷ []) ≡ call_count history + call_count (e ∷ [])
calls-push [] e = omega arith
calls-push (Opened conn listener ∷ history) e = calls-push history e
calls-push (Called conn call verdict bytes ∷ history) e = omega (arith, calls-push history e)
calls-push (Gone conn ∷ history) e = calls-push history e
calls-push (Hooked number ∷ history) e = calls-push history e

pub bytes-push : (history : List Entry) (e : Entry)
    → stub_bytes (history ++ e ∷ []) ≡ stub_bytes history + stub_bytes (e ∷ [])
bytes-push [] e = omega arith
bytes-push (Opened conn listener ∷ history) e = bytes-push history e
bytes-push (Called conn call verdict bytes ∷ history) e = omega (arith, bytes-push history e)
bytes-push (Gone conn ∷ history) e = bytes-push history e
bytes-push (Hooked number ∷ history) e = bytes-push history e

pub hooked-push : (history : List Entry) (e : Entry)
    → hooked_count (history ++ e ∷ []) ≡ hooked_count history + hooked_count (e ∷ [])
hooked-push [] e = omega arith
hooked-push (Opened conn listener ∷ history) e = hooked-push history e
hooked-push (Called conn call verdict bytes ∷ history) e = hooked-push history e
hooked-push (Gone conn ∷ history) e = hooked-push history e
hooked-push (Hooked number ∷ history) e = omega (arith, hooked-push history e)

-- ---- tests of the limits

not-full : (full : Bool) (n : ℕ) → cond full (Some n) None ≡ None → full ≡ false
not-full true n is = cc
not-full false n is = refl

below-of : (most n : ℕ) → nat_le most n ≡ false → n < most
below-of most n is = grind (arith, nat_tests)

within-of : (most n : ℕ) → nat_lt most n ≡ false → n ≤ most
within-of most n is = grind (arith, nat_tests)

of-below : (most n : ℕ) → n < most → nat_le most n ≡ false
of-below most n lt = grind (arith, nat_tests)

of-within : (most n : ℕ) → n ≤ most → nat_lt most n ≡ false
of-within most n le = grind (arith, nat_tests)

of-full : (most n : ℕ) → most ≤ n → nat_le most n ≡ true
of-full most n le = grind (arith, nat_tests)

of-above : (most n : ℕ) → most < n → nat_lt most n ≡ true
of-above most n lt = grind (arith, nat_tests)

by-test : (full : Bool) (n : ℕ) → full ≡ true → cond full (Some n) None ≡ Some n
by-test true n is = refl
by-test false n is = cc

by-no-test : (full : Bool) (n : ℕ) → full ≡ false → cond full (Some n) None ≡ None
by-no-test true n is = cc
by-no-test false n is = refl

conns-below : (start : Start) (history : List Entry) → conns_full start history ≡ None
    → opened_count history < start.config.limits.max_conns
conns-below start history is =
    let most = start.config.limits.max_conns in
    below-of most (opened_count history) (not-full (nat_le most (opened_count history)) (opened_count history) is)

calls-below : (start : Start) (history : List Entry) → calls_full start history ≡ None
    → call_count history < start.config.limits.max_calls
calls-below start history is =
    let most = start.config.limits.max_calls in
    below-of most (call_count history) (not-full (nat_le most (call_count history)) (call_count history) is)

bytes-within : (start : Start) (history : List Entry) (bytes : ℕ) → bytes_full start history bytes ≡ None
    → stub_bytes history + bytes ≤ start.config.limits.max_bytes
bytes-within start history bytes is =
    let most = start.config.limits.max_bytes in
    let sum = stub_bytes history + bytes in
    within-of most sum (not-full (nat_lt most sum) sum is)

pub takes-conn : (start : Start) (history : List Entry) (count : ℕ) → opened_count history ≡ count
    → count < start.config.limits.max_conns → conns_full start history ≡ None
takes-conn start history count is lt =
    by-no-test (nat_le start.config.limits.max_conns (opened_count history)) (opened_count history)
    (of-below start.config.limits.max_conns (opened_count history) (omega (arith, is, lt)))

pub no-conn : (start : Start) (history : List Entry) (count : ℕ) → opened_count history ≡ count
    → start.config.limits.max_conns ≤ count → conns_full start history ≡ Some count
no-conn start history count is le =
    by-test (nat_le start.config.limits.max_conns (opened_count history)) (opened_count history)
    (of-full start.config.limits.max_conns (opened_count history) (omega (arith, is, le)))
    ∙ ap (λ (n : ℕ). Some n) is

pub takes-calls : (start : Start) (history : List Entry) (count : ℕ) → call_count history ≡ count
    → count < start.config.limits.max_calls → calls_full start history ≡ None
takes-calls start history count is lt =
    by-no-test (nat_le start.config.limits.max_calls (call_count history)) (call_count history)
    (of-below start.config.limits.max_calls (call_count history) (omega (arith, is, lt)))

pub no-calls : (start : Start) (history : List Entry) (count : ℕ) → call_count history ≡ count
    → start.config.limits.max_calls ≤ count → calls_full start history ≡ Some count
no-calls start history count is le =
    by-test (nat_le start.config.limits.max_calls (call_count history)) (call_count history)
    (of-full start.config.limits.max_calls (call_count history) (omega (arith, is, le)))
    ∙ ap (λ (n : ℕ). Some n) is

pub takes-bytes : (start : Start) (history : List Entry) (bytes sum : ℕ) → stub_bytes history + bytes ≡ sum
    → sum ≤ start.config.limits.max_bytes → bytes_full start history bytes ≡ None
takes-bytes start history bytes sum is le =
    let all = stub_bytes history + bytes in
    by-no-test (nat_lt start.config.limits.max_bytes all) all
    (of-within start.config.limits.max_bytes all (omega (arith, is, le)))

pub no-bytes : (start : Start) (history : List Entry) (bytes sum : ℕ) → stub_bytes history + bytes ≡ sum
    → start.config.limits.max_bytes < sum → bytes_full start history bytes ≡ Some sum
no-bytes start history bytes sum is lt =
    let all = stub_bytes history + bytes in
    by-test (nat_lt start.config.limits.max_bytes all) all
    (of-above start.config.limits.max_bytes all (omega (arith, is, lt)))
    ∙ ap (λ (n : ℕ). Some n) is

-- ---- a legal history is within the limits

within-push : (start : Start) (history : List Entry) (e : Entry) → IsWithin start.config.limits history
    → May start history e → IsWithin start.config.limits (history ++ e ∷ [])
within-push start history (Opened conn listener) was may = record {
  conns = omega (arith, opened-push history (Opened conn listener), conns-below start history may.3);
  calls = omega (arith, calls-push history (Opened conn listener), was.calls);
  bytes = omega (arith, bytes-push history (Opened conn listener), was.bytes);
}
within-push start history (Called conn call verdict bytes) was may = record {
  conns = omega (arith, opened-push history (Called conn call verdict bytes), was.conns);
  calls =
      omega (arith, calls-push history (Called conn call verdict bytes), calls-below start history may.4.few);
  bytes = omega (
    arith,
    bytes-push history (Called conn call verdict bytes),
    bytes-within start history bytes may.4.short,
  );
}
within-push start history (Gone conn) was may = record {
  conns = omega (arith, opened-push history (Gone conn), was.conns);
  calls = omega (arith, calls-push history (Gone conn), was.calls);
  bytes = omega (arith, bytes-push history (Gone conn), was.bytes);
}
within-push start history (Hooked number) was may = record {
  conns = omega (arith, opened-push history (Hooked number), was.conns);
  calls = omega (arith, calls-push history (Hooked number), was.calls);
  bytes = omega (arith, bytes-push history (Hooked number), was.bytes);
}

within-after : (start : Start) (before es : List Entry) → IsWithin start.config.limits before
    → LegalAfter start before es → IsWithin start.config.limits (before ++ es)
within-after start before [] was legal =
    subst (λ (h : List Entry). IsWithin start.config.limits h) (sym (append-nil before)) was
within-after start before (e ∷ es) was legal =
    subst (λ (h : List Entry). IsWithin start.config.limits h) (append_assoc before (e ∷ []) es)
    (within-after start (before ++ e ∷ []) es (within-push start before e was legal.0) legal.1)

pub limits-are-kept : LimitsAreKept
limits-are-kept start history legal =
    within-after start [] history
    (record { conns = omega arith; calls = omega arith; bytes = omega arith }) legal

-- ---- as many connections as were opened

opened-after : (s : State) (es : List Entry) → length (state_after s es).conns ≡ length s.conns + opened_count es
opened-after s [] = omega arith
opened-after s (Opened conn listener ∷ es) =
    omega (arith, opened-after (step s (Opened conn listener)) es, length-push (new_conn conn listener) s.conns)
opened-after s (Called conn call verdict bytes ∷ es) = omega (
  arith,
  opened-after (step s (Called conn call verdict bytes)) es,
  (same_live-acted s conn call verdict).count,
)
opened-after s (Gone conn ∷ es) = omega (arith, opened-after (step s (Gone conn)) es, length-ended conn s.conns)
opened-after s (Hooked number ∷ es) = opened-after (step s (Hooked number)) es

pub opened-at : (start : Start) (history : List Entry)
    → opened_count history ≡ length (state_at start history).conns
opened-at start history = omega (arith, opened-after (first start) history)

-- ---- the entries of a legal history, with the end of each live connection, aren't more than most_entries and those
-- that take an out row out

ends-by : (start : Start) (before : List Entry) (e : Entry) (es : List Entry) → May start before e → (s : State)
    → state_at start before ≡ s
    → length es + live_count (state_after (step s e) es).conns
    ≤ call_count es + 2 * opened_count es + hooked_count es + live_count (step s e).conns
    → length (e ∷ es) + live_count (state_after s (e ∷ es)).conns
    ≤ call_count (e ∷ es) + 2 * opened_count (e ∷ es) + hooked_count (e ∷ es) + live_count s.conns
ends-by start before (Opened conn listener) es may s is rest =
    omega (arith, rest, count-push (new_conn conn listener) s.conns)
ends-by start before (Called conn call verdict bytes) es may s is rest =
    omega (arith, rest, live_count-acted s conn call verdict)
ends-by start before (Gone conn) es may s is rest =
    omega (
      arith,
      rest,
      count-ended-live conn s.conns (subst (λ (x : State). is_live conn x.conns ≡ true) is may),
    )
ends-by start before (Hooked number) es may s is rest = omega (arith, rest)

ends-after : (start : Start) (before es : List Entry) → LegalAfter start before es → (s : State)
    → state_at start before ≡ s
    → length es + live_count (state_after s es).conns
    ≤ call_count es + 2 * opened_count es + hooked_count es + live_count s.conns
ends-after start before [] legal s is = omega arith
ends-after start before (e ∷ es) legal s is =
    let next : state_at start (before ++ e ∷ []) ≡ step s e =
    state_after-push (first start) before e ∙ ap (λ (x : State). step x e) is in
    ends-by start before e es legal.0 s is (ends-after start (before ++ e ∷ []) es legal.1 (step s e) next)

-- room for one more entry where a connection is live, or where one may be opened or a call be made
pub ends-at : (start : Start) (history : List Entry) → Legal start history
    → length history + live_count (state_at start history).conns
    ≤ call_count history + 2 * opened_count history + hooked_count history
ends-at start history legal = omega (arith, ends-after start [] history legal (first start) refl)

-- ---- the ranges of the limits

pub most-conns : (config : Config) → IsRightConfig config → config.limits.max_conns ≤ 65536
most-conns config right = right.limits.conns.1
