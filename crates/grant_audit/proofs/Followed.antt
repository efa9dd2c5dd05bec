-- The second machine follows a legal history: its state is that of the history, and it takes what comes next.
use Rattle.std.proofs.Common.{◌≡◌, ℕ, zero, suc, ◌+◌, ◌-◌, ◌<◌, ◌≤◌, Bool, true, false, cond, List, [], ◌∷◌, ◌++◌, length}
use Rattle.std.proofs.Common.{Option, Some, None, slice_get, refl, sym, ◌∙◌, ap, subst, arith}
use Rattle.std.specs.List.{filter}
use Rattle.std.specs.Prelude.{nat_le, nat_lt, ⊤}
use Rattle.std.proofs.lemmas.Bool.Decides.{nat_tests}
use Rattle.acct_config.specs.declared.config.Config.{Config}
use Rattle.acct_config.specs.declared.limits.Limits.{Limits}
use Rattle.acct_calls.specs.declared.calls.Call.{Call}
use Rattle.acct_rows.specs.Rows.{Lists}
use Rattle.acct_rules.specs.Profiles.{Operation}
use Rattle.acct_machine.specs.declared.entry.Verdict.{Verdict}
use Rattle.acct_machine.specs.declared.entry.Verdict.TheVariants.{Ran, StoreFault, NoMemory}
use Rattle.acct_machine.specs.declared.entry.Entry.{Entry}
use Rattle.acct_machine.specs.declared.entry.Entry.TheVariants.{Opened, Called, Gone, Hooked}
use Rattle.acct_machine.specs.State.{State, Start, first, is_live}
use Rattle.acct_machine.specs.Access.{operation_of}
use Rattle.acct_machine.specs.Legal.{opened_count, call_count, stub_bytes, hooked_count, conns_full, TakesCall, May}
use Rattle.acct_machine.specs.Step.{by_operation, step, state_after, state_at}
use Rattle.acct_machine.specs.Outbox.{has_hook, least_out}
use Rattle.acct_machine.specs.Machine.{state_of}
use Rattle.acct_machine.specs.Shown.{Past}
use Rattle.grant_audit.specs.Following.{has_effect, is_hooked, has_run, MayFollow}
use Rattle.grant_audit.specs.Traced.{HooksAreTold}

-- ---- the state

quiet-by : (o : Option Operation) (s : State) (conn : ℕ) (call : Call) (n : ℕ)
    → (by_operation o s conn call (StoreFault n)).0 ≡ s
quiet-by None s conn call n = refl
quiet-by (Some o) s conn call n = refl

wanting-by : (o : Option Operation) (s : State) (conn : ℕ) (call : Call)
    → (by_operation o s conn call NoMemory).0 ≡ s
wanting-by None s conn call = refl
wanting-by (Some o) s conn call = refl

-- what had no effect changed nothing
pub state-followed : (s : State) (es : List Entry) → state_after s (filter has_effect es) ≡ state_after s es
state-followed s [] = refl
state-followed s (Opened conn listener ∷ es) = state-followed (step s (Opened conn listener)) es
state-followed s (Called conn call Ran bytes ∷ es) = state-followed (step s (Called conn call Ran bytes)) es
state-followed s (Called conn call (StoreFault n) bytes ∷ es) =
    state-followed s es ∙ ap (λ (x : State). state_after x es) (sym (quiet-by (operation_of call) s conn call n))
state-followed s (Called conn call NoMemory bytes ∷ es) =
    state-followed s es ∙ ap (λ (x : State). state_after x es) (sym (wanting-by (operation_of call) s conn call))
state-followed s (Gone conn ∷ es) = state-followed (step s (Gone conn)) es
state-followed s (Hooked number ∷ es) = state-followed (step s (Hooked number)) es

-- ---- the counts

pub opened-followed : (es : List Entry) → opened_count (filter has_effect es) ≡ opened_count es
opened-followed [] = refl
opened-followed (Opened conn listener ∷ es) = omega (arith, opened-followed es)
opened-followed (Called conn call Ran bytes ∷ es) = opened-followed es
opened-followed (Called conn call (StoreFault n) bytes ∷ es) = opened-followed es
opened-followed (Called conn call NoMemory bytes ∷ es) = opened-followed es
opened-followed (Gone conn ∷ es) = opened-followed es
opened-followed (Hooked number ∷ es) = opened-followed es

calls-followed : (es : List Entry) → call_count (filter has_effect es) ≤ call_count es
calls-followed [] = omega arith
calls-followed (Opened conn listener ∷ es) = calls-followed es
calls-followed (Called conn call Ran bytes ∷ es) = omega (arith, calls-followed es)
calls-followed (Called conn call (StoreFault n) bytes ∷ es) = omega (arith, calls-followed es)
calls-followed (Called conn call NoMemory bytes ∷ es) = omega (arith, calls-followed es)
calls-followed (Gone conn ∷ es) = calls-followed es
calls-followed (Hooked number ∷ es) = calls-followed es

bytes-followed : (es : List Entry) → stub_bytes (filter has_effect es) ≤ stub_bytes es
bytes-followed [] = omega arith
bytes-followed (Opened conn listener ∷ es) = bytes-followed es
bytes-followed (Called conn call Ran bytes ∷ es) = omega (arith, bytes-followed es)
bytes-followed (Called conn call (StoreFault n) bytes ∷ es) = omega (arith, bytes-followed es)
bytes-followed (Called conn call NoMemory bytes ∷ es) = omega (arith, bytes-followed es)
bytes-followed (Gone conn ∷ es) = bytes-followed es
bytes-followed (Hooked number ∷ es) = bytes-followed es

-- the changes that were taken from the outbox are those of its events
pub hooked-counted : (es : List Entry) → length (filter is_hooked es) ≡ hooked_count es
hooked-counted [] = refl
hooked-counted (Opened conn listener ∷ es) = hooked-counted es
hooked-counted (Called conn call verdict bytes ∷ es) = hooked-counted es
hooked-counted (Gone conn ∷ es) = hooked-counted es
hooked-counted (Hooked number ∷ es) = omega (arith, hooked-counted es)

-- what isn't full with more isn't with less
full-test : (full : Bool) (n : ℕ) → cond full (Some n) None ≡ None → full ≡ false
full-test true n is = cc
full-test false n is = refl

test-full : (full : Bool) (n : ℕ) → full ≡ false → cond full (Some n) None ≡ None
test-full true n is = cc
test-full false n is = refl

less-below : (most a b : ℕ) → a ≤ b → nat_le most b ≡ false → nat_le most a ≡ false
less-below most a b le is = grind (arith, nat_tests)

less-within : (most a b : ℕ) → a ≤ b → nat_lt most b ≡ false → nat_lt most a ≡ false
less-within most a b le is = grind (arith, nat_tests)

takes-followed : (start begun : Start) (before : List Entry) (bytes : ℕ) → begun.config ≡ start.config
    → TakesCall start before bytes → TakesCall begun (filter has_effect before) bytes
takes-followed start begun before bytes same takes =
    let limits : begun.config.limits ≡ start.config.limits = ap (λ (c : Config). c.limits) same in
    let few : nat_le begun.config.limits.max_calls (call_count (filter has_effect before)) ≡ false =
    subst (λ (l : Limits). nat_le l.max_calls (call_count (filter has_effect before)) ≡ false) (sym limits)
    (less-below start.config.limits.max_calls (call_count (filter has_effect before)) (call_count before)
    (calls-followed before)
    (full-test (nat_le start.config.limits.max_calls (call_count before)) (call_count before) takes.few)) in
    let short : nat_lt begun.config.limits.max_bytes (stub_bytes (filter has_effect before) + bytes) ≡ false =
    subst (λ (l : Limits). nat_lt l.max_bytes (stub_bytes (filter has_effect before) + bytes) ≡ false) (sym limits)
    (less-within start.config.limits.max_bytes (stub_bytes (filter has_effect before) + bytes)
    (stub_bytes before + bytes) (omega (arith, bytes-followed before))
    (full-test (nat_lt start.config.limits.max_bytes (stub_bytes before + bytes)) (stub_bytes before + bytes)
    takes.short)) in
    record {
      few = test-full (nat_le begun.config.limits.max_calls (call_count (filter has_effect before)))
          (call_count (filter has_effect before)) few;
      short = test-full (nat_lt begun.config.limits.max_bytes (stub_bytes (filter has_effect before) + bytes))
          (stub_bytes (filter has_effect before) + bytes) short;
    }

conns-followed : (start begun : Start) (before : List Entry) → begun.config ≡ start.config
    → conns_full start before ≡ None → conns_full begun (filter has_effect before) ≡ None
conns-followed start begun before same room =
    let limits : begun.config.limits ≡ start.config.limits = ap (λ (c : Config). c.limits) same in
    subst (λ (l : Limits). cond (nat_le l.max_conns (opened_count (filter has_effect before)))
    (Some (opened_count (filter has_effect before))) None ≡ None) (sym limits)
    (subst (λ (n : ℕ). cond (nat_le start.config.limits.max_conns n) (Some n) None ≡ None)
    (sym (opened-followed before)) room)

-- ---- what may come next

abbrev IsNoHook : Entry → Type 0
IsNoHook (Opened conn listener) = ⊤
IsNoHook (Called conn call verdict bytes) = ⊤
IsNoHook (Gone conn) = ⊤
IsNoHook (Hooked number) = ⊥

-- where there is none in a history, no event is one
no-hook-at : (es : List Entry) (i : ℕ) (e : Entry) → hooked_count es ≡ 0 → slice_get es i ≡ Some e → IsNoHook e
no-hook-at [] i e none is = absurd cc
no-hook-at (Opened conn listener ∷ es) zero e none is =
    let same : Opened conn listener ≡ e = cc in subst IsNoHook same tt
no-hook-at (Called conn call verdict bytes ∷ es) zero e none is =
    let same : Called conn call verdict bytes ≡ e = cc in subst IsNoHook same tt
no-hook-at (Gone conn ∷ es) zero e none is = let same : Gone conn ≡ e = cc in subst IsNoHook same tt
no-hook-at (Hooked number ∷ es) i e none is = absurd (omega (arith, none))
no-hook-at (Opened conn listener ∷ es) (suc i) e none is = no-hook-at es i e none is
no-hook-at (Called conn call verdict bytes ∷ es) (suc i) e none is = no-hook-at es i e none is
no-hook-at (Gone conn ∷ es) (suc i) e none is = no-hook-at es i e none is

-- a row leaves the outbox only where a program is told
abbrev pub IsTold : Config → Entry → Type 0
IsTold config (Opened conn listener) = ⊤
IsTold config (Called conn call verdict bytes) = ⊤
IsTold config (Gone conn) = ⊤
IsTold config (Hooked number) = has_hook config ≡ true

is-told : (config : Config) (e : Entry) → has_hook config ≡ true → IsTold config e
is-told config (Opened conn listener) told = tt
is-told config (Called conn call verdict bytes) told = tt
is-told config (Gone conn) told = tt
is-told config (Hooked number) told = told

none-told : (config : Config) (e : Entry) → IsNoHook e → IsTold config e
none-told config (Opened conn listener) none = tt
none-told config (Called conn call verdict bytes) none = tt
none-told config (Gone conn) none = tt
none-told config (Hooked number) none = absurd none

told-by : (told : Bool) (config : Config) (es : List Entry) (i : ℕ) (e : Entry) → has_hook config ≡ told
    → HooksAreTold config es → slice_get es i ≡ Some e → IsTold config e
told-by true config es i e is hooks at = is-told config e is
told-by false config es i e is hooks at = none-told config e (no-hook-at es i e (hooks is) at)

pub told-at : (config : Config) (es : List Entry) (i : ℕ) (e : Entry) → HooksAreTold config es
    → slice_get es i ≡ Some e → IsTold config e
told-at config es i e hooks at = told-by (has_hook config) config es i e refl hooks at

-- and so it is of the events after the first
pub told-rest : (config : Config) (e : Entry) (es : List Entry) → HooksAreTold config (e ∷ es) → HooksAreTold config es
told-rest config (Opened conn listener) es hooks = hooks
told-rest config (Called conn call verdict bytes) es hooks = hooks
told-rest config (Gone conn) es hooks = hooks
told-rest config (Hooked number) es hooks = λ is. let none = hooks is in absurd (omega (arith, none))

-- the machine's state is that of the history
pub state-is : (start : Start) (before : List Entry) (past : Past) → first past.start ≡ first start
    → past.history ≡ filter has_effect before → state_of past ≡ state_at start before
state-is start before past begins history =
    ap (λ (s : State). state_after s past.history) begins
    ∙ ap (λ (es : List Entry). state_after (first start) es) history
    ∙ state-followed (first start) before

begins-same : (past : Past) (start : Start) → past.start.config ≡ start.config → past.start.rows ≡ start.rows
    → first past.start ≡ first start
begins-same past start config rows =
    ap (λ (c : Config). let s : State = record { config = c; rows = past.start.rows; conns = []; handles = [] } in s)
    config
    ∙ ap (λ (r : Lists). let s : State = record { config = start.config; rows = r; conns = []; handles = [] } in s)
    rows

pub may-follow : (start : Start) (before : List Entry) (e : Entry) (past : Past) → past.start.config ≡ start.config
    → past.start.rows ≡ start.rows → past.history ≡ filter has_effect before → May start before e → IsTold start.config e
    → MayFollow past e
may-follow start before (Opened conn listener) past config rows history may ok =
    let begins : first past.start ≡ first start = begins-same past start config rows in
    let state : state_of past ≡ state_at start before = state-is start before past begins history in (
      subst (λ (c : Config). listener < length c.listeners) (sym config) may.2,
      rw history (conns-followed start past.start before config may.3),
      omega (arith, may.0, ap (λ (s : State). length s.conns) state),
    )
may-follow start before (Called conn call verdict bytes) past config rows history may ok =
    let begins : first past.start ≡ first start = begins-same past start config rows in
    let state : state_of past ≡ state_at start before = state-is start before past begins history in (
      subst (λ (s : State). is_live conn s.conns ≡ true) (sym state) may.0,
      may.1,
      rw history (takes-followed start past.start before bytes config may.4),
    )
may-follow start before (Gone conn) past config rows history may ok =
    let begins : first past.start ≡ first start = begins-same past start config rows in
    let state : state_of past ≡ state_at start before = state-is start before past begins history in
    subst (λ (s : State). is_live conn s.conns ≡ true) (sym state) may
may-follow start before (Hooked number) past config rows history may ok =
    let begins : first past.start ≡ first start = begins-same past start config rows in
    let state : state_of past ≡ state_at start before = state-is start before past begins history in (
      subst (λ (c : Config). has_hook c ≡ true) (sym config) ok,
      subst (λ (s : State). least_out s.rows ≡ Some number) (sym state) may,
    )

-- ---- the last event

last-at : (es : List Entry) (e : Entry) (n : ℕ) → n ≡ length es → slice_get (es ++ e ∷ []) n ≡ Some e
last-at [] e zero is = refl
last-at [] e (suc n) is = absurd (omega (arith, is))
last-at (x ∷ es) e zero is = absurd (omega (arith, is))
last-at (x ∷ es) e (suc n) is = last-at es e n (omega (arith, is))

ran-verdict : (conn : ℕ) (call : Call) (verdict : Verdict) (bytes : ℕ)
    → has_run (Some (Called conn call verdict bytes)) ≡ true → verdict ≡ Ran
ran-verdict conn call Ran bytes is = refl
ran-verdict conn call (StoreFault n) bytes is = cc
ran-verdict conn call NoMemory bytes is = cc

length-more : (es : List Entry) (e : Entry) → length (es ++ e ∷ []) - 1 ≡ length es
length-more [] e = refl
length-more (x ∷ []) e = refl
length-more (x ∷ y ∷ es) e = let rest = length-more (y ∷ es) e in omega (arith, rest)

-- a call was entered last, and it ran
pub last-ran : (history all : List Entry) (conn : ℕ) (call : Call) (verdict : Verdict) (bytes : ℕ)
    → all ≡ history ++ Called conn call verdict bytes ∷ []
    → has_run (slice_get all (length all - 1)) ≡ true → verdict ≡ Ran
last-ran history all conn call verdict bytes is ran =
    let e : Entry = Called conn call verdict bytes in
    let last : slice_get (history ++ e ∷ []) (length (history ++ e ∷ []) - 1) ≡ Some e =
    last-at history e (length (history ++ e ∷ []) - 1) (length-more history e) in
    ran-verdict conn call verdict bytes
    (subst (λ (o : Option Entry). has_run o ≡ true) last
    (subst (λ (es : List Entry). has_run (slice_get es (length es - 1)) ≡ true) is ran))
