-- Which histories the machine may have, what one takes at most, and where access is denied.
use Rattle.std.specs.Prelude.{◌≡◌, ℕ, suc, ◌+◌, ◌*◌, ◌≤◌, nat_le, nat_lt, List, [], ◌∷◌, Option, Some, None}
use Rattle.std.specs.Prelude.{if◌then◌else◌, ◌≢◌, ◌^◌, ◌<◌, ◌==◌, true, false, ◌++◌, length, ⊤, All, ◌↔◌, ◌⊎◌}
use Rattle.acct_codes.specs.Statuses.{status_access_denied}
use Rattle.acct_calls.specs.declared.calls.Call.{Call}
use Rattle.acct_calls.specs.declared.replies.Reply.{Reply}
use Rattle.acct_calls.specs.declared.replies.Reply.TheVariants.{Fault, Done}
use Rattle.acct_config.specs.declared.limits.Limits.{Limits}
use Rattle.acct_keeper.specs.Faults.{Rose}
use Rattle.acct_rules.specs.Profiles.{Operation}
use Rattle.acct_rules.specs.Planned.{none_fails, opening_of}
use Rattle.acct_rules.specs.declared.profile.Memory.{Memory}
use Rattle.acct_rules.specs.declared.profile.Memory.TheVariants as memory
use Rattle.acct_machine.specs.Access.{held_by, object_of, access, operation_of, IsCall, is_opening_refused}
use Rattle.acct_machine.specs.Outbox.{least_out}
use Rattle.acct_machine.specs.Step.{decided_of, ruled_of, outcome, acted, step, state_at}
use Rattle.acct_machine.specs.State.{Start, State, first, is_live}
use Rattle.acct_machine.specs.declared.checks.Access.TheVariants.{Passed, Denied}
use Rattle.acct_machine.specs.declared.entry.Entry.{Entry}
use Rattle.acct_machine.specs.declared.entry.Entry.TheVariants.{Opened, Called, Gone, Hooked}
use Rattle.acct_machine.specs.declared.entry.Verdict.{Verdict}
use Rattle.acct_machine.specs.declared.entry.Verdict.TheVariants.{Ran, StoreFault, NoMemory}

-- ======== what a history takes at most, by the limits of the configuration where it begins

-- how many connections were opened
abbrev pub opened_count : List Entry → ℕ
opened_count [] = 0
opened_count (Opened conn listener ∷ es) = suc (opened_count es)
opened_count (Called conn call verdict bytes ∷ es) = opened_count es
opened_count (Gone conn ∷ es) = opened_count es
opened_count (Hooked number ∷ es) = opened_count es

-- how many calls were made
abbrev pub call_count : List Entry → ℕ
call_count [] = 0
call_count (Opened conn listener ∷ es) = call_count es
call_count (Called conn call verdict bytes ∷ es) = suc (call_count es)
call_count (Gone conn ∷ es) = call_count es
call_count (Hooked number ∷ es) = call_count es

-- how many bytes the stubs of these calls had
abbrev pub stub_bytes : List Entry → ℕ
stub_bytes [] = 0
stub_bytes (Opened conn listener ∷ es) = stub_bytes es
stub_bytes (Called conn call verdict bytes ∷ es) = bytes + stub_bytes es
stub_bytes (Gone conn ∷ es) = stub_bytes es
stub_bytes (Hooked number ∷ es) = stub_bytes es

-- how many out rows were taken out
abbrev pub hooked_count : List Entry → ℕ
hooked_count [] = 0
hooked_count (Opened conn listener ∷ es) = hooked_count es
hooked_count (Called conn call verdict bytes ∷ es) = hooked_count es
hooked_count (Gone conn ∷ es) = hooked_count es
hooked_count (Hooked number ∷ es) = suc (hooked_count es)

-- Where a history takes no further connection: how many it has.
abbrev pub conns_full : Start → List Entry → Option ℕ
conns_full start history =
    if nat_le start.config.limits.max_conns (opened_count history) then Some (opened_count history) else None

-- Where a history takes no further call: how many it has.
abbrev pub calls_full : Start → List Entry → Option ℕ
calls_full start history =
    if nat_le start.config.limits.max_calls (call_count history) then Some (call_count history) else None

-- Where the bytes of a call's stub are too many: how many there would be with them.
abbrev pub bytes_full : Start → List Entry → ℕ → Option ℕ
bytes_full start history bytes =
    if nat_lt start.config.limits.max_bytes (stub_bytes history + bytes)
    then Some (stub_bytes history + bytes)
    else None

-- the first of two counts that is there
abbrev pub either_full : Option ℕ → Option ℕ → Option ℕ
either_full None other = other
either_full (Some count) other = Some count

-- Where a history takes no further call of so many bytes: how many calls it has, or else how many bytes there would be.
abbrev pub call_full : Start → List Entry → ℕ → Option ℕ
call_full start history bytes = either_full (calls_full start history) (bytes_full start history bytes)

-- a history takes a further call of so many bytes
pub record TakesCall (start : Start) (history : List Entry) (bytes : ℕ) : Type 0 where
  pub few : calls_full start history ≡ None
  pub short : bytes_full start history bytes ≡ None

-- the most entries of a history, besides those that take an out row out: each connection is opened and goes
abbrev pub most_entries : Limits → ℕ
most_entries limits = limits.max_calls + 2 * limits.max_conns

-- A history is within the limits.
pub record IsWithin (limits : Limits) (history : List Entry) : Type 0 where
  pub conns : opened_count history ≤ limits.max_conns
  pub calls : call_count history ≤ limits.max_calls
  pub bytes : stub_bytes history ≤ limits.max_bytes

-- ======== which histories the machine may have, and what they say of one connection

-- ---- verdicts

-- no condition of the call fails, that of an opening included
pub record NoneFails (o : Operation) (s : State) (conn : ℕ) (call : Call) : Type 0 where
  pub conditions : none_fails (ruled_of o s conn call).conditions ≡ true
  pub opening : is_opening_refused s conn (opening_of (ruled_of o s conn call).planned.effect) ≡ false

-- A call's change is committed: no condition of it fails, and its new rows aren't those before.
pub record HasCommit (o : Operation) (s : State) (conn : ℕ) (call : Call) : Type 0 where
  pub none : NoneFails o s conn call
  pub differs : (outcome o s conn call).0.rows ≢ s.rows

-- Where memory may run out, by what an operation takes: nowhere, only where no condition fails, only where none of the
-- operation's own does, or anywhere. By its profile it is never of a closing, the second of a call that brings no
-- handle, and anywhere of each other.
abbrev pub MayWant : Memory → Operation → State → ℕ → Call → Type 0
MayWant memory.Never o s conn call = ⊥
MayWant memory.AfterConditions o s conn call = NoneFails o s conn call
MayWant memory.BeforeOpening o s conn call =
    none_fails (decided_of o s (object_of (held_by s conn call)) call).conditions ≡ true
MayWant memory.Anywhere o s conn call = ⊤

-- the handle of the call passed
pub record HasPassed (o : Operation) (s : State) (conn : ℕ) (call : Call) : Type 0 where
  pub found : operation_of call ≡ Some o
  pub passed : access o s conn call ≡ Passed

-- Which verdict a call may have: memory may run out only where its handle passed, and the store may fail only where
-- there is a change to commit besides.
abbrev pub MayHave : State → ℕ → Call → Verdict → Type 0
MayHave s conn call Ran = ⊤
MayHave s conn call (StoreFault n) = (o : Operation) × HasPassed o s conn call × HasCommit o s conn call
MayHave s conn call NoMemory = (o : Operation) × HasPassed o s conn call × MayWant o.profile.memory o s conn call

-- ---- faults of the store

-- the counts at the commits that failed, in order
abbrev pub faults_of : List Entry → List ℕ
faults_of [] = []
faults_of (Opened conn listener ∷ es) = faults_of es
faults_of (Called conn call Ran bytes ∷ es) = faults_of es
faults_of (Called conn call (StoreFault n) bytes ∷ es) = n ∷ faults_of es
faults_of (Called conn call NoMemory bytes ∷ es) = faults_of es
faults_of (Gone conn ∷ es) = faults_of es
faults_of (Hooked number ∷ es) = faults_of es

-- the store's counts of faults: where the history began, and at each commit that failed
abbrev pub counts_of : Start → List Entry → List ℕ
counts_of start history = start.faults ∷ faults_of history

-- The count at a commit that failed lies above each count before it, or at 2^64 - 1 where one of them does.
abbrev pub Rises : Start → List Entry → Verdict → Type 0
Rises start before Ran = ⊤
Rises start before (StoreFault n) = (n < 2 ^ 64) × All (λ m. Rose m n) (counts_of start before)
Rises start before NoMemory = ⊤

-- ---- histories

-- What may come after some events: the connections are numbered from 1 in the order of their opening, each at a
-- listener of the configuration; calls and ends are of live connections, and each call is one of an operation and
-- spelled by some served stub. The store's count of faults rises. The limits of the configuration are kept. Out rows
-- are taken out by ascending number.
abbrev pub May : Start → List Entry → Entry → Type 0
May start before (Opened conn listener) =
    (conn ≡ length (state_at start before).conns + 1) × (conn < 2 ^ 32) × (listener < length start.config.listeners)
    × (conns_full start before ≡ None)
May start before (Called conn call verdict bytes) =
    (is_live conn (state_at start before).conns ≡ true) × IsCall call × (bytes < 2 ^ 32)
    × MayHave (state_at start before) conn call verdict × TakesCall start before bytes × Rises start before verdict
May start before (Gone conn) = is_live conn (state_at start before).conns ≡ true
May start before (Hooked number) = least_out (state_at start before).rows ≡ Some number

-- each event may come after those before it
abbrev pub LegalAfter : Start → List Entry → List Entry → Type 0
LegalAfter start before [] = ⊤
LegalAfter start before (e ∷ es) = May start before e × LegalAfter start (before ++ e ∷ []) es

abbrev pub Legal : Start → List Entry → Type 0
Legal start history = LegalAfter start [] history

-- a legal history is within the limits of its configuration
abbrev pub LimitsAreKept : Type 0
LimitsAreKept = (start : Start) (history : List Entry) → Legal start history → IsWithin start.config.limits history

-- each prefix of a legal history is legal
abbrev pub FrontsAreLegal : Type 0
FrontsAreLegal = (start : Start) (before rest : List Entry) → Legal start (before ++ rest) → Legal start before

-- ---- one connection

-- the replies to the calls of a connection, in order
abbrev pub replies_from : State → ℕ → List Entry → List Reply
replies_from s k [] = []
replies_from s k (Called conn call verdict bytes ∷ es) =
    let rest = replies_from (step s (Called conn call verdict bytes)) k es in
    if conn == k then (acted s conn call verdict).1 ∷ rest else rest
replies_from s k (Opened conn listener ∷ es) = replies_from (step s (Opened conn listener)) k es
replies_from s k (Gone conn ∷ es) = replies_from (step s (Gone conn)) k es
replies_from s k (Hooked number ∷ es) = replies_from (step s (Hooked number)) k es

abbrev pub replies : Start → ℕ → List Entry → List Reply
replies start k history = replies_from (first start) k history

-- the calls of a connection in order, each with the bytes of its stub
abbrev pub calls_of : ℕ → List Entry → List (Call × ℕ)
calls_of k [] = []
calls_of k (Called conn call verdict bytes ∷ es) = if conn == k then (call, bytes) ∷ calls_of k es else calls_of k es
calls_of k (Opened conn listener ∷ es) = calls_of k es
calls_of k (Gone conn ∷ es) = calls_of k es
calls_of k (Hooked number ∷ es) = calls_of k es

-- each call has a reply
abbrev pub RepliesToEach : Type 0
RepliesToEach =
    (start : Start) (k : ℕ) (history : List Entry) → length (replies start k history) ≡ length (calls_of k history)

-- ======== where access is denied

-- the reply is no fault and has the status
abbrev pub HasStatus : ℕ → Reply → Type 0
HasStatus status (Fault fault) = ⊥
HasStatus status (Done given outs) = given ≡ status

-- The handle and the conditions passed, and the opening is refused.
pub record IsOpeningDenied (o : Operation) (s : State) (conn : ℕ) (call : Call) : Type 0 where
  pub passed : access o s conn call ≡ Passed
  pub conditions : none_fails (ruled_of o s conn call).conditions ≡ true
  pub opening : is_opening_refused s conn (opening_of (ruled_of o s conn call).planned.effect) ≡ true

-- the handle's grant lacks a needed bit, or the opening is refused
abbrev pub IsDenied : Operation → State → ℕ → Call → Type 0
IsDenied o s conn call = (access o s conn call ≡ Denied) ⊎ IsOpeningDenied o s conn call

-- a call of an operation that ran is answered STATUS_ACCESS_DENIED exactly where it is denied
abbrev pub DeniesExactly : Type 0
DeniesExactly =
    (s : State) (conn : ℕ) (call : Call) (o : Operation) → operation_of call ≡ Some o
    → (HasStatus status_access_denied (acted s conn call Ran).1 ↔ IsDenied o s conn call)

-- a call that its handle's grant denies has run
abbrev pub DeniesRan : Type 0
DeniesRan =
    (start : Start) (before : List Entry) (conn : ℕ) (call : Call) (verdict : Verdict) (bytes : ℕ) (o : Operation)
    → May start before (Called conn call verdict bytes) → operation_of call ≡ Some o
    → access o (state_at start before) conn call ≡ Denied → verdict ≡ Ran
