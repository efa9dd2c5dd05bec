-- What each call of a machine leaves and answers.
use Rattle.std.specs.Prelude.{◌≡◌, ◌≢◌, ℕ, ◌+◌, ◌≤◌, ◌==◌, true, false, [], ◌∷◌, ◌++◌, length, Some, None, ⊤}
use Rattle.std.specs.Prelude.{if◌then◌else◌}
use Rattle.acct_calls.specs.declared.calls.Call.{Call}
use Rattle.acct_calls.specs.declared.replies.Reply.{Reply}
use Rattle.acct_machine.specs.declared.entry.Verdict.{Verdict}
use Rattle.acct_machine.specs.declared.entry.Verdict.TheVariants.{Ran}
use Rattle.acct_machine.specs.declared.entry.Entry.{Entry}
use Rattle.acct_machine.specs.declared.entry.Entry.TheVariants.{Opened, Called, Gone}
use Rattle.acct_machine.specs.declared.machine.Acted.{Acted}
use Rattle.acct_machine.specs.declared.machine.Acted.TheVariants as acts
use Rattle.acct_machine.specs.declared.machine.Opened as answer
use Rattle.acct_machine.specs.declared.machine.Opened.TheVariants as opens
use Rattle.acct_machine.specs.State.{State, is_live}
use Rattle.acct_machine.specs.Step.{state_at, acted}
use Rattle.acct_machine.specs.Legal.{conns_full, calls_full, bytes_full, TakesCall, replies, calls_of}
use Rattle.acct_machine.specs.Shapes.{IsAnswer}
use Rattle.acct_machine.specs.Wants.{IsFrugal}
use Rattle.acct_machine.specs.Passing.{AreOfOthers}
use Rattle.acct_machine.specs.Outbox.{HoldsRows, Counts}
use Rattle.acct_machine.specs.Shown.{Past, Shown}

-- one more event, and nothing else
abbrev pub with_entry : Past → Entry → Past
with_entry m e = record m { history = m.history ++ e ∷ [] }

-- the state after the history
abbrev pub state_of : Past → State
state_of m = state_at m.start m.history

-- an opening of a connection; a full history is left as it was
abbrev pub Opens : Past → ℕ → answer.Opened → Past → Type 0
Opens old listener (opens.Conn conn) new =
    (conns_full old.start old.history ≡ None) × (conn ≡ length (state_of old).conns + 1)
    × (new ≡ with_entry old (Opened conn listener))
Opens old listener (opens.Full count) new = (conns_full old.start old.history ≡ Some count) × (new ≡ old)

-- no entry before is of the connection that was opened
abbrev pub OpensFresh : Past → answer.Opened → Type 0
OpensFresh old (opens.Conn conn) = AreOfOthers conn old.history
OpensFresh old (opens.Full count) = ⊤

-- A call was entered, and has the reply of the state before it.
pub record Enters (old : Past) (conn : ℕ) (call : Call) (bytes : ℕ) (answer : Reply) (new : Past) : Type 0 where
  pub taken : TakesCall old.start old.history bytes
  pub verdict : Verdict
  pub entered : new ≡ with_entry old (Called conn call verdict bytes)
  pub reply : answer ≡ (acted (state_of old) conn call verdict).1

-- a call; a full history is left as it was
abbrev pub Acts : Past → ℕ → Call → ℕ → Acted → Past → Type 0
Acts old conn call bytes (acts.Reply reply) new = Enters old conn call bytes reply new
Acts old conn call bytes (acts.FullCalls count) new = (calls_full old.start old.history ≡ Some count) × (new ≡ old)
Acts old conn call bytes (acts.FullBytes sum) new =
    (calls_full old.start old.history ≡ None) × (bytes_full old.start old.history bytes ≡ Some sum) × (new ≡ old)

-- A call was entered, and ran out of memory only where its operation takes some.
pub record EntersFrugally (old : Past) (conn : ℕ) (call : Call) (bytes : ℕ) (new : Past) : Type 0 where
  pub verdict : Verdict
  pub entered : new ≡ with_entry old (Called conn call verdict bytes)
  pub frugal : IsFrugal (state_of old) conn call verdict

abbrev pub Frugal : Past → ℕ → Call → ℕ → Acted → Past → Type 0
Frugal old conn call bytes (acts.Reply reply) new = EntersFrugally old conn call bytes new
Frugal old conn call bytes (acts.FullCalls count) new = ⊤
Frugal old conn call bytes (acts.FullBytes sum) new = ⊤

-- a reply that is no fault has the shape of its operation
abbrev pub Shaped : Call → Acted → Type 0
Shaped call (acts.Reply reply) = IsAnswer call reply
Shaped call (acts.FullCalls count) = ⊤
Shaped call (acts.FullBytes sum) = ⊤

-- the end of a connection
abbrev pub Ends : Past → ℕ → Past → Type 0
Ends old conn new = new ≡ with_entry old (Gone conn)

-- The same connections are live, and there are as many.
pub record SameLive (old new : State) : Type 0 where
  pub lives : (k : ℕ) → is_live k new.conns ≡ is_live k old.conns
  pub count : length new.conns ≡ length old.conns

-- One more connection is live, which wasn't before, and is the last of all.
pub record OneMoreLive (old new : State) (conn : ℕ) : Type 0 where
  pub live : is_live conn new.conns ≡ true
  pub fresh : is_live conn old.conns ≡ false
  pub others : (k : ℕ) → k ≢ conn → is_live k new.conns ≡ is_live k old.conns
  pub count : length new.conns ≡ length old.conns + 1

-- One connection isn't live any more.
pub record OneLessLive (old new : State) (conn : ℕ) : Type 0 where
  pub ended : is_live conn new.conns ≡ false
  pub others : (k : ℕ) → k ≢ conn → is_live k new.conns ≡ is_live k old.conns
  pub count : length new.conns ≡ length old.conns

-- what an opening does to the live connections
abbrev pub OpensLive : Past → answer.Opened → Past → Type 0
OpensLive old (opens.Conn conn) new = OneMoreLive (state_of old) (state_of new) conn
OpensLive old (opens.Full count) new = SameLive (state_of old) (state_of new)

-- Each connection has the calls and the replies that it had.
pub record SameCalls (old new : Past) : Type 0 where
  pub calls : (k : ℕ) → calls_of k new.history ≡ calls_of k old.history
  pub replies : (k : ℕ) → replies new.start k new.history ≡ replies old.start k old.history

-- One connection has one call and its reply more, and every other has those that it had.
pub record OneMoreCall (old new : Past) (conn : ℕ) (call : Call) (bytes : ℕ) (reply : Reply) : Type 0 where
  pub calls : (k : ℕ)
      → calls_of k new.history ≡ calls_of k old.history ++ (if conn == k then (call, bytes) ∷ [] else [])
  pub replies : (k : ℕ)
      → replies new.start k new.history ≡ replies old.start k old.history ++ (if conn == k then reply ∷ [] else [])

-- what a call does to the calls of the connections
abbrev pub ActsCalls : Past → ℕ → Call → ℕ → Acted → Past → Type 0
ActsCalls old conn call bytes (acts.Reply reply) new = OneMoreCall old new conn call bytes reply
ActsCalls old conn call bytes (acts.FullCalls count) new = SameCalls old new
ActsCalls old conn call bytes (acts.FullBytes sum) new = SameCalls old new

-- ---- the keeper

-- what the keeper holds, if it tells, are the pairs of the state's rows
abbrev pub Stored : Shown → Type 0
Stored m = HoldsRows m.keeper.held (state_of m.past).rows

-- A call was entered. The keeper's count stays, but is one more where a commit failed, and then the verdict has it.
-- Where the call, if it ran, would change no row, nothing was committed: the keeper is as it was.
pub record CommitsCall (old : Shown) (conn : ℕ) (call : Call) (bytes : ℕ) (new : Shown) : Type 0 where
  pub verdict : Verdict
  pub entered : new.past ≡ with_entry old.past (Called conn call verdict bytes)
  pub later : old.keeper.faults ≤ new.keeper.faults
  pub counts : Counts old.keeper.faults new.keeper.faults verdict
  pub quiet : (acted (state_of old.past) conn call Ran).0.rows ≡ (state_of old.past).rows → new.keeper ≡ old.keeper

-- what a call does to the keeper; a full history leaves it as it was
abbrev pub Commits : Shown → ℕ → Call → ℕ → Acted → Shown → Type 0
Commits old conn call bytes (acts.Reply reply) new = CommitsCall old conn call bytes new
Commits old conn call bytes (acts.FullCalls count) new = new.keeper ≡ old.keeper
Commits old conn call bytes (acts.FullBytes sum) new = new.keeper ≡ old.keeper
