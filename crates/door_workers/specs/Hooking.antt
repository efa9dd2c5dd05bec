-- The first pass of the machine's lock, which takes changes out of the outbox: what its turns find and leave, what it
-- knows, and what all drains of a call come to.
use Rattle.std.specs.Prelude.{◌≡◌, ℕ, ◌^◌, ◌<◌, ◌≤◌, ◌⊎◌, List, [], length, Option, Some, None, IfSome, IfOk}
use Rattle.std.specs.declared.result.Result.{Result}
use Rattle.acct_config.specs.declared.config.Hook.{Hook}
use Rattle.hist_lock.specs.Histories.{At, In}
use Rattle.hist_lock.specs.Lanes.{home}
use Rattle.hist_lock.specs.Passes.{view, IsPassOf}
use Rattle.hist_lock.specs.Views.{IsFirst, IsSamePass}
use Rattle.hist_lock.specs.declared.kept.Kept as keeping
use Rattle.hist_lock.specs.declared.lock.HistLock.{HistLock}
use Rattle.hist_lock.specs.declared.lock.Pass.{Pass}
use Rattle.hist_lock.specs.declared.view.View.{View}
use Rattle.account_hooks.specs.Drains.{GoesTo, IfHeld, IfStoreFault, IsFirstLeft, IfFault, Run, Adds}
use Rattle.account_hooks.specs.declared.drains.Drained.{Drained}
use Rattle.account_hooks.specs.declared.drains.Drained.TheVariants as drained
use Rattle.account_hooks.specs.declared.gate.HookedEnd.{HookedEnd}
use Rattle.account_hooks.specs.declared.runs.HookJob.{HookJob}
use Rattle.account_hooks.specs.declared.runs.Spawner.{Ghosts}
use Rattle.acct_keeper.specs.Faults.{Rose}
use Rattle.acct_machine.specs.Gates.{IsGood, IsReady, RoseTo}
use Rattle.acct_machine.specs.Hooking.{Hooks}
use Rattle.acct_machine.specs.Jobs.{jobs_at}
use Rattle.acct_machine.specs.Legal.{Legal}
use Rattle.acct_machine.specs.Outs.{hooks_of}
use Rattle.acct_machine.specs.State.{Start}
use Rattle.acct_machine.specs.declared.entry.Entry.{Entry}
use Rattle.link_sessions.specs.Turns.{shown}
use Rattle.link_sessions.specs.Transcript.{IsFrontOf}
use Rattle.door_workers.specs.steps.Lanes.{lane_of}
use Rattle.door_workers.specs.steps.Passing.{start_under}
use Rattle.door_workers.specs.declared.kept.Begun.{Begun}
use Rattle.door_workers.specs.declared.kept.Locked.{Locked}

-- ---- turns

-- What a look at the outbox answers: the job of the first change that is left, if one is. Nothing changes.
pub record MachineLooks {E : Type 0} (start : Start) (answer : Result (Option HookJob) E) (found left : List Entry)
    : Type 0 where
  pub same : left ≡ found
  pub good : IsGood (shown start found)
  pub first : IfOk answer (IsFirstLeft (jobs_at start found) (hooks_of found))

-- What taking a change out does. Where the store failed, its count rose since the history began.
pub record MachineHooks (start : Start) (number : ℕ) (answer : HookedEnd) (found left : List Entry) : Type 0 where
  pub hooks : Hooks (shown start found) answer number (shown start left)
  pub good : IsGood (shown start found)
  pub legal : Legal start left
  pub few : length left < 2 ^ 64
  pub fault : IfFault answer (RoseTo start.faults)

-- ---- the first pass

-- each own entry stands in what the pass knows
abbrev pub KnowsOwn : View Begun Entry → Type 0
KnowsOwn v = (p : ℕ) (e : Entry) → In v.own p e → At v.known p e

-- It is the first pass. What it knows is a history that began rightly and is legal, under a configuration with a
-- program, and each of its own entries stands there.
pub record KnowsOutbox (start : Start) (v : View Begun Entry) : Type 0 where
  pub first : IsFirst v
  pub ready : IsReady (shown start v.known)
  pub own : KnowsOwn v

-- the first pass of the lock, between two turns at the outbox
pub record IsAtOutbox {K : Type 0} {G : keeping.Ghosts (Locked K) Entry Begun} (lock : HistLock (Locked K) Entry Begun)
    (pass : Pass (Locked K) Entry Begun G) : Type 0 where
  pub pass_of : IsPassOf lock pass
  pub knows : KnowsOutbox (start_under lock) (view pass)

-- Turns of the first pass at the outbox: what it knew is known, and each entry that is its own besides took a change
-- out.
pub record TakesOut (v w : View Begun Entry) : Type 0 where
  pub same : IsSamePass v w
  pub grows : IsFrontOf v.known w.known
  pub kept : (p : ℕ) (e : Entry) → In v.own p e → In w.own p e
  pub more : (p : ℕ) (e : Entry) → In w.own p e → In v.own p e ⊎ (lane_of e ≡ home)

-- The first pass took others in, of which none had taken a change out: what it knew is known, and the same numbers have
-- left.
pub record TakesInOthers (v u : View Begun Entry) : Type 0 where
  pub grows : IsFrontOf v.known u.known
  pub homes : (p : ℕ) (e : Entry) → In u.own p e → lane_of e ≡ home → In v.own p e
  pub gone : hooks_of u.known ≡ hooks_of v.known

-- ---- drains

-- why no drain follows one that ended so, if that is so: it stopped before its end
abbrev pub stopped_by : Drained → Option Drained
stopped_by drained.Empty = None
stopped_by (drained.Held number) = Some (drained.Held number)
stopped_by (drained.StoreFault count) = Some (drained.StoreFault count)
stopped_by drained.NoMemory = Some drained.NoMemory

-- All drains of a call so far, over a history that is known so far: as one drain, from the beginning of the history.
-- The runs since the spawner was given are in order for the changes of the history, the numbers that were taken out are
-- those of which a run ended with 0, and the next drain may go on; or one stopped, and says why.
pub record HasDrained {P : Type 0} (spawner : Ghosts P) (hook : Hook) (start : Start) (before now : P)
    (known : List Entry) (answer : Option Drained) : Type 0 where
  pub runs : List Run
  pub told : Adds (spawner.runs before) runs (spawner.runs now)
  pub drains : GoesTo answer hook.program hook.tries [] (jobs_at start known) (hooks_of known) runs
  pub held : IfSome answer (λ a. IfHeld a (Rose (spawner.failed before) (spawner.failed now)))
  pub fault : IfSome answer (λ a. IfStoreFault a (RoseTo start.faults))
  pub later : spawner.failed before ≤ spawner.failed now
