-- The machine as a gate of its outbox: what it shows, and what taking a change out tells of the jobs.
use Rattle.std.specs.Prelude.{◌≡◌, ℕ, ◌-◌, ◌^◌, ◌<◌, ◌≤◌, true, List, ◌++◌, length, map}
use Rattle.account_hooks.specs.Drains.{Job, Begins, IsNext, LeavesBy, IfPast, left, numbers}
use Rattle.account_hooks.specs.declared.gate.HookedEnd.{HookedEnd}
use Rattle.account_hooks.specs.declared.gate.HookedEnd.TheVariants as ends
use Rattle.acct_config.specs.Spelled.{IsRightConfig}
use Rattle.acct_keeper.specs.Faults.{Rose}
use Rattle.acct_rows.specs.Sound.{IsSoundRows}
use Rattle.acct_machine.specs.declared.entry.Entry.{Entry}
use Rattle.acct_machine.specs.declared.entry.Entry.TheVariants.{Hooked}
use Rattle.acct_machine.specs.Hooking.{Hooks}
use Rattle.acct_machine.specs.Jobs.{jobs_at, jobs_of}
use Rattle.acct_machine.specs.Legal.{Legal}
use Rattle.acct_machine.specs.Machine.{state_of}
use Rattle.acct_machine.specs.Outbox.{has_hook}
use Rattle.acct_machine.specs.Outs.{hooks_of}
use Rattle.acct_machine.specs.Shown.{Past, Shown}

-- A history that began rightly and is legal.
pub record IsGood (m : Past) : Type 0 where
  pub right : IsRightConfig m.start.config
  pub sound : IsSoundRows m.start.rows
  pub legal : Legal m.start m.history

-- Besides, a program is told of changes, and the numbers that were taken out are those of the first jobs.
pub record IsReady (m : Past) : Type 0 where
  pub good : IsGood m
  pub hook : has_hook m.start.config ≡ true
  pub in_front : Begins (hooks_of m.history) (numbers (jobs_at m.start m.history))

-- What calls of a gate leave: entries of numbers that left, and nothing else, over the same beginning; and the keeper's
-- count doesn't fall.
pub record Moves (m n : Shown) : Type 0 where
  pub start : n.past.start ≡ m.past.start
  pub more : List ℕ
  pub entries : n.past.history ≡ m.past.history ++ map Hooked more
  pub later : m.keeper.faults ≤ n.keeper.faults

-- how many more numbers may leave
abbrev pub room_at : List Entry → ℕ
room_at history = 2 ^ 64 - length (hooks_of history)

-- The count has stood at this number, or above, and then rose to n.
pub record RoseTo (before n : ℕ) : Type 0 where
  pub count : ℕ
  pub since : before ≤ count
  pub rose : Rose count n

-- ---- laws

-- The jobs that haven't left are those of the changes that are left, and the numbers that were taken out are those of
-- the first ones.
pub record JobsLeft (m : Past) : Type 0 where
  pub left : left (jobs_at m.start m.history) (hooks_of m.history) ≡ jobs_of m.start.rows (state_of m).rows.outs
  pub in_front : Begins (hooks_of m.history) (numbers (jobs_at m.start m.history))

abbrev pub JobsAreLeft : Type 0
JobsAreLeft = (m : Past) → IsGood m → JobsLeft m

-- what taking a change out tells
pub record HookTold (old : Past) (answer : HookedEnd) (number : ℕ) (new : Past) : Type 0 where
  pub gone : LeavesBy answer number (hooks_of old.history) (hooks_of new.history)
  pub past : (job : Job) → IsNext (jobs_at old.start old.history) (hooks_of old.history) job → job.number ≡ number
      → IfPast answer ⊥
  pub jobs : Begins (jobs_at old.start old.history) (jobs_at new.start new.history)
  pub room : room_at new.history ≤ room_at old.history
  pub nearer : length new.history < 2 ^ 64 → answer ≡ ends.Done → room_at new.history < room_at old.history

abbrev pub HooksAreTold : Type 0
HooksAreTold = (old : Past) (answer : HookedEnd) (number : ℕ) (new : Past) → IsGood old
    → Hooks old answer number new → HookTold old answer number new
