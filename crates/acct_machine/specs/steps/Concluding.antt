-- What a call leaves of the state and of the keeper.
use Rattle.std.specs.Prelude.{◌≡◌, ℕ, ◌≤◌, List, Option}
use Rattle.acct_calls.specs.declared.replies.Reply.{Reply}
use Rattle.acct_keeper.specs.declared.pairs.Pair.{Pair}
use Rattle.acct_machine.specs.declared.entry.Verdict.{Verdict}
use Rattle.acct_machine.specs.declared.entry.Verdict.TheVariants.{Ran}
use Rattle.acct_machine.specs.State.{State}
use Rattle.acct_machine.specs.Outbox.{HoldsRows, Counts}

-- The state and the reply are what the call comes to with its verdict, and this verdict may be. A keeper that held the
-- rows holds those that are left, its count tells of a commit that failed, and where no row is to change nothing is
-- asked of it.
pub record Concludes {V : Type 0} (held : V → Option (List Pair)) (faults : V → ℕ) (old new : V)
    (comes : Verdict → State × Reply) (may : Verdict → Type 0) (before after : State) (answer : Verdict × Reply)
    : Type 0 where
  pub state : after ≡ (comes answer.0).0
  pub reply : answer.1 ≡ (comes answer.0).1
  pub allowed : may answer.0
  pub stored : HoldsRows (held old) before.rows → HoldsRows (held new) after.rows
  pub counts : Counts (faults old) (faults new) answer.0
  pub later : faults old ≤ faults new
  pub quiet : (comes Ran).0.rows ≡ before.rows → new ≡ old
