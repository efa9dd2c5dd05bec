-- A plan whose change may be committed, and what its commit does to a keeper.
use Rattle.std.specs.Prelude.{◌≡◌, ◌≢◌, ℕ, ◌≤◌, List, Option, Result, OnOk, OnErr, IfErr}
use Rattle.acct_keeper.specs.Faults.{after_call}
use Rattle.acct_keeper.specs.declared.keeper.KeepError.{KeepError}
use Rattle.acct_keeper.specs.declared.keeper.KeepError.TheVariants.{Failed}
use Rattle.acct_keeper.specs.declared.pairs.Pair.{Pair}
use Rattle.acct_rows.specs.Rows.{Lists, after, TakeNumbers}
use Rattle.acct_rows.specs.Sound.{IsSoundRows}
use Rattle.acct_rows.specs.declared.plan.Plan.{Plan}
use Rattle.acct_machine.specs.Outbox.{HoldsRows}

-- The rows are sound before the plan and after it, and the out rows that it puts take the next numbers.
pub record MayCommit (plan : Plan) (rows : Lists) : Type 0 where
  pub before : IsSoundRows rows
  pub later : IsSoundRows (after plan rows)
  pub numbers : TakeNumbers rows.next_out plan.puts

-- A commit of what takes the rows to the next ones. A keeper that held the rows holds the next ones, and after an error
-- what it held. It fails only where a row is to change; its count is one more where it failed, and else as it was; and
-- where no row is to change nothing is asked of it.
pub record CommitsRows {V : Type 0} (held : V → Option (List Pair)) (faults : V → ℕ) (old new : V) (rows next : Lists)
    (result : Result Unit KeepError) : Type 0 where
  pub ok : OnOk result (HoldsRows (held old) rows → HoldsRows (held new) next)
  pub err : OnErr result (held new ≡ held old)
  pub differs : IfErr result (λ e. e ≡ Failed → next ≢ rows)
  pub later : faults old ≤ faults new
  pub count : faults new ≡ after_call (faults old) result
  pub quiet : next ≡ rows → new ≡ old
