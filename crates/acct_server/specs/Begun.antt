-- Where a history begins, and which of its calls were denied access.
use Rattle.std.specs.Prelude.{◌≡◌, ℕ, List, Option, IfSome, Some, ◌∷◌, ◌++◌, ◌↔◌}
use Rattle.acct_codes.specs.Statuses.{status_access_denied}
use Rattle.acct_calls.specs.declared.calls.Call.{Call}
use Rattle.acct_config.specs.declared.config.Config.{Config}
use Rattle.acct_keeper.specs.declared.pairs.Pair.{Pair}
use Rattle.acct_rows.specs.Sound.{IsSoundRows}
use Rattle.acct_rules.specs.Profiles.{Operation}
use Rattle.acct_machine.specs.Access.{access, operation_of}
use Rattle.acct_machine.specs.Legal.{HasStatus, IsDenied}
use Rattle.acct_machine.specs.Opened.{OpensRows}
use Rattle.acct_machine.specs.State.{Start}
use Rattle.acct_machine.specs.Step.{acted, state_at}
use Rattle.acct_machine.specs.declared.checks.Access.TheVariants.{Denied}
use Rattle.acct_machine.specs.declared.entry.Entry.{Entry}
use Rattle.acct_machine.specs.declared.entry.Entry.TheVariants.{Called}
use Rattle.acct_machine.specs.declared.entry.Verdict.{Verdict}
use Rattle.acct_machine.specs.declared.entry.Verdict.TheVariants.{Ran}

-- ======== where the history of a replay begins

-- Under the configuration, from the rows whose pairs the keeper held, or the seed rows where it held none, with its
-- count of faults. These rows are sound.
pub record IsBegun (config : Config) (held : Option (List Pair)) (faults : ℕ) (start : Start) : Type 0 where
  pub under : start.config ≡ config
  pub rows : IfSome held (λ pairs. OpensRows config pairs start.rows)
  pub count : start.faults ≡ faults
  pub sound : IsSoundRows start.rows

-- ======== of the calls of a history, which were denied access

-- A call of an operation stands in the history after these entries.
pub record StandsBehind (before history : List Entry) (conn : ℕ) (call : Call) (verdict : Verdict)
    (o : Operation) : Type 0 where
  pub bytes : ℕ
  pub after : List Entry
  pub stands : history ≡ before ++ Called conn call verdict bytes ∷ after
  pub operation : operation_of call ≡ Some o

-- Each call that ran is answered STATUS_ACCESS_DENIED exactly where the recorded grant of its handle, or the access
-- check of its opening,
-- lacks a bit at the state before it; and each call that its handle's grant denies has run.
pub record DeniesExactlyIn (start : Start) (history : List Entry) : Type 0 where
  pub exactly : (before : List Entry) (conn : ℕ) (call : Call) (o : Operation)
      → StandsBehind before history conn call Ran o
      → (HasStatus status_access_denied (acted (state_at start before) conn call Ran).1 ↔ IsDenied o
      (state_at start before) conn call)
  pub ran : (before : List Entry) (conn : ℕ) (call : Call) (verdict : Verdict) (o : Operation)
      → StandsBehind before history conn call verdict o
      → access o (state_at start before) conn call ≡ Denied → verdict ≡ Ran
