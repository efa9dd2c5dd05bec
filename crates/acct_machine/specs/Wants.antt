-- Where memory may run out for what was planned, and where its commit may fail.
use Rattle.std.specs.Prelude.{◌≡◌, ◌≢◌, ℕ, true, false, Some, ⊤}
use Rattle.acct_calls.specs.declared.calls.Call.{Call}
use Rattle.acct_rows.specs.Rows.{after}
use Rattle.acct_rules.specs.declared.planned.Planned.{Planned}
use Rattle.acct_rules.specs.Planned.{has_change, opening_of, takes_room}
use Rattle.acct_operations.specs.declared.table.Work.{Work}
use Rattle.acct_operations.specs.Table.{operation, work_of}
use Rattle.acct_operations.specs.Frugal.{taken_by}
use Rattle.acct_machine.specs.declared.entry.Verdict.{Verdict}
use Rattle.acct_machine.specs.declared.entry.Verdict.TheVariants.{Ran, StoreFault, NoMemory}
use Rattle.acct_machine.specs.State.{State}
use Rattle.acct_machine.specs.Access.{is_opening_refused}
use Rattle.acct_machine.specs.Legal.{MayWant, MayHave}

-- Where the change of a plan may not be made: its commit fails only where the rows after it aren't those before, and
-- memory runs out only where there is a change.
abbrev pub MayMiss : State → Planned → Verdict → Type 0
MayMiss s planned Ran = ⊤
MayMiss s planned (StoreFault n) = after planned.plan s.rows ≢ s.rows
MayMiss s planned NoMemory = has_change planned.plan ≡ true

-- The same of what was planned, a handle included, whose opening is granted.
abbrev pub WantsRoom : State → ℕ → Planned → Verdict → Type 0
WantsRoom s conn planned Ran = ⊤
WantsRoom s conn planned (StoreFault n) =
    (is_opening_refused s conn (opening_of planned.effect) ≡ false) × (after planned.plan s.rows ≢ s.rows)
WantsRoom s conn planned NoMemory =
    (is_opening_refused s conn (opening_of planned.effect) ≡ false) × (takes_room planned ≡ true)

-- A call runs out of memory only where its operation takes some, which is less than a legal history allows.
abbrev pub IsFrugal : State → ℕ → Call → Verdict → Type 0
IsFrugal s conn call Ran = ⊤
IsFrugal s conn call (StoreFault n) = ⊤
IsFrugal s conn call NoMemory =
    (work : Work) × (work_of call.face call.opnum ≡ Some work) × MayWant (taken_by work) (operation work) s conn call

-- How a call of the machine may end: as in a legal history, and with no more memory than its operation takes.
abbrev pub MayEndWith : State → ℕ → Call → Verdict → Type 0
MayEndWith s conn call verdict = MayHave s conn call verdict × IsFrugal s conn call verdict
