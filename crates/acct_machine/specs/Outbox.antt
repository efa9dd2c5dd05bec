-- The outbox of account changes, and what the keeper of a machine has to do with its history.
use Rattle.std.specs.Prelude.{◌≡◌, ℕ, ◌^◌, ◌==◌, nat_le, Bool, true, false, ◌&&◌, List, [], ◌∷◌, ◌++◌, Option, Some}
use Rattle.std.specs.Prelude.{None, is_some, if◌then◌else◌, zero, suc, ◌+◌, ◌≤◌, ◌<◌, IfSome}
use Rattle.std.specs.Str.{bytes_eq}
use Rattle.acct_codes.specs.Statuses.{status_insufficient_resources}
use Rattle.acct_config.specs.declared.config.Config.{Config}
use Rattle.acct_keeper.specs.Faults.{one_more}
use Rattle.acct_keeper.specs.declared.pairs.Pair.{Pair}
use Rattle.acct_rows.specs.PairsOf.{ArePairsOf}
use Rattle.acct_rows.specs.Rows.{Lists, account_at}
use Rattle.acct_tables.specs.Selected.{same_kind}
use Rattle.acct_rows.specs.declared.plan.Plan.{Plan}
use Rattle.acct_tables.specs.declared.row.AccountRow.{AccountRow}
use Rattle.acct_tables.specs.declared.row.OutRow.{OutRow}
use Rattle.acct_tables.specs.declared.row.Row.TheVariants as rows
use Rattle.acct_rules.specs.Planned.{Ruled, when, refusal, put_account, removed_account}
use Rattle.acct_rules.specs.declared.planned.Planned.{Planned}
use Rattle.acct_machine.specs.State.{Start}
use Rattle.acct_machine.specs.declared.entry.Entry.{Entry}
use Rattle.acct_machine.specs.declared.entry.Entry.TheVariants.{Opened, Called, Gone, Hooked}
use Rattle.acct_machine.specs.declared.entry.Verdict.{Verdict}
use Rattle.acct_machine.specs.declared.entry.Verdict.TheVariants.{Ran, StoreFault, NoMemory}
use Rattle.acct_machine.specs.declared.outbox.Need.{Need}
use Rattle.acct_machine.specs.declared.outbox.Need.TheVariants as needs

-- ======== the outbox of account changes
-- Where the configuration has a program that is told of them, a call that makes, changes or removes an account row puts
-- an out row besides, with the next out number, and is refused where there is none.

-- a program is told of changes
abbrev pub has_hook : Config → Bool
has_hook config = is_some config.hook

-- ---- what changes

-- the actions of an out row: the account was made, changed or removed
abbrev pub out_made : ℕ
out_made = 1

abbrev pub out_changed : ℕ
out_changed = 2

abbrev pub out_removed : ℕ
out_removed = 3

-- two account rows of one key are equal
abbrev pub same_account : AccountRow → AccountRow → Bool
same_account a b =
    same_kind a.kind b.kind && (bytes_eq a.name b.name && (bytes_eq a.full_name b.full_name
    && (bytes_eq a.comment b.comment && ((a.bits == b.bits) && (a.primary == b.primary)))))

-- the out row of an account with an action
abbrev pub out_row : ℕ → ℕ → AccountRow → OutRow
out_row number action a = record {
  number = number;
  action = action;
  domain = a.domain;
  rid = a.rid;
  kind = a.kind;
  name = a.name;
}

-- An account row is put: it was made where there was none, and changed where it differs from the one that was there.
-- The out row has its new name.
abbrev pub told_of_put : ℕ → Option AccountRow → AccountRow → Option OutRow
told_of_put number None a = Some (out_row number out_made a)
told_of_put number (Some old) a = if same_account old a then None else Some (out_row number out_changed a)

-- An account row is removed where there is one. The out row has its last name.
abbrev pub told_of_removed : ℕ → Option AccountRow → Option OutRow
told_of_removed number None = None
told_of_removed number (Some old) = Some (out_row number out_removed old)

abbrev pub told_by : Lists → Option AccountRow → Option (ℕ × ℕ) → Option OutRow
told_by r (Some a) removed = told_of_put r.next_out (account_at r a.domain a.rid) a
told_by r None (Some (domain, rid)) = told_of_removed r.next_out (account_at r domain rid)
told_by r None None = None

-- the out row of the account row that a plan makes, changes or removes, which is one at most
abbrev pub account_change : Lists → Plan → Option OutRow
account_change r plan = told_by r (put_account plan.puts) (removed_account plan.removes)

-- ---- what is put besides

-- the next out number is at its end
abbrev pub is_full : OutRow → Bool
is_full o = nat_le (2 ^ 63) o.number

abbrev pub with_out : OutRow → Planned → Planned
with_out o planned = record planned { plan = record planned.plan { puts = planned.plan.puts ++ rows.Out o ∷ [] } }

-- one condition more, after the others, and one row more
abbrev pub told : Option OutRow → Ruled → Ruled
told None ruled = ruled
told (Some o) ruled = record {
  conditions = ruled.conditions ++ when (is_full o) status_insufficient_resources ∷ [];
  planned = with_out o ruled.planned;
}

-- the out row that a plan needs: none where no program is told
abbrev pub needs_out : Config → Lists → Plan → Option OutRow
needs_out config r plan = if has_hook config then account_change r plan else None

-- what the machine does with what an operation decides
abbrev pub outboxed : Config → Lists → Ruled → Ruled
outboxed config r ruled = told (needs_out config r ruled.planned.plan) ruled

-- the same of what was decided already
abbrev pub told_planned : Option OutRow → Planned → Planned
told_planned None planned = planned
told_planned (Some o) planned =
    if is_full o then refusal status_insufficient_resources else with_out o planned

-- nothing is needed, or this row, or there is no number for it
abbrev pub IsNeed : Need → Option OutRow → Type 0
IsNeed needs.Nothing o = o ≡ None
IsNeed (needs.Row row) o = (o ≡ Some row) × (is_full row ≡ false)
IsNeed needs.Refusal o = (row : OutRow) × (o ≡ Some row) × (is_full row ≡ true)

-- ---- the rows that wait

-- the number of the least out row, if there is one
abbrev pub least_in : List OutRow → Option ℕ
least_in [] = None
least_in (o ∷ others) = Some o.number

abbrev pub least_out : Lists → Option ℕ
least_out r = least_in r.outs

-- ======== what the keeper of a machine has to do with its history

-- what a keeper holds, where it tells, are the pairs of the rows
abbrev pub HoldsRows : Option (List Pair) → Lists → Type 0
HoldsRows held rows = IfSome held (λ told. ArePairsOf rows told)

-- the keeper's count stays, but is one more where a commit failed, and then the verdict has it
abbrev pub Counts : ℕ → ℕ → Verdict → Type 0
Counts before now Ran = now ≡ before
Counts before now (StoreFault n) = (n ≡ now) × (n < 2 ^ 64) × (now ≡ one_more before)
Counts before now NoMemory = now ≡ before

-- a count once it rose so many times more
abbrev pub risen : ℕ → ℕ → ℕ
risen zero count = count
risen (suc times) count = one_more (risen times count)

-- From a count on, each call whose commit failed counts one more, and so does each out row that couldn't be taken out,
-- of which a history has no entry and there were so many; and nothing else does. Then the count is this one.
abbrev pub CountsTo : ℕ → ℕ → ℕ → List Entry → Type 0
CountsTo now missed count [] = now ≡ risen missed count
CountsTo now missed count (Opened conn listener ∷ es) = CountsTo now missed count es
CountsTo now missed count (Called conn call Ran bytes ∷ es) = CountsTo now missed count es
CountsTo now missed count (Called conn call (StoreFault n) bytes ∷ es) =
    (earlier : ℕ) × (later : ℕ) × (earlier + later ≡ missed) × (n ≡ one_more (risen earlier count))
    × CountsTo now later n es
CountsTo now missed count (Called conn call NoMemory bytes ∷ es) = CountsTo now missed count es
CountsTo now missed count (Gone conn ∷ es) = CountsTo now missed count es
CountsTo now missed count (Hooked number ∷ es) = CountsTo now missed count es

-- The keeper's count now is that where the history began, with one more for each commit that failed since: those of its
-- calls, and those of out rows that couldn't be taken out, which there are only where a program is told of changes.
pub record AreCounted (now : ℕ) (start : Start) (history : List Entry) : Type 0 where
  pub missed : ℕ
  pub told : has_hook start.config ≡ false → missed ≡ 0
  pub each : CountsTo now missed start.faults history
  pub later : start.faults ≤ now

-- What the keeper holds are the pairs of the rows, and its count is that of the commits that failed.
pub record IsStored (held : Option (List Pair)) (rows : Lists) (now : ℕ) (start : Start) (history : List Entry)
    : Type 0 where
  pub pairs : HoldsRows held rows
  pub counts : AreCounted now start history
