-- The outbox over a whole history: which out rows each entry adds, and which have left.
use Rattle.std.specs.Prelude.{◌≡◌, ℕ, List, [], ◌∷◌, ◌++◌, length, map, take, drop, Option, Some, None, is_some}
use Rattle.std.specs.Prelude.{if◌then◌else◌}
use Rattle.std.specs.List.{flat_map}
use Rattle.acct_config.specs.Spelled.{IsRightConfig}
use Rattle.acct_rows.specs.Rows.{Lists, account_at}
use Rattle.acct_rows.specs.Sound.{IsSoundRows}
use Rattle.acct_tables.specs.declared.row.AccountRow.{AccountRow}
use Rattle.acct_tables.specs.declared.row.OutRow.{OutRow}
use Rattle.acct_machine.specs.declared.entry.Entry.{Entry}
use Rattle.acct_machine.specs.declared.entry.Entry.TheVariants.{Opened, Called, Gone, Hooked}
use Rattle.acct_machine.specs.Legal.{Legal}
use Rattle.acct_machine.specs.Outbox.{has_hook, out_row, out_removed, told_of_put}
use Rattle.acct_machine.specs.State.{State, Start, first}
use Rattle.acct_machine.specs.Step.{step, state_at}

-- ---- accounts before and after

abbrev pub the_one : {A : Type 0} → Option A → List A
the_one None = []
the_one (Some x) = x ∷ []

-- an account row that is there after a change: it was made, or it is another than before
abbrev pub told_of_later : Lists → AccountRow → List OutRow
told_of_later before a = the_one (told_of_put before.next_out (account_at before a.domain a.rid) a)

-- an account row that was there before it: it is gone
abbrev pub told_of_earlier : Lists → Lists → AccountRow → List OutRow
told_of_earlier before later a =
    if is_some (account_at later a.domain a.rid) then [] else out_row before.next_out out_removed a ∷ []

-- the out rows of the accounts that were made, changed or removed, with the number that came next
abbrev pub account_changes : Lists → Lists → List OutRow
account_changes before later =
    flat_map (told_of_later before) later.accounts ++ flat_map (told_of_earlier before later) before.accounts

-- ---- entries

-- The out rows that an entry adds: where a program is told of changes, one of each account that it makes, changes or
-- removes.
abbrev pub adds : State → Entry → List OutRow
adds s e = if has_hook s.config then account_changes s.rows (step s e).rows else []

-- those that entries add, in order
abbrev pub added : State → List Entry → List OutRow
added s [] = []
added s (e ∷ es) = adds s e ++ added (step s e) es

-- every out row of a history, whether it has left or not: those that there were, and those that its entries add
abbrev pub outs_of : Start → List Entry → List OutRow
outs_of start history = start.rows.outs ++ added (first start) history

-- the numbers that were taken out, in order
abbrev pub hooks_of : List Entry → List ℕ
hooks_of [] = []
hooks_of (Opened conn listener ∷ es) = hooks_of es
hooks_of (Called conn call verdict bytes ∷ es) = hooks_of es
hooks_of (Gone conn ∷ es) = hooks_of es
hooks_of (Hooked number ∷ es) = number ∷ hooks_of es

-- what an entry takes out of the outbox: the first row, or none
abbrev pub left_by : Entry → List OutRow → List OutRow
left_by (Opened conn listener) outs = outs
left_by (Called conn call verdict bytes) outs = outs
left_by (Gone conn) outs = outs
left_by (Hooked number) outs = drop 1 outs

-- ---- laws

-- After each entry that may come the outbox has the rows that it had, less the one that the entry takes out, and those
-- that it adds.
abbrev pub OutsAreAdded : Type 0
OutsAreAdded = (start : Start) (before : List Entry) (e : Entry) → IsRightConfig start.config → IsSoundRows start.rows
    → Legal start (before ++ e ∷ [])
    → (step (state_at start before) e).rows.outs
    ≡ left_by e (state_at start before).rows.outs ++ adds (state_at start before) e

-- The out rows of a state are those of the history less as many as were taken out, which were the first ones.
pub record OutsLeft (start : Start) (history : List Entry) : Type 0 where
  pub left : (state_at start history).rows.outs ≡ drop (length (hooks_of history)) (outs_of start history)
  pub gone : hooks_of history ≡ map (λ o. o.number) (take (length (hooks_of history)) (outs_of start history))

abbrev pub OutsAreLeft : Type 0
OutsAreLeft = (start : Start) (history : List Entry) → IsRightConfig start.config → IsSoundRows start.rows
    → Legal start history → OutsLeft start history

-- where a history goes on, out rows are added after those of before, and numbers taken out after those of before
pub record OutsGoOn (start : Start) (before rest : List Entry) : Type 0 where
  pub outs : outs_of start (before ++ rest) ≡ outs_of start before ++ added (state_at start before) rest
  pub hooks : hooks_of (before ++ rest) ≡ hooks_of before ++ hooks_of rest

abbrev pub OutsOnlyGrow : Type 0
OutsOnlyGrow = (start : Start) (before rest : List Entry) → OutsGoOn start before rest
