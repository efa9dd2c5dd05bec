-- That a plan touches one account row at most, and leaves the outbox alone.
use Rattle.std.specs.Prelude.{ℕ, ◌+◌, nat_le, Bool, true, false, not, ◌&&◌, ◌||◌, length}
use Rattle.std.specs.List.{filter, list_any}
use Rattle.acct_rows.specs.declared.plan.Plan.{Plan}
use Rattle.acct_tables.specs.declared.row.Row.{Row}
use Rattle.acct_tables.specs.declared.row.Row.TheVariants as rows
use Rattle.acct_tables.specs.declared.row.RowKey.{RowKey}
use Rattle.acct_tables.specs.declared.row.RowKey.TheVariants as keys

-- ---- accounts

abbrev pub is_account_row : Row → Bool
is_account_row (rows.Account a) = true
is_account_row _ = false

abbrev pub is_account_key : RowKey → Bool
is_account_key (keys.Account domain rid) = true
is_account_key _ = false

-- how many account rows a plan puts and removes
abbrev pub accounts_touched : Plan → ℕ
accounts_touched plan = length (filter is_account_row plan.puts) + length (filter is_account_key plan.removes)

-- ---- the outbox

abbrev pub is_out_row : Row → Bool
is_out_row (rows.Out o) = true
is_out_row _ = false

abbrev pub is_out_key : RowKey → Bool
is_out_key (keys.Out number) = true
is_out_key _ = false

abbrev pub touches_outbox : Plan → Bool
touches_outbox plan = list_any is_out_row plan.puts || list_any is_out_key plan.removes

-- one account row at most is put or removed, and none of the outbox
abbrev pub is_modest : Plan → Bool
is_modest plan = nat_le (accounts_touched plan) 1 && not (touches_outbox plan)
