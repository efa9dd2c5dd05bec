-- Changes of accounts that take the next out numbers in order, row by row
use Rattle.std.proofs.Common.{ℕ, List, [], ◌∷◌}
use Rattle.acct_rows.specs.Rows.{next_after, TakeNumbers}
use Rattle.acct_tables.specs.declared.row.Row.{Row}
use Rattle.acct_tables.specs.declared.row.Row.TheVariants as rows

pub first_numbers : (row : Row) (puts : List Row) (next : ℕ) → TakeNumbers next (row ∷ puts)
    → TakeNumbers next (row ∷ [])
first_numbers (rows.Domain d) puts next take = tt
first_numbers (rows.Account a) puts next take = tt
first_numbers (rows.Member m) puts next take = tt
first_numbers (rows.Alias a) puts next take = tt
first_numbers (rows.Lsa l) puts next take = tt
first_numbers (rows.Desc d) puts next take = tt
first_numbers (rows.Out o) puts next take = (take.0, take.1, tt)

pub rest_numbers : (row : Row) (puts : List Row) (next : ℕ) → TakeNumbers next (row ∷ puts)
    → TakeNumbers (next_after row next) puts
rest_numbers (rows.Domain d) puts next take = take
rest_numbers (rows.Account a) puts next take = take
rest_numbers (rows.Member m) puts next take = take
rest_numbers (rows.Alias a) puts next take = take
rest_numbers (rows.Lsa l) puts next take = take
rest_numbers (rows.Desc d) puts next take = take
rest_numbers (rows.Out o) puts next take = take.2
