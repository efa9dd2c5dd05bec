-- Rows of which none is one of the outbox take no out number.
use Rattle.std.proofs.Common.{◌≡◌, ℕ, false, List, [], ◌∷◌}
use Rattle.std.specs.List.{list_any}
use Rattle.acct_rows.specs.Rows.{TakeNumbers}
use Rattle.acct_tables.specs.declared.row.Row.{Row}
use Rattle.acct_tables.specs.declared.row.Row.TheVariants as rows
use Rattle.acct_rules.specs.Touched.{is_out_row}

pub take-none : (next : ℕ) (puts : List Row) → list_any is_out_row puts ≡ false → TakeNumbers next puts
take-none next [] none = tt
take-none next (rows.Domain d ∷ puts) none = take-none next puts none
take-none next (rows.Account a ∷ puts) none = take-none next puts none
take-none next (rows.Member m ∷ puts) none = take-none next puts none
take-none next (rows.Alias a ∷ puts) none = take-none next puts none
take-none next (rows.Lsa l ∷ puts) none = take-none next puts none
take-none next (rows.Desc d ∷ puts) none = take-none next puts none
take-none next (rows.Out o ∷ puts) none = absurd cc
