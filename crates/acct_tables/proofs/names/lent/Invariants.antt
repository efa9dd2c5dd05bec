-- The rows lent so far are the first so many accounts, where they stand.
use Rattle.std.proofs.Common.{◌≡◌, take, map}
use Rattle.acct_tables.proofs.names.lent.Given as goal

abbrev pub invariant-loop-row : goal.invariant-loop-row
invariant-loop-row l = map (λ row. row.now) l.rows.items ≡ take l.row-index l.accounts
