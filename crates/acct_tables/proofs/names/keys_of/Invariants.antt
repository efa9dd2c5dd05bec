-- The keys so far are the domains and RIDs of the first so many accounts.
use Rattle.std.proofs.Common.{◌≡◌, take, map}
use Rattle.acct_tables.specs.steps.Indexes.{numbers_of}
use Rattle.acct_tables.proofs.names.keys_of.Given as goal

abbrev pub invariant-loop-row : goal.invariant-loop-row
invariant-loop-row l = l.keys.items ≡ map (λ row. numbers_of row.now) (take l.row-index l.rows)
