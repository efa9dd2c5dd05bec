-- The entries so far, by primary group, are those of the first so many accounts.
use Rattle.std.proofs.Common.{◌≡◌, take, map}
use Rattle.acct_tables.specs.steps.Primaries.{by_primary}
use Rattle.acct_tables.proofs.primaries.entries_of.Given as goal

abbrev pub invariant-loop-account : goal.invariant-loop-account
invariant-loop-account l = l.entries.items ≡ map by_primary (take l.account-index l.accounts)
