-- No account that was passed has the name in the domain: the accounts left decide which one is found.
use Rattle.std.proofs.Common.{◌≡◌, drop}
use Rattle.std.specs.List.{find}
use Rattle.acct_tables.specs.Selected.{has_name}
use Rattle.account_vectors.proofs.tests.rows.plain.find_name.Given as goal

abbrev pub invariant-loop-account : goal.invariant-loop-account
invariant-loop-account l =
    find (has_name l.domain l.name) (drop l.account-index l.accounts) ≡ find (has_name l.domain l.name) l.accounts
