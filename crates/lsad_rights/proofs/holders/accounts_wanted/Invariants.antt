-- The SIDs so far, and those of the accounts to come, are those of all.
use Rattle.std.proofs.Common.{◌≡◌, ◌++◌, map, drop, Some}
use Rattle.std.specs.List.{filter}
use Rattle.lsad_rights.specs.Listings.{is_wanted, accounts_wanted, sid_of_row}
use Rattle.lsad_rights.proofs.holders.accounts_wanted.Given as goal

abbrev pub invariant-loop-account : goal.invariant-loop-account
invariant-loop-account l =
    l.sids ++ map sid_of_row (filter (is_wanted l.wanted) (drop l.account-index l.rows.lists.lsa))
    ≡ accounts_wanted (Some l.wanted) l.rows.lists
