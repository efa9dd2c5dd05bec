-- What was given, and what is given of the accounts to come, is what is given of all; and so with what is left.
use Rattle.std.proofs.Common.{◌≡◌, ◌++◌, drop, map}
use Rattle.acct_rules.specs.Pages.{given_in, leaves_some}
use Rattle.lsad_rights.specs.Listings.{sid_of_row, sid_cost}
use Rattle.lsad_rights.proofs.listings.give_accounts.Given as goal

abbrev pub invariant-loop-account : goal.invariant-loop-account
invariant-loop-account l =
    let rest = map sid_of_row (drop l.account-index l.accounts) in
    let all = map sid_of_row l.accounts in
    record {
      given : l.page.sids ++ given_in sid_cost l.page.room rest
          ≡ l.fn.page.sids ++ given_in sid_cost l.fn.page.room all;
      more : leaves_some (given_in sid_cost l.page.room rest) rest
          ≡ leaves_some (given_in sid_cost l.fn.page.room all) all;
    }
