-- What was given, and what is given of the accounts to come, is what is given of all; and so with what is left.
use Rattle.std.proofs.Common.{◌≡◌, ◌++◌, drop, map}
use Rattle.std.specs.List.{filter}
use Rattle.acct_rules.specs.Pages.{given_in, leaves_some, entry_cost}
use Rattle.samr_objects.specs.Enumerations.{is_wanted, entry_of}
use Rattle.samr_objects.proofs.enumerations.give_accounts.Given as goal

abbrev pub invariant-loop-account : goal.invariant-loop-account
invariant-loop-account l =
    let rest = map entry_of (filter (is_wanted l.wanted) (drop l.account-index l.accounts)) in
    let all = map entry_of (filter (is_wanted l.wanted) l.accounts) in
    record {
      given : l.page.entries ++ given_in entry_cost l.page.room rest
          ≡ l.fn.page.entries ++ given_in entry_cost l.fn.page.room all;
      more : leaves_some (given_in entry_cost l.page.room rest) rest
          ≡ leaves_some (given_in entry_cost l.fn.page.room all) all;
    }
