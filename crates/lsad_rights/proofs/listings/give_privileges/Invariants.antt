-- What was given, and what is given of the privileges to come, is what is given of all; and so with what is left.
use Rattle.std.proofs.Common.{◌≡◌, ◌++◌, drop, map}
use Rattle.std.specs.List.{filter}
use Rattle.acct_rules.specs.Pages.{given_in, leaves_some, entry_cost}
use Rattle.lsad_rights.specs.Listings.{entry_of, is_behind}
use Rattle.lsad_rights.proofs.listings.give_privileges.Given as goal

abbrev pub invariant-loop-privilege : goal.invariant-loop-privilege
invariant-loop-privilege l =
    let rest = map entry_of (filter (is_behind l.context) (drop l.privilege-index l.privileges)) in
    let all = map entry_of (filter (is_behind l.context) l.privileges) in
    record {
      given : l.page.entries ++ given_in entry_cost l.page.room rest
          ≡ l.fn.page.entries ++ given_in entry_cost l.fn.page.room all;
      more : leaves_some (given_in entry_cost l.page.room rest) rest
          ≡ leaves_some (given_in entry_cost l.fn.page.room all) all;
    }
