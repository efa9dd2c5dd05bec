-- What was given, and what is given of the domains to come, is what is given of all; and so with what is left.
use Rattle.std.proofs.Common.{◌≡◌, ◌++◌, drop, map}
use Rattle.acct_rules.specs.Pages.{given_in, leaves_some, entry_cost}
use Rattle.samr_objects.specs.Domains.{listed}
use Rattle.samr_objects.proofs.domains.give_domains.Given as goal

abbrev pub invariant-loop-domain : goal.invariant-loop-domain
invariant-loop-domain l =
    let rest = map listed (drop l.domain-index l.domains) in
    let all = map listed l.domains in
    record {
      given : l.page.entries ++ given_in entry_cost l.page.room rest
          ≡ l.fn.page.entries ++ given_in entry_cost l.fn.page.room all;
      more : leaves_some (given_in entry_cost l.page.room rest) rest
          ≡ leaves_some (given_in entry_cost l.fn.page.room all) all;
    }
