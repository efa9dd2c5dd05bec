-- What was given, and what is given of the accounts to come, is what is given of all, and so with what it costs and
-- with what is left.
use Rattle.std.proofs.Common.{drop}
use Rattle.std.specs.List.{filter}
use Rattle.samr_objects.specs.Enumerations.{is_displayed}
use Rattle.samr_objects.proofs.Displaying.{Goes}
use Rattle.samr_objects.proofs.displays.give_accounts.Given as goal

abbrev pub invariant-loop-account : goal.invariant-loop-account
invariant-loop-account l =
    let shown = is_displayed l.arm l.domain in
    Goes l.page (filter shown (drop l.account-index l.accounts)) l.fn.page (filter shown l.accounts)
