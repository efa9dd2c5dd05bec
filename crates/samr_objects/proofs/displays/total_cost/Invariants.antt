-- The accounts so far and those to come cost what all cost.
use Rattle.std.proofs.Common.{◌≡◌, ◌+◌, ◌^◌, ◌<◌, drop}
use Rattle.std.specs.List.{filter, sum_by}
use Rattle.samr_objects.specs.Enumerations.{is_displayed, account_cost, as_count}
use Rattle.samr_objects.proofs.displays.total_cost.Given as goal

abbrev pub invariant-loop-account : goal.invariant-loop-account
invariant-loop-account l =
    let rest = filter (is_displayed l.arm l.domain) (drop l.account-index l.accounts) in
    let all = filter (is_displayed l.arm l.domain) l.accounts in
    record {
      fits : l.total < 2 ^ 32;
      sum : as_count (l.total + sum_by account_cost rest) ≡ as_count (sum_by account_cost all);
    }
