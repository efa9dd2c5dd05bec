-- After the last account nothing is left to count.
use Rattle.std.proofs.Common.{◌≡◌, ◌+◌, subst, ◌∙◌}
use Rattle.std.specs.List.{filter, sum_by}
use Rattle.samr_objects.specs.Enumerations.{is_displayed, account_cost, as_count}
use Rattle.samr_objects.proofs.Displaying.{none-next, still}
use Rattle.samr_objects.proofs.displays.total_cost.Goals as goal

pub returns : goal.returns
returns c =
    let shown = is_displayed c.args.arm c.args.domain in
    let all = sum_by account_cost (filter shown c.args.accounts.now) in
    still c.loop-account.total c.loop-account.invariant.fits
    ∙ subst (λ ys. as_count (c.loop-account.total + sum_by account_cost ys) ≡ as_count all)
    (none-next shown c.args.accounts.now c.loop-account.account-index c.loop-account-test.false)
    c.loop-account.invariant.sum
