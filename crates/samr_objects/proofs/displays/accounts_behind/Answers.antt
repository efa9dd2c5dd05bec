-- An account that is displayed is passed over, and another isn't counted.
use Rattle.std.proofs.Common.{◌≡◌, ◌+◌, drop, subst, sym, ap, ◌∙◌, arith}
use Rattle.std.specs.List.{filter}
use Rattle.samr_objects.specs.Enumerations.{is_displayed}
use Rattle.samr_objects.proofs.Displaying.{passes-shown, shown-next, hidden-next}
use Rattle.samr_objects.proofs.displays.accounts_behind.Goals.{then-is_displayed, else-is_displayed}
use Rattle.samr_objects.proofs.displays.accounts_behind.Goals as goal

pub returns-then-before-eq0-clause-left : goal.returns-then-before-eq0-clause-left
returns-then-before-eq0-clause-left c =
    let shown = is_displayed c.args.arm c.args.domain in
    let xs = c.args.accounts.now in
    ap (filter shown) c.rest_of.ensures
    ∙ subst (λ n. drop n (filter shown (drop c.loop-place.place xs)) ≡ drop c.args.index (filter shown xs))
    c.if-before-eq0.true c.loop-place.invariant.left

pub loop-place-preserved : goal.loop-place-preserved
loop-place-preserved c =
    let shown = is_displayed c.args.arm c.args.domain in
    let xs = c.args.accounts.now in
    let place = c.loop-place.place in
    let x = c.index-accounts-place.result in
    elim c.if-is_displayed.branch [
      | then-is_displayed w ↦ record {
        left =
            passes-shown c.loop-place.before c.if-is_displayed.before x (filter shown (drop (place + 1) xs))
            (filter shown (drop place xs))
            (shown-next shown xs place x c.loop-place-test.true c.index-accounts-place.is
            (sym c.is_displayed.ensures ∙ w.if-is_displayed.true))
            (omega arith)
            ∙ c.loop-place.invariant.left;
        passed = omega arith;
      }
      | else-is_displayed w ↦ record {
        left =
            ap (λ n. drop n (filter shown (drop (place + 1) xs))) w.before-is
            ∙ ap (drop c.loop-place.before)
            (sym (hidden-next shown xs place x c.loop-place-test.true c.index-accounts-place.is
            (sym c.is_displayed.ensures ∙ w.if-is_displayed.false)))
            ∙ c.loop-place.invariant.left;
        passed = omega arith;
      }
    ]
