-- A page goes on with an account that it takes, and ends at one that it doesn't.
use Rattle.std.proofs.Common.{sym, ◌∙◌, arith}
use Rattle.samr_objects.specs.Enumerations.{is_displayed}
use Rattle.samr_objects.proofs.Displaying.{begins, has-place, gives, stops, passes, ends-behind}
use Rattle.samr_objects.proofs.displays.give_accounts.Goals as goal
use Rattle.samr_objects.proofs.displays.give_accounts.Goals.{else-is_displayed-via-else-is_displayed}
use Rattle.samr_objects.proofs.displays.give_accounts.Goals.{else-is_displayed-via-then-is_displayed+in_ok-give+else-not-branch}

pub loop-account-init : goal.loop-account-init
loop-account-init c =
    begins (is_displayed c.args.arm c.args.domain) c.args.page.now c.args.accounts.now c.requires.places c.requires.room
    (omega arith)

pub give-requires-clause-place : goal.give-requires-clause-place
give-requires-clause-place c =
    has-place (is_displayed c.args.arm c.args.domain) c.args.accounts.now c.loop-account.account-index c.account-item.result
    c.loop-account.page c.args.page.now
    c.loop-account-test.true c.account-item.is (sym c.is_displayed.ensures ∙ c.if-is_displayed.true)
    c.loop-account.invariant

pub returns-then-not-branch-clause-given : goal.returns-then-not-branch-clause-given
returns-then-not-branch-clause-given c =
    (stops (is_displayed c.args.arm c.args.domain) c.args.accounts.now c.loop-account.account-index c.account-item.result
    c.loop-account.page c.args.page.now c.give.new.self c.in_ok-give.field-0 c.loop-account-test.true
    c.account-item.is (sym c.is_displayed.ensures ∙ c.if-is_displayed.true) c.in_ok-give.ensures.given
    c.if-not-branch.true c.in_ok-give.ensures.page c.loop-account.invariant).given

pub returns-then-not-branch-clause-returned : goal.returns-then-not-branch-clause-returned
returns-then-not-branch-clause-returned c =
    (stops (is_displayed c.args.arm c.args.domain) c.args.accounts.now c.loop-account.account-index c.account-item.result
    c.loop-account.page c.args.page.now c.give.new.self c.in_ok-give.field-0 c.loop-account-test.true
    c.account-item.is (sym c.is_displayed.ensures ∙ c.if-is_displayed.true) c.in_ok-give.ensures.given
    c.if-not-branch.true c.in_ok-give.ensures.page c.loop-account.invariant).returned

pub returns-then-not-branch-clause-more : goal.returns-then-not-branch-clause-more
returns-then-not-branch-clause-more c =
    (stops (is_displayed c.args.arm c.args.domain) c.args.accounts.now c.loop-account.account-index c.account-item.result
    c.loop-account.page c.args.page.now c.give.new.self c.in_ok-give.field-0 c.loop-account-test.true
    c.account-item.is (sym c.is_displayed.ensures ∙ c.if-is_displayed.true) c.in_ok-give.ensures.given
    c.if-not-branch.true c.in_ok-give.ensures.page c.loop-account.invariant).more

pub loop-account-preserved : goal.loop-account-preserved
loop-account-preserved c =
    elim c.else-is_displayed.branch [
      | else-is_displayed-via-then-is_displayed+in_ok-give+else-not-branch w ↦
          gives (is_displayed c.args.arm c.args.domain) c.args.accounts.now c.loop-account.account-index c.account-item.result
          c.loop-account.page c.args.page.now
          c.else-is_displayed.page w.in_ok-give.field-0 c.loop-account-test.true c.account-item.is
          (sym c.is_displayed.ensures ∙ w.if-is_displayed.true) w.in_ok-give.ensures.given w.if-not-branch.false
          (w.page-is ∙ w.in_ok-give.ensures.page) c.loop-account.invariant
      | else-is_displayed-via-else-is_displayed w ↦
          passes (is_displayed c.args.arm c.args.domain) c.args.accounts.now c.loop-account.account-index c.account-item.result
          c.loop-account.page c.args.page.now
          c.else-is_displayed.page c.loop-account-test.true c.account-item.is
          (sym c.is_displayed.ensures ∙ w.if-is_displayed.false) w.page-is c.loop-account.invariant
    ]

pub returns-clause-given : goal.returns-clause-given
returns-clause-given c =
    (ends-behind (is_displayed c.args.arm c.args.domain) c.args.accounts.now c.loop-account.account-index
    c.loop-account.page c.args.page.now c.loop-account-test.false c.loop-account.invariant).given

pub returns-clause-returned : goal.returns-clause-returned
returns-clause-returned c =
    (ends-behind (is_displayed c.args.arm c.args.domain) c.args.accounts.now c.loop-account.account-index
    c.loop-account.page c.args.page.now c.loop-account-test.false c.loop-account.invariant).returned

pub returns-clause-more : goal.returns-clause-more
returns-clause-more c =
    (ends-behind (is_displayed c.args.arm c.args.domain) c.args.accounts.now c.loop-account.account-index
    c.loop-account.page c.args.page.now c.loop-account-test.false c.loop-account.invariant).more
