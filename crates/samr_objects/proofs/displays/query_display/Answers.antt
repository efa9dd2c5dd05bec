-- The page that was filled is the one that the rule plans.
use Rattle.std.proofs.Common.{◌≡◌, drop, Some, sym, ap, ◌∙◌}
use Rattle.std.specs.List.{filter}
use Rattle.acct_calls.specs.declared.replies.Outs.TheVariants as outs
use Rattle.acct_layouts.specs.Values.{display_arm}
use Rattle.acct_tables.specs.Keys.{domain_of}
use Rattle.acct_rules.specs.Asked.{class_of, asked_index}
use Rattle.acct_rules.specs.Pages.{page_status}
use Rattle.acct_rules.specs.Planned.{answers, decision}
use Rattle.samr_objects.specs.Enumerations.{is_displayed, displays}
use Rattle.samr_objects.proofs.Displaying.{Ends, fills}
use Rattle.samr_objects.proofs.displays.query_display.Goals as goal

pub returns-clause-decided : goal.returns-clause-decided
returns-clause-decided c =
    let r = c.args.rows.now.lists in
    let asked = c.args.args.now in
    let arm = c.in-Some.arm in
    let number = c.domain-number.result in
    let left = filter (is_displayed arm number) c.accounts_behind-accounts.result.now in
    let new = c.give_accounts.new.page in
    let total = c.total_cost.result in
    let more = c.in_ok-more.more in
    let of-class : display_arm (class_of asked) ≡ Some arm =
    ap display_arm (sym c.class_of-class.ensures) ∙ sym c.display_arm.ensures ∙ c.in-Some.is in
    let behind : left ≡ drop (asked_index asked) (filter (is_displayed arm (domain_of c.args.domain)) r.accounts) =
    c.accounts_behind-accounts.ensures.left
    ∙ ap (λ n. drop n (filter (is_displayed arm number) c.accounts.result.now)) c.asked_index.ensures
    ∙ ap (λ xs. drop (asked_index asked) (filter (is_displayed arm number) xs)) c.accounts.ensures.all
    ∙ ap (λ n. drop (asked_index asked) (filter (is_displayed arm n) r.accounts)) c.domain-number.ensures in
    let ends : Ends new c.asked-page.result left more = record {
      given = c.in_ok-more.ensures.given;
      returned = c.in_ok-more.ensures.returned;
      more = c.in_ok-more.ensures.more;
    } in
    c.answers.ensures
    ∙ ap (λ s. answers s (outs.Display c.class_of-class.result total new.returned new.entries)) c.page_status.ensures
    ∙ ap (λ class. answers (page_status more) (outs.Display class total new.returned new.entries))
    c.class_of-class.ensures
    ∙ fills r (domain_of c.args.domain) asked arm left c.asked-page.result new total more behind
    c.asked-page.ensures.entries c.asked-page.ensures.room c.asked-page.ensures.place c.asked-page.ensures.count
    c.asked-page.ensures.returned ends c.total_cost.ensures
    ∙ ap (λ o. decision (displays o r (domain_of c.args.domain) asked)) (sym of-class)
