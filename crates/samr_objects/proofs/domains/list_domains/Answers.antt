-- The context after a page is a number of 32 bits.
use Rattle.std.proofs.Common.{arith}
use Rattle.samr_objects.proofs.Paging.{given-few}
use Rattle.samr_objects.proofs.domains.list_domains.Goals as goal

pub overflow_cast-page : goal.overflow_cast-page
overflow_cast-page c =
    let few = given-few c.asked_context-context.result c.asked_length.result c.args.rows.now.lists.domains
    c.domains_left.result.now c.new-page.result.room c.new-page.result.entries c.give_domains.new.page.entries
    c.as_slice-given.result.now
    c.domains_left.ensures c.new-page.ensures.entries c.new-page.ensures.room c.in_ok-more.ensures.given
    c.as_slice-given.ensures in
    let most = c.has_few_rows.ensures.domains in
    omega arith

pub overflow_add-page : goal.overflow_add-page
overflow_add-page c =
    let few = given-few c.asked_context-context.result c.asked_length.result c.args.rows.now.lists.domains
    c.domains_left.result.now c.new-page.result.room c.new-page.result.entries c.give_domains.new.page.entries
    c.as_slice-given.result.now
    c.domains_left.ensures c.new-page.ensures.entries c.new-page.ensures.room c.in_ok-more.ensures.given
    c.as_slice-given.ensures in
    let most = c.has_few_rows.ensures.domains in
    let fits = c.asked_context-context.type_inv in
    omega arith
