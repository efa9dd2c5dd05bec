-- The context after a page is a number of 32 bits.
use Rattle.std.proofs.Common.{arith}
use Rattle.lsad_rights.proofs.Listing.{given-few}
use Rattle.lsad_rights.proofs.listings.list_accounts.Goals as goal

pub overflow_cast-page : goal.overflow_cast-page
overflow_cast-page c =
    let few = given-few c.asked_context-before.result c.asked_length.result c.args.rows.now.lists.lsa
    c.accounts_left.result.now c.preferred.result c.new.result c.give_accounts.new.page.sids
    c.as_slice-given.result.now
    c.accounts_left.ensures c.new.ensures c.preferred.ensures c.in-Ok.ensures.given c.as_slice-given.ensures in
    let most = c.has_few_rows.ensures.lsa in
    omega arith

pub overflow_add-page : goal.overflow_add-page
overflow_add-page c =
    let few = given-few c.asked_context-before.result c.asked_length.result c.args.rows.now.lists.lsa
    c.accounts_left.result.now c.preferred.result c.new.result c.give_accounts.new.page.sids
    c.as_slice-given.result.now
    c.accounts_left.ensures c.new.ensures c.preferred.ensures c.in-Ok.ensures.given c.as_slice-given.ensures in
    let most = c.has_few_rows.ensures.lsa in
    let fits = c.asked_context-before.type_inv in
    omega arith
