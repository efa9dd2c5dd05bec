-- `Store::account` meets its contract: the rows are those that are loaded of the pairs.
use Rattle.std.proofs.Common.{sym, ap, ◌∙◌, arith}
use Rattle.acct_rows.specs.PairRules.{account_in}
use Rattle.acct_rows.proofs.pairs.store.Store.account.Goals as goal

pub returns : goal.returns
returns c =
    let pairs = c.self.inside.pairs.now in
    let lists = c.self.inside.rows.now.lists in
    c.find_rid.ensures
    ∙ sym (c.loaded_rows_are_found.ensures.accounts pairs lists c.args.domain c.args.rid c.self.invariant (omega arith))
    ∙ ap (λ ps. account_in ps c.args.domain c.args.rid) c.self.view_is
