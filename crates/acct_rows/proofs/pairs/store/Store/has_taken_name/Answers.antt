-- `Store::has_taken_name` meets its contract: the rows are those that are loaded of the pairs.
use Rattle.std.proofs.Common.{sym, ap, ◌∙◌}
use Rattle.acct_rows.specs.Loading.{is_smaller}
use Rattle.acct_rows.specs.PairRules.{has_taken_name}
use Rattle.acct_tables.specs.declared.row.Row.TheVariants as rows
use Rattle.acct_rows.proofs.pairs.store.Store.has_taken_name.Goals as goal

pub returns : goal.returns
returns c =
    let pairs = c.self.inside.pairs.now in
    let lists = c.self.inside.rows.now.lists in
    let a = c.args.account.now in
    c.is_smaller.ensures ∙ ap (is_smaller a.rid) c.find_name-found.ensures
    ∙ sym (c.loaded_rows_are_found.ensures.names pairs lists a c.self.invariant)
    ∙ ap (λ ps. has_taken_name ps (rows.Account a)) c.self.view_is
