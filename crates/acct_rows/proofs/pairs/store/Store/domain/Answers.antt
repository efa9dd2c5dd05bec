-- `Store::domain` meets its contract: the rows are those that are loaded of the pairs.
use Rattle.std.proofs.Common.{sym, ap, ◌∙◌}
use Rattle.acct_rows.specs.PairRules.{domain_in}
use Rattle.acct_rows.proofs.pairs.store.Store.domain.Goals as goal

pub returns : goal.returns
returns c =
    let pairs = c.self.inside.pairs.now in
    let lists = c.self.inside.rows.now.lists in
    c.domain.ensures ∙ sym (c.loaded_rows_are_found.ensures.domains pairs lists c.args.number c.self.invariant)
    ∙ ap (λ ps. domain_in ps c.args.number) c.self.view_is
