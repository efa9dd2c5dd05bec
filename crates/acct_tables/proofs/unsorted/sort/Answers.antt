-- The order that `sort` compares by is that of the keys, which is total, so rows with one key stay in their order.
use Rattle.std.proofs.Common.{rules}
use Rattle.std.proofs.lemmas.List.Sorted.{ranks_by, answers_always}
use Rattle.acct_tables.proofs.Orders.{total}
use Rattle.acct_tables.proofs.unsorted.sort.Goals as goal

pub returns : goal.returns
returns g c =
    c.sort_by.ensures.stable _ (ranks_by total g.T.Keyed.key_of)
    (answers_always _ _ _ (λ f a r f' k. search rules))
