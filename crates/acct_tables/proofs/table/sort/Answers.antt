-- The order that `sort` compares by is that of the keys, which is total, so the values are left sorted by their keys.
use Rattle.std.proofs.Common.{rules}
use Rattle.std.proofs.lemmas.List.Sorted.{ranks_by, answers_always}
use Rattle.acct_tables.proofs.Orders.{total}
use Rattle.acct_tables.proofs.table.sort.Goals as goal

pub returns-clause-sorted : goal.returns-clause-sorted
returns-clause-sorted g c =
    c.sort_unstable_by.ensures.sorted _ (ranks_by total g.O.Order.key_of)
    (answers_always _ _ _ (λ f a r f' k. search rules))
