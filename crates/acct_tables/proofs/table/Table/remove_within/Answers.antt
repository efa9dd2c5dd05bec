-- Without the values within a prefix the values of the table still ascend by their keys.
use Rattle.acct_tables.proofs.Ascending.{is_ascending-filter}
use Rattle.acct_tables.proofs.table.Table.remove_within.Goals as goal

pub invariant_of-self : goal.invariant_of-self
invariant_of-self g c =
    rw c.remove_within.ensures.values (is_ascending-filter g.O.Order.key_of _ _ c.self.invariant)
