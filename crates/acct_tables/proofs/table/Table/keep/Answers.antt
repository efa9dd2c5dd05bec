-- The values that pass a test still ascend by their keys.
use Rattle.acct_tables.proofs.Ascending.{is_ascending-filter}
use Rattle.acct_tables.proofs.table.Table.keep.Goals as goal

pub invariant_of-self : goal.invariant_of-self
invariant_of-self g c = rw c.keep.ensures.values (is_ascending-filter g.O.Order.key_of _ _ c.self.invariant)
