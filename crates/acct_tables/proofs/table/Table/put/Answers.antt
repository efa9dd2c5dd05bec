-- With one value more, put in its place, the values of the table still ascend by their keys.
use Rattle.acct_tables.proofs.Ascending.{is_ascending-put}
use Rattle.acct_tables.proofs.table.Table.put.Goals as goal

pub invariant_of-self : goal.invariant_of-self
invariant_of-self g c = rw c.put.ensures.values (is_ascending-put g.O.Order.key_of c.args.value _ c.self.invariant)
