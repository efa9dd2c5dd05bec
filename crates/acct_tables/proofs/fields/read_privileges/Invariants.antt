-- The privileges read so far, with those that the bytes left give, are what reading all of them gives.
use Rattle.acct_tables.specs.Stored.{held_at}
use Rattle.acct_base.proofs.Many.{SoFar}
use Rattle.acct_tables.proofs.fields.read_privileges.Given as goal

abbrev pub invariant-loop : goal.invariant-loop
invariant-loop l = SoFar held_at l.privileges l.count l.counter l.fn.fields l.fields
