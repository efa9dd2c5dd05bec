-- Rows that ascend are in their places.
use Rattle.std.proofs.Common.{ap}
use Rattle.acct_tables.proofs.Each.{each-already}
use Rattle.acct_tables.proofs.unsorted.Unsorted.from_rows.Goals as goal

pub returns : goal.returns
returns g c = ap (λ rows. (rows, 0)) (each-already g.T.Keyed.key_of c.args.rows.items c.requires.ascending)
