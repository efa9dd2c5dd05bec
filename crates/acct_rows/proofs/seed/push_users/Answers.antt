-- `push_users` meets its contract: what is pushed are the users one by one.
use Rattle.std.proofs.Common.{arith}
use Rattle.std.proofs.lemmas.Grind.{common_steps}
use Rattle.acct_rows.proofs.seed.push_users.Goals as goal

pub returns : goal.returns
returns c = grind (arith, common_steps)
