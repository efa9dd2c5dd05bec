-- Each call that some served stub spells has its operation in the table.
use Rattle.acct_operations.proofs.Served.{calls-built}
use Rattle.acct_operations.proofs.laws.calls_have_operations.Goals as goal

pub returns : goal.returns
returns c = calls-built
