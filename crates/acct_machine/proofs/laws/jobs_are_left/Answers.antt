-- By the outbox' rows of a history.
use Rattle.acct_machine.proofs.Gating.{jobs-are-left}
use Rattle.acct_machine.proofs.laws.jobs_are_left.Goals as goal

pub returns : goal.returns
returns c = jobs-are-left c.outs_are_left.ensures.left
