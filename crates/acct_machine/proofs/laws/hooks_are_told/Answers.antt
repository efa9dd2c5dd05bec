-- By the outbox' rows of a history.
use Rattle.acct_machine.proofs.Gating.{hooks-are-told}
use Rattle.acct_machine.proofs.laws.hooks_are_told.Goals as goal

pub returns : goal.returns
returns c = hooks-are-told c.jobs_are_left.ensures c.outs_are_left.ensures.grow
