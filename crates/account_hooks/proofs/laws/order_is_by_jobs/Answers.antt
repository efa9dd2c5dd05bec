-- Job by job.
use Rattle.account_hooks.proofs.Made.{made}
use Rattle.account_hooks.proofs.laws.order_is_by_jobs.Goals as goal

pub returns : goal.returns
returns c = λ jobs program tries runs order. made program tries jobs runs order
