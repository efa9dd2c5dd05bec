-- The job at the place is the first that is left after those before it.
use Rattle.account_hooks.proofs.InMemory.{next-at}
use Rattle.account_hooks.proofs.memory_gate.copy_at.Goals as goal

pub returns-in-Ok : goal.returns-in-Ok
returns-in-Ok c =
    next-at c.args.jobs.now c.args.place c.in-Some.job.now c.in-Ok.copy c.in-Some.ensures.lookup.3.0
    c.in-Some.ensures.lookup.1 c.in-Ok.ensures
