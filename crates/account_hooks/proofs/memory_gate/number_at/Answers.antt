-- The number of the job at the place.
use Rattle.account_hooks.proofs.InMemory.{number-at, number-past}
use Rattle.account_hooks.proofs.memory_gate.number_at.Goals as goal

pub returns-in-Some-clause-number : goal.returns-in-Some-clause-number
returns-in-Some-clause-number c =
    number-at c.args.jobs.now c.args.place c.in-Some.job.now c.in-Some.ensures.lookup.3.0 c.in-Some.ensures.lookup.1

pub returns-in-None-clause-number : goal.returns-in-None-clause-number
returns-in-None-clause-number c = number-past c.args.jobs.now c.args.place c.in-None.ensures.lookup.3
