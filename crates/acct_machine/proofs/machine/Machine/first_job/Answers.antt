-- The first row of the outbox is the next job, and where there is none no job is left.
use Rattle.std.proofs.Common.{refl, sym, ap, ◌∙◌}
use Rattle.acct_rows.specs.Rows.{Lists}
use Rattle.acct_machine.specs.Jobs.{arguments}
use Rattle.acct_machine.proofs.Gating.{next-job, no-job}
use Rattle.acct_machine.proofs.machine.Machine.first_job.Goals as goal

pub returns-in_ok-arguments-in-Some : goal.returns-in_ok-arguments-in-Some
returns-in_ok-arguments-in-Some g c =
    next-job c.jobs_are_left.ensures c.args.self.now.past c.requires.good c.in-Some.row.now _ (sym c.in-Some.ensures)
    refl
    (c.in_ok-arguments-in-Some.ensures ∙ ap (λ (r : Lists). arguments r c.in-Some.row.now) c.opening_rows.ensures.all)

pub returns-in-None : goal.returns-in-None
returns-in-None g c = no-job c.jobs_are_left.ensures c.args.self.now.past c.requires.good (sym c.in-None.ensures)
