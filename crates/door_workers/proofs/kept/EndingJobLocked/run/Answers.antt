-- The job of an end does to the history what the machine does at the end of that connection.
use Rattle.std.proofs.Common.{ap, subst}
use Rattle.acct_machine.specs.Shown.{Shown, Past}
use Rattle.link_sessions.specs.Turns.{MachineEnds}
use Rattle.door_workers.proofs.Doing.{ending-does}
use Rattle.door_workers.proofs.kept.EndingJobLocked.run.Goals as goal

pub returns-clause-does : goal.returns-clause-does
returns-clause-does g c =
    let e = c.gone.ensures in
    let left = c.gone.new.self.past in
    subst (λ (p : Past). MachineEnds p.start c.args.self.conn p.history left.history)
    (ap (λ (m : Shown). m.past) c.deref_mut.ensures.value)
    (ending-does c.deref_mut.result.now.past left c.args.self.conn e.ends e.live e.calls e.legal)
