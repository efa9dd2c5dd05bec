-- The job of a call does to the history what the machine's call does, and its reply is one for that call.
use Rattle.std.proofs.Common.{ap, subst}
use Rattle.acct_machine.specs.Shown.{Shown, Past}
use Rattle.link_sessions.specs.Turns.{MachineActs}
use Rattle.door_workers.proofs.Doing.{acting-does}
use Rattle.door_workers.proofs.kept.CallingJobLocked.run.Goals as goal

pub returns-clause-does : goal.returns-clause-does
returns-clause-does g c =
    let job = c.args.self in
    let e = c.act-acted.ensures in
    let left = c.act-acted.new.self.past in (
      subst (λ (p : Past). MachineActs p.start job.conn job.call job.bytes c.act-acted.result p.history left.history)
          (ap (λ (m : Shown). m.past) c.deref_mut.ensures.value)
          (acting-does c.deref_mut.result.now.past left job.conn job.call job.bytes c.act-acted.result e.acts e.live
          e.calls e.legal),
      e.shaped,
    )
