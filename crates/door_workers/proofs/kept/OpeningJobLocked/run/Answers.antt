-- The job of an opening does to the history what the machine does, and appends the entry of the opening or none.
use Rattle.std.proofs.Common.{ap, subst}
use Rattle.hist_lock.specs.Lanes.{names_none}
use Rattle.hist_lock.specs.Histories.{Appends}
use Rattle.acct_machine.specs.Shown.{Shown, Past}
use Rattle.link_sessions.specs.Turns.{MachineOpens}
use Rattle.door_workers.specs.steps.Lanes.{lane_of}
use Rattle.door_workers.proofs.Entering.{opening-appends}
use Rattle.door_workers.proofs.Doing.{opening-does}
use Rattle.door_workers.proofs.kept.OpeningJobLocked.run.Goals as goal

pub returns-clause-appends : goal.returns-clause-appends
returns-clause-appends g c =
    let left = c.open_conn.new.self.past in
    subst (λ (p : Past). Appends lane_of names_none p.history left.history)
    (ap (λ (m : Shown). m.past) c.deref_mut.ensures.value)
    (opening-appends c.deref_mut.result.now.past left c.args.self.listener c.open_conn.result c.open_conn.ensures.opens
    c.open_conn.ensures.fresh)

pub returns-clause-does : goal.returns-clause-does
returns-clause-does g c =
    let e = c.open_conn.ensures in
    let left = c.open_conn.new.self.past in
    subst (λ (p : Past). MachineOpens p.start c.args.self.listener c.open_conn.result p.history left.history)
    (ap (λ (m : Shown). m.past) c.deref_mut.ensures.value)
    (opening-does c.deref_mut.result.now.past left c.args.self.listener c.open_conn.result e.opens e.fresh e.live
    e.calls e.legal)
