-- The job of taking a change out does what the machine does, and appends an entry of the home lane or none.
use Rattle.std.proofs.Common.{◌≤◌, ap, sym, subst}
use Rattle.hist_lock.specs.Histories.{Appends}
use Rattle.hist_lock.specs.Lanes.{names_home}
use Rattle.acct_machine.specs.Gates.{IsGood}
use Rattle.acct_machine.specs.Shown.{Shown, Past}
use Rattle.door_workers.specs.Hooking.{MachineHooks}
use Rattle.door_workers.specs.steps.Lanes.{lane_of}
use Rattle.door_workers.proofs.Homes.{hooking-appends, hooking-does}
use Rattle.door_workers.proofs.kept.HookingJobLocked.run.Goals as goal

pub returns-clause-appends : goal.returns-clause-appends
returns-clause-appends g c =
    let left = c.hooked-answer.new.self.past in
    subst (λ (p : Past). Appends lane_of names_home p.history left.history)
    (ap (λ (m : Shown). m.past) c.deref_mut.ensures.value)
    (hooking-appends c.deref_mut.result.now.past left c.hooked-answer.result c.args.self.number
    c.hooked-answer.ensures.hooks)

pub returns-clause-does : goal.returns-clause-does
returns-clause-does g c =
    let m = c.deref_mut.result.now in
    let n = c.hooked-answer.new.self in
    let e = c.hooked-answer.ensures in
    let same = c.deref_mut.ensures.value in
    subst (λ (p : Past). MachineHooks p.start c.args.self.number c.hooked-answer.result p.history n.past.history)
    (ap (λ (m : Shown). m.past) same)
    (hooking-does m.past n.past m.keeper n.keeper c.hooked-answer.result c.args.self.number
    (subst (λ (m : Shown). IsGood m.past) (sym same) c.is_good.ensures.good) e.start e.hooks e.legal
    c.is_short.ensures
    (subst (λ (m : Shown). m.past.start.faults ≤ m.keeper.faults) (sym same) c.is_good.ensures.later) e.keeper)
