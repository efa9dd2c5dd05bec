-- A look at the outbox gives the machine's first job, and appends nothing.
use Rattle.std.proofs.Common.{◌≡◌, ap, sym, subst, inl, true}
use Rattle.hist_lock.specs.Histories.{Appends}
use Rattle.hist_lock.specs.Lanes.{names_none}
use Rattle.acct_machine.specs.Gates.{IsGood}
use Rattle.acct_machine.specs.Outbox.{has_hook}
use Rattle.acct_machine.specs.Shown.{Shown, Past}
use Rattle.door_workers.specs.Hooking.{MachineLooks}
use Rattle.door_workers.specs.steps.Lanes.{lane_of}
use Rattle.door_workers.proofs.Homes.{looks-same, first-at}
use Rattle.door_workers.proofs.kept.LookingJobLocked.run.Goals as goal

pub first-requires : goal.first-requires
first-requires g c =
    let m = c.deref_mut.result.now.past in
    let same = c.deref_mut.ensures.value in
    let good = subst (λ (m : Shown). IsGood m.past) (sym same) c.is_good.ensures.good in
    record {
      good = good;
      hook = subst (λ (m : Shown). has_hook m.past.start.config ≡ true) (sym same) c.requires;
      in_front = (c.jobs_are_left.ensures m good).in_front;
    }

pub returns-clause-appends : goal.returns-clause-appends
returns-clause-appends g c =
    let m = c.deref_mut.result.now.past in
    let n = c.first.new.self.past in
    let e = c.first.ensures in
    subst (λ (p : Past). Appends lane_of names_none p.history n.history)
    (ap (λ (m : Shown). m.past) c.deref_mut.ensures.value)
    (inl (looks-same c.outs_are_left.ensures.grow m.start m.history n.history e.moves.more e.moves.entries e.gone))

pub returns-clause-does : goal.returns-clause-does
returns-clause-does g c =
    let m = c.deref_mut.result.now.past in
    let n = c.first.new.self.past in
    let e = c.first.ensures in
    let is = c.deref_mut.ensures.value in
    let same = looks-same c.outs_are_left.ensures.grow m.start m.history n.history e.moves.more e.moves.entries
    e.gone in
    subst (λ (p : Past). MachineLooks p.start c.first.result p.history n.history) (ap (λ (m : Shown). m.past) is)
    record {
      same = same;
      good = subst (λ (m : Shown). IsGood m.past) (sym is) c.is_good.ensures.good;
      first = first-at c.first.result m n e.moves.start same e.first;
    }
