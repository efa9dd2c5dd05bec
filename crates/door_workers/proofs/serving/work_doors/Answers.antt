-- Hired workers have their doors' listeners, each has worked as it was hired, and all are joined in the doors' order.
use Rattle.std.proofs.Common.{◌≡◌, ◌+◌, ◌<◌, length, sym, ap, ◌∙◌, subst, get_or}
use Rattle.door_workers.specs.steps.Passing.{start_under}
use Rattle.door_workers.specs.steps.Hiring.{HasWorked, AreJoined}
use Rattle.door_workers.proofs.Joined.{none-worked, all-joined}
use Rattle.door_workers.proofs.DoorPlaces.{below}
use Rattle.door_workers.proofs.serving.work_doors.Goals as goal

pub returns-then-is_err-clause-works : goal.returns-then-is_err-clause-works
returns-then-is_err-clause-works g c =
    let a = c.args in
    let start = start_under a.lock.now in
    let v = a.first.now.seat.me.0 in
    let idle = c.requires.first.0 in
    none-worked g.D.Door g.D.L.Link.told start a.max_read v a.doors.now.items c.new.result.items
    (c.links_are_joined.ensures.idle start a.max_read v idle.known idle.own) c.new.ensures.items

pub join_all-sum-requires-clause-links : goal.join_all-sum-requires-clause-links
join_all-sum-requires-clause-links g c =
    let a = c.args in
    let idle = c.hire_all.ensures.first.0 in
    c.links_are_joined.ensures.idle (start_under a.lock.now) a.max_read c.hire_all.new.first.seat.me.0 idle.known
    idle.own

pub join_all-sum-requires-clause-places : goal.join_all-sum-requires-clause-places
join_all-sum-requires-clause-places g c = λ i d lt.
    let worked = c.all_worked-workers.ensures in
    let within : i < c.hire_all.new.workers.len = below i _ _ worked.count lt in
    let hired = c.hire_all.ensures.doors i d d.worker.door within in
    subst (λ n. n + i + 1 ≡ c.all_worked-workers.result.len) (sym (worked.place i d within))
    (hired.0 ∙ sym c.hire_all.ensures.count ∙ sym worked.count)

pub join_all-sum-requires-clause-worked : goal.join_all-sum-requires-clause-worked
join_all-sum-requires-clause-worked g c = λ i d lt.
    let a = c.args in
    let worked = c.all_worked-workers.ensures in
    let within : i < c.hire_all.new.workers.len = below i _ _ worked.count lt in
    let given = c.of-given.result.value.items in
    let h = get_or c.all_worked-workers.result.items i d in
    let before : (get_or c.hire_all.new.workers.items i d).worker.door ≡ get_or given h.worker.place h.worker.door =
    (c.hire_all.ensures.doors i d h.worker.door within).1
    ∙ ap (λ n. get_or a.doors.now.items n h.worker.door) (sym (worked.place i d within))
    ∙ ap (λ v. get_or v.items h.worker.place h.worker.door) (sym c.of-given.ensures) in
    subst (λ b. HasWorked g.D.Door g.D.L.Link.told a.lock.now a.max_read h.worker.place h.worker.gate.pass h.end b
    h.worker.door h.worker.ends.items) before (worked.worked i d within)

pub returns-clause-works : goal.returns-clause-works
returns-clause-works g c =
    let a = c.args in
    let start = start_under a.lock.now in
    let joined = c.join_all-sum in
    let now = joined.new.doors in
    let count : length now.items ≡ length a.doors.now.items =
    sym now.ok.0 ∙ joined.ensures.doors ∙ c.all_worked-workers.ensures.count ∙ c.hire_all.ensures.count
    ∙ a.doors.now.ok.0 in
    all-joined g.D.Door g.D.L.Link.told start a.max_read joined.new.first.seat.me.0 a.doors.now.items now.items
    joined.result.outcome c.sort.new.self.outcome joined.result.ends.items c.sort.new.self.ends.items
    (subst (λ (v : _). AreJoined g.D.Door g.D.L.Link.told start a.max_read joined.new.first.seat.me.0 v.items now.items
    joined.result.outcome joined.result.ends.items) c.of-given.ensures joined.ensures.all) count c.sort.ensures.outcome
    c.sort.ensures.none c.sort.ensures.all
