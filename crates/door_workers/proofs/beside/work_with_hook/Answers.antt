-- Hired workers have their doors' listeners, each has worked as it was hired, and all are joined in the doors' order;
-- the drains beside them and the last one are those of one call.
use Rattle.std.proofs.Common.{◌≡◌, ◌+◌, ◌<◌, [], refl, sym, ap, ◌∙◌, subst, get_or}
use Rattle.door_workers.specs.steps.Hiring.{HasWorked, WorksDoors}
use Rattle.door_workers.specs.Hooking.{IsAtOutbox}
use Rattle.door_workers.specs.steps.Passing.{start_under}
use Rattle.door_workers.proofs.DoorPlaces.{below}
use Rattle.door_workers.proofs.Emptying.{drained-nomemory, drained-none, idle-knows, taken-joined}
use Rattle.door_workers.proofs.Joined.{none-worked}
use Rattle.door_workers.proofs.beside.work_with_hook.Goals as goal

pub returns-then-is_err-clause-works : goal.returns-then-is_err-clause-works
returns-then-is_err-clause-works g c =
    let a = c.args in
    let start = start_under a.lock.now in
    let v = a.first.seat.me.0 in
    none-worked g.D.Door g.D.L.Link.told start a.max_read v a.doors.now.items c.new.result.items
    (c.links_are_joined.ensures.idle start a.max_read v c.requires.new.0 c.requires.new.1) c.new.ensures.items

pub returns-then-is_err-clause-drains : goal.returns-then-is_err-clause-drains
returns-then-is_err-clause-drains g c =
    let a = c.args in
    drained-nomemory g.P.Spawner a.hook.now (start_under a.lock.now) a.spawner a.first.seat.me.0.known
    c.requires.new.0

pub hire_all-requires-clause-first : goal.hire_all-requires-clause-first
hire_all-requires-clause-first g c =
    let ready = c.requires.ready in (
      record {
        pass_of = ready.pass_of;
        first = ready.knows.first;
        known = c.requires.new.0;
        own = c.requires.new.1;
      },
      c.requires.made.0,
      c.requires.made.1,
    )

pub work_beside-drainer-requires-clause-ready : goal.work_beside-drainer-requires-clause-ready
work_beside-drainer-requires-clause-ready g c = λ lives outlive.
    let a = c.args in
    let idle = c.hire_all.ensures.first.0 in
    let ready : IsAtOutbox a.lock.now c.hire_all.new.first = record {
      pass_of = idle.pass_of;
      knows = idle-knows (start_under a.lock.now) a.first.seat.me.0 c.hire_all.new.first.seat.me.0
          c.requires.ready.knows (idle.known ∙ sym c.requires.new.0) (idle.own ∙ sym c.requires.new.1) idle.first;
    } in
    ready

pub take_back-requires-clause-links : goal.take_back-requires-clause-links
take_back-requires-clause-links g c =
    let a = c.args in
    let start = start_under a.lock.now in
    let idle = c.hire_all.ensures.first.0 in
    let v = c.hire_all.new.first.seat.me.0 in
    let beside = c.work_beside-drainer in
    taken-joined g.D.L.Link.told start a.max_read v beside.result.0.gate.pass.seat.me.0 []
    (c.links_are_joined.ensures.idle start a.max_read v idle.known idle.own) beside.ensures.takes
    beside.ensures.ready.knows

pub take_back-requires-clause-made : goal.take_back-requires-clause-made
take_back-requires-clause-made g c =
    let same = c.work_beside-drainer.ensures.takes.same in (
      same.joined ∙ c.hire_all.ensures.first.1,
      same.made ∙ c.hire_all.ensures.made ∙ sym c.work_beside-drainer.ensures.count,
    )

pub take_back-requires-clause-places : goal.take_back-requires-clause-places
take_back-requires-clause-places g c = λ i d lt.
    let worked = c.work_beside-drainer.ensures in
    let within : i < c.hire_all.new.workers.len = below i _ _ worked.count lt in
    let hired = c.hire_all.ensures.doors i d d.worker.door within in
    subst (λ n. n + i + 1 ≡ c.work_beside-drainer.result.1.len) (sym (worked.place i d within))
    (hired.0 ∙ sym c.hire_all.ensures.count ∙ sym worked.count)

pub take_back-requires-clause-worked : goal.take_back-requires-clause-worked
take_back-requires-clause-worked g c = λ i d lt.
    let a = c.args in
    let worked = c.work_beside-drainer.ensures in
    let within : i < c.hire_all.new.workers.len = below i _ _ worked.count lt in
    let given = c.of-given.result.value.items in
    let h = get_or c.work_beside-drainer.result.1.items i d in
    let before : (get_or c.hire_all.new.workers.items i d).worker.door ≡ get_or given h.worker.place h.worker.door =
    (c.hire_all.ensures.doors i d h.worker.door within).1
    ∙ ap (λ n. get_or a.doors.now.items n h.worker.door) (sym (worked.place i d within))
    ∙ ap (λ v. get_or v.items h.worker.place h.worker.door) (sym c.of-given.ensures) in
    subst (λ b. HasWorked g.D.Door g.D.L.Link.told a.lock.now a.max_read h.worker.place h.worker.gate.pass h.end b
    h.worker.door h.worker.ends.items) before (worked.worked i d within)

pub returns-clause-works : goal.returns-clause-works
returns-clause-works g c =
    let a = c.args in
    let back = c.take_back in
    subst (λ (v : _). WorksDoors g.D.Door g.D.L.Link.told (start_under a.lock.now) a.max_read
    back.result.1.pass.seat.me.0 v.items back.new.doors.items back.result.0.outcome back.result.0.ends.items)
    c.of-given.ensures back.ensures.works

pub returns-clause-drains : goal.returns-clause-drains
returns-clause-drains g c =
    let a = c.args in
    c.take_back.ensures.drains a.spawner (c.work_beside-drainer.ensures.drains a.spawner
    (drained-none g.P.Spawner a.hook.now (start_under a.lock.now) a.spawner c.hire_all.new.first.seat.me.0.known
    c.hire_all.ensures.first.0.known))
