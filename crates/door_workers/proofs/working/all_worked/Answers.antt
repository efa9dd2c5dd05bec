-- The workers of the slice are those of the list.
use Rattle.std.proofs.Common.{◌≡◌, ◌<◌, ◌++◌, length, take, drop, sym, ap, ◌∙◌, subst, get_or}
use Rattle.std.proofs.Math.Seq.{take-append_seam}
use Rattle.door_workers.specs.steps.Hiring.{IsHired, HasWorked}
use Rattle.door_workers.proofs.DoorPlaces.{below}
use Rattle.door_workers.proofs.working.all_worked.Goals as goal

pub work_all-requires-clause-hired : goal.work_all-requires-clause-hired
work_all-requires-clause-hired g c = λ lives outlive i d lt.
    let a = c.args in
    let listener = g.D.Door.listener in
    let value = c.as_mut_slice.ensures.value in
    let same : length c.as_mut_slice.result.now ≡ a.workers.len = c.as_mut_slice.ensures.len in
    subst (λ l. IsHired a.lock.now a.max_read (get_or l i d).worker.gate.lock.now (get_or l i d).worker.gate.pass
    (listener (get_or l i d).worker.door) (get_or l i d).worker.max_read (get_or l i d).worker.ends.items) (sym value)
    (c.requires.hired i d (below i _ _ same lt))

pub returns-clause-place : goal.returns-clause-place
returns-clause-place g c = λ i d lt.
    let now = c.work_all.new.workers in
    let items = c.args.workers.items in
    let value = c.as_mut_slice.ensures.value in
    let same : c.args.workers.len ≡ length now =
    c.args.workers.ok.0 ∙ ap (λ l. length l) (sym value) ∙ sym c.work_all.auto.workers in
    let is : take c.args.workers.len (now ++ drop (length now) items) ≡ now =
    ap (λ n. take n (now ++ drop (length now) items)) same ∙ take-append_seam now (drop (length now) items) in
    let within : i < length c.as_mut_slice.result.now = below i _ _ (sym c.as_mut_slice.ensures.len) lt in
    subst (λ l. (get_or l i d).worker.place ≡ (get_or items i d).worker.place) (sym is)
    (c.work_all.ensures.place i d within ∙ ap (λ l. (get_or l i d).worker.place) value)

pub returns-clause-worked : goal.returns-clause-worked
returns-clause-worked g c = λ i d lt.
    let a = c.args in
    let door = g.D.Door in
    let told = g.D.L.Link.told in
    let now = c.work_all.new.workers in
    let items = a.workers.items in
    let value = c.as_mut_slice.ensures.value in
    let same : a.workers.len ≡ length now =
    a.workers.ok.0 ∙ ap (λ l. length l) (sym value) ∙ sym c.work_all.auto.workers in
    let is : take a.workers.len (now ++ drop (length now) items) ≡ now =
    ap (λ n. take n (now ++ drop (length now) items)) same ∙ take-append_seam now (drop (length now) items) in
    let within : i < length c.as_mut_slice.result.now = below i _ _ (sym c.as_mut_slice.ensures.len) lt in
    let h = get_or now i d in
    subst (λ l. HasWorked door told a.lock.now a.max_read (get_or l i d).worker.place (get_or l i d).worker.gate.pass
    (get_or l i d).end (get_or items i d).worker.door (get_or l i d).worker.door (get_or l i d).worker.ends.items)
    (sym is)
    (subst (λ b. HasWorked door told a.lock.now a.max_read h.worker.place h.worker.gate.pass h.end b h.worker.door
    h.worker.ends.items) (ap (λ l. (get_or l i d).worker.door) value) (c.work_all.ensures.worked i d within))
