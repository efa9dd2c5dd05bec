-- Where no box or no lock is made no door is served; else what the workers left is what stands once the lock is closed.
use Rattle.std.proofs.Common.{◌≡◌, ap, sym, ◌∙◌, subst}
use Rattle.door_workers.specs.steps.Hiring.{WorksDoors}
use Rattle.door_workers.specs.steps.Passing.{start_under}
use Rattle.door_workers.proofs.Closed.{all-served}
use Rattle.door_workers.proofs.Joined.{none-served}
use Rattle.door_workers.proofs.serving.serve_doors.Goals as goal

pub returns-in-Err-clause-served : goal.returns-in-Err-clause-served
returns-in-Err-clause-served g c =
    let a = c.args in
    let left = c.not_served in
    let same = left.ensures.0 ∙ c.in-Err.ensures.value_returned in
    none-served g.D.Door g.D.L.Link.told a.machine.past.start a.max_read a.doors.now.items
    left.result.machine.past.history left.result.outcome left.result.ends.items
    (ap (λ m. m.past.history) same ∙ c.requires.new) left.ensures.1 left.ensures.2

pub returns-in-Err-new-clause-served : goal.returns-in-Err-new-clause-served
returns-in-Err-new-clause-served g c =
    let a = c.args in
    let left = c.not_served-in-Err-new in
    let same = left.ensures.0 ∙ c.into_inner.ensures ∙ ap (λ l. l.machine.value) c.in-Err-new.ensures.err
    ∙ c.in-Ok.ensures.ok in
    none-served g.D.Door g.D.L.Link.told a.machine.past.start a.max_read a.doors.now.items
    left.result.machine.past.history left.result.outcome left.result.ends.items
    (ap (λ m. m.past.history) same ∙ c.requires.new) left.ensures.1 left.ensures.2

pub returns-clause-served : goal.returns-clause-served
returns-clause-served g c =
    let a = c.args in
    let door = g.D.Door in
    let told = g.D.L.Link.told in
    let lock = c.in-Ok-new.made.0 in
    let v = c.work_doors-sum.new.first.seat.me.0 in
    let now = c.work_doors-sum.new.doors.items in
    let sum = c.work_doors-sum.result in
    let same : start_under lock ≡ a.machine.past.start =
    ap (λ s. s.machine.value.past.start) c.in-Ok-new.ensures.value ∙ ap (λ m. m.past.start) c.in-Ok.ensures.ok in
    all-served door told lock a.machine.past.start a.max_read v c.close.result.machine.past a.doors.now.items now
    c.close.result.outcome c.close.result.ends.items same c.links_are_joined.ensures.all c.close.ensures.closes
    (subst (λ o. WorksDoors door told (start_under lock) a.max_read v a.doors.now.items now o
    c.close.result.ends.items) (sym c.close.ensures.sum.0)
    (subst (λ es. WorksDoors door told (start_under lock) a.max_read v a.doors.now.items now sum.outcome es.items)
    (sym c.close.ensures.sum.1) c.work_doors-sum.ensures.works))
