-- Where no box or no lock is made no door is served and nothing is run; else what the workers left is what stands once
-- the lock is closed, whose history is what the first pass knows.
use Rattle.std.proofs.Common.{◌≡◌, Some, List, true, sym, ap, ◌∙◌, subst}
use Rattle.acct_machine.specs.Outbox.{has_hook}
use Rattle.acct_machine.specs.declared.entry.Entry.{Entry}
use Rattle.door_workers.specs.steps.Hiring.{WorksDoors}
use Rattle.door_workers.specs.Hooking.{IsAtOutbox, HasDrained}
use Rattle.door_workers.specs.steps.Passing.{start_under}
use Rattle.door_workers.proofs.Closed.{all-served, known-whole}
use Rattle.door_workers.proofs.Emptying.{begun-knows, drained-as, drained-nomemory}
use Rattle.door_workers.proofs.Joined.{none-served}
use Rattle.door_workers.proofs.beside.serve_doors_with_hook.Goals as goal

pub returns-in-Err-clause-served : goal.returns-in-Err-clause-served
returns-in-Err-clause-served g c =
    let a = c.args in
    let left = c.not_served in
    let same = left.ensures.0 ∙ c.in-Err.ensures.value_returned in
    none-served g.D.Door g.D.L.Link.told a.machine.past.start a.max_read a.doors.now.items
    left.result.machine.past.history left.result.outcome left.result.ends.items
    (ap (λ m. m.past.history) same ∙ c.requires.new) left.ensures.1 left.ensures.2

pub returns-in-Err-clause-drains : goal.returns-in-Err-clause-drains
returns-in-Err-clause-drains g c =
    let a = c.args in
    let left = c.not_served in
    let same = left.ensures.0 ∙ c.in-Err.ensures.value_returned in
    drained-nomemory g.P.Spawner a.hook.now a.machine.past.start a.spawner left.result.machine.past.history
    (ap (λ m. m.past.history) same ∙ c.requires.new)

pub returns-in-Err-new-clause-served : goal.returns-in-Err-new-clause-served
returns-in-Err-new-clause-served g c =
    let a = c.args in
    let left = c.not_served-in-Err-new in
    let same = left.ensures.0 ∙ c.into_inner.ensures ∙ ap (λ l. l.machine.value) c.in-Err-new.ensures.err
    ∙ c.in-Ok.ensures.ok in
    none-served g.D.Door g.D.L.Link.told a.machine.past.start a.max_read a.doors.now.items
    left.result.machine.past.history left.result.outcome left.result.ends.items
    (ap (λ m. m.past.history) same ∙ c.requires.new) left.ensures.1 left.ensures.2

pub returns-in-Err-new-clause-drains : goal.returns-in-Err-new-clause-drains
returns-in-Err-new-clause-drains g c =
    let a = c.args in
    let left = c.not_served-in-Err-new in
    let same = left.ensures.0 ∙ c.into_inner.ensures ∙ ap (λ l. l.machine.value) c.in-Err-new.ensures.err
    ∙ c.in-Ok.ensures.ok in
    drained-nomemory g.P.Spawner a.hook.now a.machine.past.start a.spawner left.result.machine.past.history
    (ap (λ m. m.past.history) same ∙ c.requires.new)

pub work_with_hook-sum-requires-clause-ready : goal.work_with_hook-sum-requires-clause-ready
work_with_hook-sum-requires-clause-ready g c = λ lives outlive.
    let e = c.in-Ok-new.ensures in
    let lock = c.in-Ok-new.made.0 in
    let ready : IsAtOutbox lock c.in-Ok-new.made.1 = record {
      pass_of = e.pass;
      knows = begun-knows (start_under lock) c.in-Ok.machine.value.past c.in-Ok-new.made.1.seat.me.0
          (ap (λ s. s.machine.value.past.start) e.value) c.is_good.ensures.good
          (subst (λ m. has_hook m.past.start.config ≡ true) (sym c.in-Ok.ensures.ok) c.requires.hook) e.first.0
          e.nothing_known.0 e.nothing_known.1;
    } in
    ready

pub returns-clause-served : goal.returns-clause-served
returns-clause-served g c =
    let a = c.args in
    let door = g.D.Door in
    let told = g.D.L.Link.told in
    let lock = c.in-Ok-new.made.0 in
    let v = c.work_with_hook-sum.result.1.pass.seat.me.0 in
    let now = c.work_with_hook-sum.new.doors.items in
    let sum = c.work_with_hook-sum.result.0 in
    let same : start_under lock ≡ a.machine.past.start =
    ap (λ s. s.machine.value.past.start) c.in-Ok-new.ensures.value ∙ ap (λ m. m.past.start) c.in-Ok.ensures.ok in
    all-served door told lock a.machine.past.start a.max_read v c.close.result.machine.past a.doors.now.items now
    c.close.result.outcome c.close.result.ends.items same c.links_are_joined.ensures.all c.close.ensures.closes
    (subst (λ o. WorksDoors door told (start_under lock) a.max_read v a.doors.now.items now o
    c.close.result.ends.items) (sym c.close.ensures.sum.0)
    (subst (λ es. WorksDoors door told (start_under lock) a.max_read v a.doors.now.items now sum.outcome es.items)
    (sym c.close.ensures.sum.1) c.work_with_hook-sum.ensures.works))

pub returns-clause-drains : goal.returns-clause-drains
returns-clause-drains g c =
    let a = c.args in
    let lock = c.in-Ok-new.made.0 in
    let done = c.work_with_hook-sum in
    let v = done.result.1.pass.seat.me.0 in
    let past = c.close.result.machine.past in
    let closes = c.close.ensures.closes in
    let same : start_under lock ≡ a.machine.past.start =
    ap (λ s. s.machine.value.past.start) c.in-Ok-new.ensures.value ∙ ap (λ m. m.past.start) c.in-Ok.ensures.ok in
    let whole : past.history ≡ v.known =
    known-whole v past.history closes.known closes.own done.ensures.ready.knows.own in
    drained-as g.P.Spawner a.hook.now (start_under lock) a.machine.past.start same a.spawner done.result.1.spawner
    past.history (Some done.result.1.answer)
    (subst (λ (h : List Entry). HasDrained g.P.Spawner a.hook.now (start_under lock) a.spawner done.result.1.spawner h
    (Some done.result.1.answer)) (sym whole) done.ensures.drains)
