-- Where the passes are joined no number has left since, and what stands of the links stays so after the last drain.
use Rattle.std.proofs.Common.{◌≡◌, length, sym, ◌∙◌, arith}
use Rattle.door_workers.specs.steps.Passing.{start_under}
use Rattle.door_workers.proofs.Emptying.{drained-grows, knows-joined, works-on}
use Rattle.door_workers.proofs.Joined.{all-joined}
use Rattle.door_workers.proofs.beside.take_back.Goals as goal

pub drain_rest-emptied-requires-clause-ready : goal.drain_rest-emptied-requires-clause-ready
drain_rest-emptied-requires-clause-ready g c =
    let a = c.args in
    let j = c.join_all-sum.ensures in
    record {
      pass_of = j.first.0;
      knows = knows-joined c.jobs_are_left.ensures (start_under a.lock.now) a.drainer.gate.pass.seat.me.0
          c.join_all-sum.new.first.seat.me.0 c.requires.ready.knows j.first.1 j.all.links.legal j.all.links.known;
    }

pub returns-clause-joined : goal.returns-clause-joined
returns-clause-joined g c =
    let j = c.join_all-sum.ensures in
    let same = c.drain_rest-emptied.ensures.takes.same in
    let made = c.requires.made in
    let now = j.made in
    let joined = j.joined in
    let one = same.made in
    let two = same.joined in
    let none = made.0 in
    let all = made.1 in
    omega (arith, none, all, now, joined, one, two)

pub returns-clause-works : goal.returns-clause-works
returns-clause-works g c =
    let a = c.args in
    let start = start_under a.lock.now in
    let joined = c.join_all-sum in
    let now = joined.new.doors in
    let given = a.given.now.value in
    let count : length now.items ≡ length given.items =
    sym now.ok.0 ∙ joined.ensures.doors ∙ sym c.requires.given ∙ given.ok.0 in
    works-on g.D.Door g.D.L.Link.told start a.max_read joined.new.first.seat.me.0
    c.drain_rest-emptied.result.pass.seat.me.0 given.items now.items c.sort.new.self.outcome
    c.sort.new.self.ends.items
    (all-joined g.D.Door g.D.L.Link.told start a.max_read joined.new.first.seat.me.0 given.items now.items
    joined.result.outcome c.sort.new.self.outcome joined.result.ends.items c.sort.new.self.ends.items
    joined.ensures.all count c.sort.ensures.outcome c.sort.ensures.none c.sort.ensures.all)
    c.drain_rest-emptied.ensures.takes c.drain_rest-emptied.ensures.ready.knows

pub returns-clause-drains : goal.returns-clause-drains
returns-clause-drains g c = λ before so_far.
    let a = c.args in
    let d = a.drainer in
    c.drain_rest-emptied.ensures.drains before
    (drained-grows g.P.Spawner a.hook.now (start_under a.lock.now) before c.outs_are_left.ensures.grow d.spawner
    d.gate.pass.seat.me.0 c.join_all-sum.new.first.seat.me.0 d.ended c.requires.stopped c.requires.ready.knows
    c.join_all-sum.ensures.others so_far)
