-- A worker's pass is joined: what became of its door and its links.
use Rattle.std.proofs.Common.{◌≡◌, Some, sym, ◌∙◌, subst}
use Rattle.door_workers.specs.steps.Passing.{start_under}
use Rattle.door_workers.specs.declared.ends.DoorEnd.{DoorEnd}
use Rattle.door_workers.specs.steps.Serving.{IsServing}
use Rattle.door_workers.proofs.Homes.{joins-others}
use Rattle.door_workers.proofs.Joined.{joins-one}
use Rattle.door_workers.proofs.joining.join_one.Goals as goal

some-same : {A : Type 0} (a b : A) → Some a ≡ Some b → a ≡ b
some-same a b is = cc

pub returns-clause-one : goal.returns-clause-one
returns-clause-one g c = λ given worked.
    let a = c.args in
    let w = a.hired.worker in
    let start = start_under a.lock.now in
    let same : worked.why ≡ c.in-Some.end = some-same worked.why c.in-Some.end (sym worked.is ∙ c.in-Some.is) in
    let law = c.links_are_joined.ensures in
    joins-one g.D.Door g.D.L.Link.told start a.max_read w.place (a.first.now.seat.me.0) (w.gate.pass.seat.me.0)
    (c.join.new.pass.seat.me.0) given w.door c.in-Some.end w.ends.items law.alone law.joined
    (record {
      own = c.join.ensures.own;
      apart = c.join.ensures.apart;
      first = c.join.ensures.heard.0;
      second = c.join.ensures.heard.1;
      known = c.join.ensures.known;
    })
    (subst (λ (e : DoorEnd). IsServing g.D.Door g.D.L.Link.told start a.max_read w.place (Some e) given w.door
    (w.gate.pass.seat.me.0) w.ends.items) same worked.serving)

pub returns-clause-others : goal.returns-clause-others
returns-clause-others g c = λ o given worked own others.
    let a = c.args in
    let w = a.hired.worker in
    let e = c.join.ensures in
    joins-others c.outs_are_left.ensures.grow (start_under a.lock.now) o (a.first.now.seat.me.0)
    (w.gate.pass.seat.me.0) (c.join.new.pass.seat.me.0) worked.serving.working.owns e.first e.own e.heard.0 e.lanes own
    others
