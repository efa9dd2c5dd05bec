-- The passes joined so far are one pass over their workers' entries, and the doors after them are still to join.
use Rattle.std.proofs.Common.{◌≡◌, ◌+◌, ◌<◌, [], Some, None, length, refl, sym, ap, ◌∙◌, subst, arith, vec_len, get_or}
use Rattle.std.specs.Prelude.{slice_index_or}
use Rattle.std.proofs.lemmas.List.{get_or_default}
use Rattle.door_workers.specs.steps.Passing.{start_under}
use Rattle.door_workers.specs.declared.ends.DoorEnd.TheVariants as stop
use Rattle.door_workers.specs.steps.Hiring.{HasWorked, AreJoined}
use Rattle.door_workers.proofs.Homes.{takes-in-none}
use Rattle.door_workers.proofs.Joined.{none-joined, one-joined}
use Rattle.door_workers.proofs.DoorPlaces.{below, each-less, the-last}
use Rattle.door_workers.proofs.joining.join_all.Goals as goal

some-none : {A : Type 0} (a : A) → Some a ≡ None → ⊥
some-none a same = cc

pub loop-hired-init : goal.loop-hired-init
loop-hired-init g c =
    let a = c.args in
    let door = g.D.Door in
    let told = g.D.L.Link.told in
    let start = start_under a.lock.now in
    let v = a.first.now.seat.me.0 in
    let given = a.given.now.value.items in
    let empty : vec_len a.doors.now ≡ 0 = a.doors.now.ok.0 ∙ ap length c.requires.none in
    record {
      pass = c.requires.first.0;
      first = c.requires.first.1;
      made = refl;
      joined = omega arith;
      others = takes-in-none v;
      total = omega arith;
      room = c.requires.room;
      places = c.requires.places;
      worked = c.requires.worked;
      all = subst (λ ds. AreJoined door told start a.max_read v given ds stop.Closed c.new.result.items)
          (sym c.requires.none)
          (subst (λ es. AreJoined door told start a.max_read v given [] stop.Closed es) (sym c.new.ensures.items)
          (none-joined door told start a.max_read v given c.requires.links));
    }

pub join_one-door-requires-clause-other : goal.join_one-door-requires-clause-other
join_one-door-requires-clause-other g c =
    let a = c.args in
    let inv = c.loop-hired.invariant in
    (the-last c.loop-hired.workers.items c.pop.new.self.items c.in-Some.hired
    (λ n h. HasWorked g.D.Door g.D.L.Link.told a.lock.now a.max_read h.worker.place h.worker.gate.pass h.end
    (slice_index_or a.given.now.value.items h.worker.place h.worker.door) h.worker.door h.worker.ends.items)
    c.in-Some.ensures.items (λ n x l. inv.worked n x (below n _ _ (sym c.loop-hired.workers.ok.0) l))).pass_of

pub join_one-door-requires-clause-worked : goal.join_one-door-requires-clause-worked
join_one-door-requires-clause-worked g c = λ none.
    let a = c.args in
    let inv = c.loop-hired.invariant in
    let worked = the-last c.loop-hired.workers.items c.pop.new.self.items c.in-Some.hired
    (λ n h. HasWorked g.D.Door g.D.L.Link.told a.lock.now a.max_read h.worker.place h.worker.gate.pass h.end
    (slice_index_or a.given.now.value.items h.worker.place h.worker.door) h.worker.door h.worker.ends.items)
    c.in-Some.ensures.items (λ n x l. inv.worked n x (below n _ _ (sym c.loop-hired.workers.ok.0) l)) in
    some-none worked.why (sym worked.is ∙ none)

pub loop-hired-preserved : goal.loop-hired-preserved
loop-hired-preserved g c =
    let a = c.args in
    let door = g.D.Door in
    let told = g.D.L.Link.told in
    let start = start_under a.lock.now in
    let inv = c.loop-hired.invariant in
    let e = c.in-Some.ensures in
    let j = c.join_one-door.ensures in
    let p = c.push_reserved.ensures in
    let hired = c.in-Some.hired in
    let left = c.join_one-door.result in
    let ws = c.loop-hired.workers.items in
    let ys = c.pop.new.self.items in
    let ds = c.loop-hired.doors.items in
    let given = a.given.now.value.items in
    let less = e.cases in
    let more = p.len in
    let total = inv.total in
    let fits = c.pop.new.self.ok.0 in
    let held = c.loop-hired.doors.ok.0 in
    let had = c.loop-hired.workers.ok.0 in
    let long = c.requires.given in
    let longs = a.given.now.value.ok.0 in
    let worked = the-last ws ys hired
    (λ n h. HasWorked door told a.lock.now a.max_read h.worker.place h.worker.gate.pass h.end
    (slice_index_or given h.worker.place h.worker.door) h.worker.door h.worker.ends.items)
    e.items (λ n x l. inv.worked n x (below n _ _ (sym had) l)) in
    let stands : hired.worker.place + length ys + 1 ≡ vec_len a.workers =
    the-last ws ys hired (λ n h. h.worker.place + n + 1 ≡ vec_len a.workers) e.items
    (λ n x l. inv.places n x (below n _ _ (sym had) l)) in
    let at : hired.worker.place ≡ length ds = omega arith in
    let within : hired.worker.place < length given = omega arith in
    let b = slice_index_or given hired.worker.place hired.worker.door in
    record {
      pass = j.first.0;
      first = j.first.1;
      made = j.made ∙ inv.made;
      joined = let joins = j.joined in let was = inv.joined in omega arith;
      others = j.others a.first.now.seat.me.0 b worked c.requires.links.known inv.others;
      total = omega arith;
      room = let was = inv.room in let more = p.capacity in omega arith;
      places = λ i d lt. each-less ws ys hired (λ n h. h.worker.place + n + 1 ≡ vec_len a.workers) e.items
          (λ n x l. inv.places n x (below n _ _ (sym had) l)) i d (below i _ _ fits lt);
      worked = λ i d lt. each-less ws ys hired
          (λ n h. HasWorked door told a.lock.now a.max_read h.worker.place h.worker.gate.pass h.end
          (slice_index_or given h.worker.place h.worker.door) h.worker.door h.worker.ends.items)
          e.items (λ n x l. inv.worked n x (below n _ _ (sym had) l)) i d (below i _ _ fits lt);
      all = subst (λ ds. AreJoined door told start a.max_read c.join_one-door.new.first.seat.me.0 given ds
          c.add.new.self.outcome c.add.new.self.ends.items) (sym p.items)
          (one-joined door told start a.max_read c.loop-hired.first.seat.me.0 c.join_one-door.new.first.seat.me.0 given
          ds hired.worker.place b left.door left.end left.ends.items c.loop-hired.sum.outcome c.add.new.self.outcome
          c.loop-hired.sum.ends.items c.add.new.self.ends.items inv.all (j.one b worked) at
          (λ d. ap (λ m. get_or given m d) (sym at)
          ∙ get_or_default given hired.worker.place d hired.worker.door within)
          c.add.ensures);
    }
