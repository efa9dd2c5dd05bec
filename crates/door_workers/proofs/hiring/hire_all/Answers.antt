-- A worker more is hired, for the last of the doors that are left.
use Rattle.std.proofs.Common.{◌≡◌, ◌+◌, length, sym, ◌∙◌, subst, arith, vec_len}
use Rattle.std.specs.Prelude.{slice_index_or}
use Rattle.door_workers.specs.steps.Hiring.{IsHired}
use Rattle.door_workers.proofs.DoorPlaces.{below, each-more, each-less, the-last}
use Rattle.door_workers.proofs.hiring.hire_all.Goals as goal

pub loop-door-preserved : goal.loop-door-preserved
loop-door-preserved g c =
    let a = c.args in
    let inv = c.loop-door.invariant in
    let e = c.in-Some.ensures in
    let p = c.push_reserved.ensures in
    let h = c.hire-hired.ensures in
    let xs = c.loop-door.doors.items in
    let ys = c.pop.new.self.items in
    let ws = c.loop-door.workers.items in
    let hired = c.hire-hired.result in
    let all = a.doors.now.items in
    let less = e.cases in
    let more = p.len in
    let total = inv.total in
    let fits = c.pop.new.self.ok.0 in
    let had = c.loop-door.workers.ok.0 in
    let few = c.requires.few in
    let counted = c.len-place.ensures in
    let place : hired.worker.place ≡ length ys = h.door.1 ∙ counted ∙ fits in
    record {
      first = h.first;
      made = let made = h.made in let was = inv.made in omega arith;
      joined = h.joined ∙ inv.joined;
      total = omega arith;
      room = let was = inv.room in let more = p.capacity in omega arith;
      capacity = e.capacity ∙ inv.capacity;
      rest = λ i d o lt. each-less xs ys c.in-Some.door (λ n x. x ≡ slice_index_or all n o) e.items
          (λ n x l. inv.rest n x o (below n _ _ (sym c.loop-door.doors.ok.0) l)) i d (below i _ _ fits lt);
      hired = λ i d lt. each-more c.push_reserved.new.self.items ws hired
          (λ n w. IsHired a.lock.now a.max_read w.worker.gate.lock.now w.worker.gate.pass
          (g.D.Door.listener w.worker.door) w.worker.max_read w.worker.ends.items) p.items
          (λ n x l. inv.hired n x (below n _ _ (sym had) l)) h.hired i d (below i _ _ c.push_reserved.new.self.ok.0 lt);
      doors = λ i d o lt. each-more c.push_reserved.new.self.items ws hired
          (λ n w. (w.worker.place + n + 1 ≡ vec_len a.doors.now)
          × (w.worker.door ≡ slice_index_or all w.worker.place o)) p.items
          (λ n x l. inv.doors n x o (below n _ _ (sym had) l)) (
            omega arith,
            h.door.0
                ∙ subst (λ m. c.in-Some.door ≡ slice_index_or all m o) (sym place)
                (the-last xs ys c.in-Some.door (λ n x. x ≡ slice_index_or all n o) e.items
                (λ n x l. inv.rest n x o (below n _ _ (sym c.loop-door.doors.ok.0) l))),
          )
          i d (below i _ _ c.push_reserved.new.self.ok.0 lt);
    }
