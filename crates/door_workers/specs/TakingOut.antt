-- That turns of the first pass at the outbox, one after another, are such turns.
use Rattle.std.proofs.Common.{◌≡◌, ℕ, ◌⊎◌, inl, inr, ⊎_elim, refl, ◌∙◌, subst}
use Rattle.hist_lock.specs.Histories.{In}
use Rattle.hist_lock.specs.Lanes.{home}
use Rattle.hist_lock.specs.Views.{IsSamePass}
use Rattle.hist_lock.specs.declared.view.View.{View}
use Rattle.acct_machine.specs.Gates.{RoseTo}
use Rattle.acct_machine.specs.State.{Start}
use Rattle.acct_machine.specs.declared.entry.Entry.{Entry}
use Rattle.door_workers.specs.Hooking.{TakesOut}
use Rattle.door_workers.specs.steps.Lanes.{lane_of}
use Rattle.door_workers.specs.steps.Moving.{front-same, front-then}
use Rattle.door_workers.specs.declared.kept.Begun.{Begun}

pub same-pass : (v : View Begun Entry) → IsSamePass v v
same-pass v = record { number = refl; made = refl; joined = refl }

pub same-then : (u v w : View Begun Entry) → IsSamePass u v → IsSamePass v w → IsSamePass u w
same-then u v w one two = record {
  number = two.number ∙ one.number;
  made = two.made ∙ one.made;
  joined = two.joined ∙ one.joined;
}

pub takes-none : (v : View Begun Entry) → TakesOut v v
takes-none v = record {
  same = same-pass v;
  grows = front-same v.known;
  kept = λ p e i. i;
  more = λ p e i. inl i;
}

pub takes-then : (u v w : View Begun Entry) → TakesOut u v → TakesOut v w → TakesOut u w
takes-then u v w one two = record {
  same = same-then u v w one.same two.same;
  grows = front-then u.known v.known w.known one.grows two.grows;
  kept = λ p e i. two.kept p e (one.kept p e i);
  more = λ p e i. ⊎_elim (λ (j : In v.own p e). one.more p e j) (λ (h : lane_of e ≡ home). inr h) (two.more p e i);
}

pub rose-by : {L : Type 0} (start_of : L → Start) (x y : L) (n : ℕ) → y ≡ x → RoseTo (start_of y).faults n
    → RoseTo (start_of x).faults n
rose-by start_of x y n same rose = subst (λ l. RoseTo (start_of l).faults n) same rose
