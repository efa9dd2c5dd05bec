-- Each turn adds one door of the listener's, open, with all its links left and no fault.
use Rattle.std.proofs.Common.{ℕ, ◌+◌, ap, ◌∙◌}
use Rattle.std.proofs.lemmas.List.{length_push}
use Rattle.std.proofs.lemmas.List.Elements.{All-push}
use Rattle.host_doors.specs.Doors.{IsDoor}
use Rattle.host_doors.proofs.entrances.share.Goals as goal

pub loop-i-preserved : goal.loop-i-preserved
loop-i-preserved g c = record {
  count = rw c.in_ok-push.ensures.items (length_push c.loop-i.doors.items c.new.result
      ∙ ap (λ (n : ℕ). n + 1) c.loop-i.invariant.count);
  doors = rw c.in_ok-push.ensures.items (All-push (λ door. IsDoor c.args.listener c.args.links door)
      c.loop-i.doors.items c.new.result c.loop-i.invariant.doors (record {
        listener = c.new.ensures.listener;
        left = c.new.ensures.left;
        going = c.new.ensures.open;
        kept = c.new.ensures.kept;
        faults = c.new.ensures.faults;
      }));
}
