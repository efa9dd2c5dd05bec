-- The bytes before the cursor were added to what the sink has, and no write failed.
use Rattle.std.proofs.Common.{◌≡◌, ◌≤◌, ◌-◌, length, take}
use Rattle.std.specs.Io.KnownBytes.{Appends}
use Rattle.acct_keeper.proofs.writing.write_all.Given as goal

abbrev pub invariant-loop-at : goal.invariant-loop-at
invariant-loop-at g l =
    let t = g.T.Sink in
    record {
      within : l.at ≤ length l.bytes;
      held : Appends (t.held l.initial.out) (t.held l.out) (take l.at l.bytes);
      faults : t.faults l.out ≡ t.faults l.initial.out;
    }

abbrev pub decreases-loop-at : goal.decreases-loop-at
decreases-loop-at g l = length l.bytes - l.at
