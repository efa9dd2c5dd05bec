-- The bytes so far are those that the source gave, in order, and no more than may be read; and no read failed.
use Rattle.std.proofs.Common.{◌≡◌, ◌≤◌, ◌-◌, vec_len}
use Rattle.std.specs.Io.KnownBytes.{Consumes}
use Rattle.acct_keeper.specs.Faults.{most_bytes}
use Rattle.acct_keeper.proofs.whole.read_whole.Given as goal

abbrev pub invariant-loop-whole : goal.invariant-loop-whole
invariant-loop-whole g l =
    let s = g.S.Source in
    record {
      bytes : Consumes (s.left l.initial.source) (s.left l.source) l.whole.items;
      within : vec_len l.whole ≤ most_bytes;
      faults : s.faults l.source ≡ s.faults l.initial.source;
    }

abbrev pub decreases-loop-whole : goal.decreases-loop-whole
decreases-loop-whole g l = most_bytes - vec_len l.whole
