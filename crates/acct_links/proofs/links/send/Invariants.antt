-- The bytes before the cursor were written to the link, nothing was read from it, and no write failed.
use Rattle.std.proofs.Common.{◌≡◌, ◌≤◌, ◌-◌, length, take}
use Rattle.acct_links.specs.Links.{Sends}
use Rattle.acct_links.proofs.links.send.Given as goal

abbrev pub invariant-loop-at : goal.invariant-loop-at
invariant-loop-at g l =
    let t = g.L.Link in
    record {
      within : l.at ≤ length l.bytes;
      sends : Sends (t.told l.initial.link) (t.told l.link) (take l.at l.bytes);
      faults : (t.told l.link).write_faults ≡ (t.told l.initial.link).write_faults;
    }

abbrev pub decreases-loop-at : goal.decreases-loop-at
decreases-loop-at g l = length l.bytes - l.at
