-- As many are passed over as the index says, or all there are.
use Rattle.std.proofs.Common.{◌≡◌, ◌+◌, ◌≤◌, drop}
use Rattle.std.specs.List.{filter}
use Rattle.samr_objects.specs.Enumerations.{is_displayed}
use Rattle.samr_objects.proofs.displays.accounts_behind.Given as goal

abbrev pub invariant-loop-place : goal.invariant-loop-place
invariant-loop-place l = record {
  left : drop l.before (filter (is_displayed l.arm l.domain) (drop l.place l.accounts))
      ≡ drop l.index (filter (is_displayed l.arm l.domain) l.accounts);
  passed : l.index ≤ l.before + l.place;
}
