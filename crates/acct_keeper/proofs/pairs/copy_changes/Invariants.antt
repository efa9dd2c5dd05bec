-- The copies so far are the first so many changes.
use Rattle.std.proofs.Common.{◌≡◌, take}
use Rattle.acct_keeper.proofs.pairs.copy_changes.Given as goal

abbrev pub invariant-loop-change : goal.invariant-loop-change
invariant-loop-change l = l.copies.items ≡ take l.change-index l.changes
