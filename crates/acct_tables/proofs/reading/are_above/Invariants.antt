-- The privileges passed ascend from the number on: those left decide, which have to stand above the last.
use Rattle.std.proofs.Common.{◌≡◌, drop}
use Rattle.acct_tables.specs.Good.{are_above}
use Rattle.acct_tables.proofs.reading.are_above.Given as goal

abbrev pub invariant-loop-held : goal.invariant-loop-held
invariant-loop-held l = are_above l.low (drop l.held-index l.privileges) ≡ are_above l.fn.low l.privileges
