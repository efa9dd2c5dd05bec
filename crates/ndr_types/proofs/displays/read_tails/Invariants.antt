-- The values so far are those before the cursor, and the tails of the other heads are left to read.
use Rattle.ndr_types.specs.Listed.{display_row}
use Rattle.ndr_types.proofs.Arrays.{EachSoFar}
use Rattle.ndr_types.proofs.displays.read_tails.Given as goal

abbrev pub invariant-loop-head : goal.invariant-loop-head
invariant-loop-head l = EachSoFar l.values (display_row l.arm).tail l.heads l.head-index l.fn.from l.from
