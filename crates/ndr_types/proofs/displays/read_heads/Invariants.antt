-- The heads so far are those before the cursor, and the rest is left to read.
use Rattle.ndr_core.proofs.Loop.{TimesSoFar}
use Rattle.ndr_types.specs.Listed.{display_row}
use Rattle.ndr_types.proofs.displays.read_heads.Given as goal

abbrev pub invariant-loop : goal.invariant-loop
invariant-loop l = TimesSoFar l.heads l.count l.counter (display_row l.arm).head l.fn.from l.from
