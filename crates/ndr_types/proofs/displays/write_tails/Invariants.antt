-- The tails before the place are written.
use Rattle.ndr_types.specs.Listed.{display_row}
use Rattle.ndr_types.proofs.Arrays.{TailsSoFar}
use Rattle.ndr_types.proofs.displays.write_tails.Given as goal

abbrev pub invariant-loop-value : goal.invariant-loop-value
invariant-loop-value l = TailsSoFar (display_row l.arm) l.values l.value-index l.fn.to l.to
