-- The tails before the place are written.
use Rattle.ndr_types.proofs.Arrays.{TailsSoFar}
use Rattle.ndr_types.proofs.array.write_tails.Given as goal

abbrev pub invariant-loop-value : goal.invariant-loop-value
invariant-loop-value g l = TailsSoFar g.X.Embedded.part l.values l.value-index l.fn.to l.to
