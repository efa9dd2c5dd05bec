-- The heads before the place are written.
use Rattle.ndr_types.proofs.Arrays.{HeadsSoFar}
use Rattle.ndr_types.proofs.array.write_heads.Given as goal

abbrev pub invariant-loop-value : goal.invariant-loop-value
invariant-loop-value g l = HeadsSoFar g.X.Embedded.part l.values l.value-index l.fn.to l.to
