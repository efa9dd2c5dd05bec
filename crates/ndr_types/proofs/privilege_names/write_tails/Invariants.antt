-- The tails before the place are written.
use Rattle.ndr_types.specs.Listed.{privilege_name}
use Rattle.ndr_types.proofs.Arrays.{TailsSoFar}
use Rattle.ndr_types.proofs.privilege_names.write_tails.Given as goal

abbrev pub invariant-loop-value : goal.invariant-loop-value
invariant-loop-value l = TailsSoFar privilege_name l.values l.value-index l.fn.to l.to
