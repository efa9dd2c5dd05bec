-- The heads before the place are written.
use Rattle.ndr_types.specs.Listed.{privilege_name}
use Rattle.ndr_types.proofs.Arrays.{HeadsSoFar}
use Rattle.ndr_types.proofs.privilege_names.write_heads.Given as goal

abbrev pub invariant-loop-value : goal.invariant-loop-value
invariant-loop-value l = HeadsSoFar privilege_name l.values l.value-index l.fn.to l.to
