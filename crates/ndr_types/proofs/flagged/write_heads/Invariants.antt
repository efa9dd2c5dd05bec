-- The heads before the place are written.
use Rattle.ndr_types.proofs.Arrays.{HeadsSoFar}
use Rattle.ndr_types.specs.Translations.{flagged}
use Rattle.ndr_types.proofs.flagged.write_heads.Given as goal

abbrev pub invariant-loop-value : goal.invariant-loop-value
invariant-loop-value g l = HeadsSoFar (flagged g.X.Embedded.part) l.values l.value-index l.fn.to l.to
