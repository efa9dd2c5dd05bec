-- The heads so far are those before the cursor, and the rest is left to read.
use Rattle.ndr_core.proofs.Loop.{TimesSoFar}
use Rattle.ndr_types.specs.Translations.{flagged}
use Rattle.ndr_types.proofs.flagged.read_heads.Given as goal

abbrev pub invariant-loop : goal.invariant-loop
invariant-loop g l = TimesSoFar l.heads l.count l.counter (flagged g.X.Embedded.part).head l.fn.from l.from
