-- The bytes that were passed bring the reader to this stage, whose numbers are within their limits.
use Rattle.std.proofs.Common.{◌≡◌, take, Some}
use Rattle.dtyp_sid.specs.Reading.{read_on, IsStage}
use Rattle.dtyp_sid.specs.declared.reading.Stage.TheVariants.{Opening}
use Rattle.dtyp_sid.proofs.reading.parse_text.Given as goal

abbrev pub invariant-loop-place : goal.invariant-loop-place
invariant-loop-place l = (read_on (Opening 0) (take l.place l.text) ≡ Some l.stage) × IsStage l.stage
