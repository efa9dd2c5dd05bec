-- The numbers so far are those before the cursor.
use Rattle.std.proofs.Common.{length, take}
use Rattle.ndr_core.specs.Shapes.{u32}
use Rattle.ndr_core.proofs.Loop.{TimesSoFar}
use Rattle.ndr_types.proofs.number.read_numbers.Given as goal

abbrev pub invariant-loop-number : goal.invariant-loop-number
invariant-loop-number l =
    TimesSoFar (take l.number-index l.numbers) (length l.fn.numbers) l.number-index u32 l.fn.from l.from
