-- Some list of units stands before the place.
use Rattle.std.proofs.Common.{ℕ, List}
use Rattle.ndr_core.specs.Shapes.{u16}
use Rattle.ndr_core.proofs.Loop.{TimesSoFar}
use Rattle.acct_stubs.proofs.server_name.skip_units.Given as goal

-- some units were passed over, and what is left to read, put after them, is what was to be read
abbrev pub invariant-loop : goal.invariant-loop
invariant-loop l = (front : List ℕ) × TimesSoFar front l.count l.counter u16 l.fn.from l.from
