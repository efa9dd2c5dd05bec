-- The heads so far are those before the cursor, and the rest is left to read.
use Rattle.ndr_core.proofs.Loop.{TimesSoFar}
use Rattle.ndr_types.specs.Listed.{privilege_name}
use Rattle.ndr_types.proofs.privilege_names.read_heads.Given as goal

abbrev pub invariant-loop : goal.invariant-loop
invariant-loop l = TimesSoFar l.heads l.count l.counter privilege_name.head l.fn.from l.from
