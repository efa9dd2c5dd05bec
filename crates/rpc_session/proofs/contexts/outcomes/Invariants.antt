-- The outcomes so far are those of the first so many elements.
use Rattle.std.proofs.Common.{◌≡◌, map, take}
use Rattle.rpc_session.specs.Answers.{outcome}
use Rattle.rpc_session.proofs.contexts.outcomes.Given as goal

abbrev pub invariant-loop-element : goal.invariant-loop-element
invariant-loop-element l = l.outcomes.items ≡ map outcome (take l.element-index l.elements)
