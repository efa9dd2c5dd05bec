-- Adding the elements left to the contexts so far gives what adding all of them to the first contexts gives.
use Rattle.rpc_session.proofs.Elements.{IsAdding}
use Rattle.rpc_session.proofs.contexts.add_elements.Given as goal

abbrev pub invariant-loop-element : goal.invariant-loop-element
invariant-loop-element l = IsAdding l.fn.contexts.items l.contexts.items l.elements l.element-index
