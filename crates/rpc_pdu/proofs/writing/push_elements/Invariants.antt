-- The bytes of the first so many elements were added, and each UUID in these elements has its 16 bytes.
use Rattle.rpc_pdu.specs.Written.{element_bytes}
use Rattle.rpc_pdu.specs.Written.{IsWholeElement}
use Rattle.rpc_pdu.proofs.Pushes.{Pushed}
use Rattle.rpc_pdu.proofs.writing.push_elements.Given as goal

abbrev pub invariant-loop-element : goal.invariant-loop-element
invariant-loop-element l = Pushed element_bytes IsWholeElement l.fn.out.items l.out.items l.elements l.element-index
