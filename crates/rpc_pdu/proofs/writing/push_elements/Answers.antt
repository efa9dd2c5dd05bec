-- After each element `out` has the bytes of the elements so far after what it had, and each of these is whole.
use Rattle.rpc_pdu.specs.Written.{element_bytes}
use Rattle.rpc_pdu.specs.Written.{IsWholeElement}
use Rattle.rpc_pdu.proofs.Pushes.{pushed_none, pushed_more, pushed_all}
use Rattle.rpc_pdu.proofs.writing.push_elements.Goals as goal

pub loop-element-init : goal.loop-element-init
loop-element-init c = pushed_none element_bytes IsWholeElement c.args.out.now.items c.args.elements.now

pub loop-element-preserved : goal.loop-element-preserved
loop-element-preserved c =
    pushed_more element_bytes IsWholeElement c.args.out.now.items c.loop-element.out.items c.push_element.new.out.items
    c.args.elements.now c.loop-element.element-index c.element-item.result c.loop-element-test.true c.element-item.is
    c.in_ok-push_element.ensures.bytes c.in_ok-push_element.ensures.whole c.loop-element.invariant

pub returns-clause-bytes : goal.returns-clause-bytes
returns-clause-bytes c =
    (pushed_all element_bytes IsWholeElement c.args.out.now.items c.loop-element.out.items c.args.elements.now
    c.loop-element.element-index c.loop-element-test.false c.loop-element.invariant).0

pub returns-clause-whole : goal.returns-clause-whole
returns-clause-whole c =
    (pushed_all element_bytes IsWholeElement c.args.out.now.items c.loop-element.out.items c.args.elements.now
    c.loop-element.element-index c.loop-element-test.false c.loop-element.invariant).1
