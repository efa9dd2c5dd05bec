-- After each element the contexts are those that the elements so far make of the old ones.
use Rattle.rpc_session.proofs.Elements.{added}
use Rattle.rpc_session.proofs.contexts.add_elements.Goals as goal

pub loop-element-preserved : goal.loop-element-preserved
loop-element-preserved c =
    added c.args.contexts.now.items c.loop-element.contexts.items c.add_element.new.contexts.items c.args.elements.now
    c.loop-element.element-index c.element-item.result c.loop-element-test.true c.element-item.is
    c.in_ok-add_element.ensures c.loop-element.invariant
