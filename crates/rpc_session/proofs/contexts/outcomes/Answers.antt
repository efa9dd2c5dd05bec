-- After each element the outcomes are those of the elements so far, in their order.
use Rattle.std.proofs.Common.{◌∙◌, ◌++◌, [], ◌∷◌, ap, sym}
use Rattle.std.proofs.lemmas.List.{map_more}
use Rattle.rpc_session.specs.Answers.{outcome}
use Rattle.rpc_session.proofs.contexts.outcomes.Goals as goal

pub loop-element-preserved : goal.loop-element-preserved
loop-element-preserved c =
    c.in_ok-push.ensures.items
    ∙ (λ i. c.loop-element.invariant i ++ (c.outcome.ensures ∙ ap outcome c.element-item.is) i ∷ [])
    ∙ sym (map_more outcome c.args.elements.now c.loop-element.element-index c.element-item.result
    c.loop-element-test.true)
