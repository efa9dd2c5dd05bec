-- The elements read so far and those still to read are `count` in all, and the first lack of one is the answer.
use Rattle.std.proofs.lemmas.Result.{err_from_is_err_and}
use Rattle.rpc_pdu.specs.Headers.{element_at}
use Rattle.acct_base.proofs.Many.{starts, goes_on, ends, is_done}
use Rattle.rpc_pdu.proofs.Wants.{counted}
use Rattle.rpc_pdu.proofs.lists.read_elements.Goals as goal

pub loop-init : goal.loop-init
loop-init c = rw c.new-elements.ensures (starts element_at c.args.count c.args.fields.now)

pub returns-in_err-element-clause-value : goal.returns-in_err-element-clause-value
returns-in_err-element-clause-value c =
    let p = err_from_is_err_and c.from_residual.result c.from_residual.ensures.1 in
    rw (p.1, p.2)
    (ends element_at c.in_err-element.field-0.0 c.loop.elements c.args.count c.loop.counter c.args.fields.now
    c.loop.fields c.loop-test.true c.in_err-element.ensures c.loop.invariant)

pub loop-preserved : goal.loop-preserved
loop-preserved c =
    rw c.in_ok-push.ensures.ok
    (goes_on element_at c.loop.elements c.args.count c.loop.counter c.args.fields.now c.loop.fields
    c.in_ok-element.element c.read_element.new.fields c.loop-test.true c.in_ok-element.ensures c.loop.invariant)

pub returns-in_err-element-clause-wants : goal.returns-in_err-element-clause-wants
returns-in_err-element-clause-wants c = counted c.from_residual.result c.loop.counter c.args.count c.loop-test.true

pub returns-clause-value : goal.returns-clause-value
returns-clause-value c =
    is_done element_at c.loop.elements c.args.count c.loop.counter c.args.fields.now c.loop.fields
    c.loop-test.false c.loop.invariant
