-- The syntaxes read so far and those still to read are `count` in all, and the first lack of one is the answer.
use Rattle.std.proofs.lemmas.Result.{err_from_is_err_and}
use Rattle.rpc_pdu.specs.Headers.{syntax_at}
use Rattle.acct_base.proofs.Many.{starts, goes_on, ends, is_done}
use Rattle.rpc_pdu.proofs.lists.read_syntaxes.Goals as goal

pub loop-init : goal.loop-init
loop-init c = rw c.new-syntaxes.ensures (starts syntax_at c.args.count c.args.fields.now)

pub returns-in_err-syntax : goal.returns-in_err-syntax
returns-in_err-syntax c =
    let p = err_from_is_err_and c.from_residual.result c.from_residual.ensures.1 in
    rw (p.1, p.2)
    (ends syntax_at c.in_err-syntax.field-0.0 c.loop.syntaxes c.args.count c.loop.counter c.args.fields.now
    c.loop.fields c.loop-test.true c.in_err-syntax.ensures.value c.loop.invariant)

pub loop-preserved : goal.loop-preserved
loop-preserved c =
    rw c.in_ok-push.ensures.ok
    (goes_on syntax_at c.loop.syntaxes c.args.count c.loop.counter c.args.fields.now c.loop.fields
    c.in_ok-syntax.syntax c.read_syntax.new.fields c.loop-test.true c.in_ok-syntax.ensures.value c.loop.invariant)

pub returns : goal.returns
returns c =
    is_done syntax_at c.loop.syntaxes c.args.count c.loop.counter c.args.fields.now c.loop.fields
    c.loop-test.false c.loop.invariant
