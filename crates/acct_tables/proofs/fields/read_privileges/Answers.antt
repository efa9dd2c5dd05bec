-- The privileges so far, and those that are read next, are all that are read; one that can't be read ends it.
use Rattle.std.proofs.lemmas.Result.{err_from_is_err_and}
use Rattle.acct_tables.specs.Stored.{held_at}
use Rattle.acct_base.proofs.Many.{starts, goes_on, ends, is_done}
use Rattle.acct_tables.proofs.fields.read_privileges.Goals as goal

pub loop-init : goal.loop-init
loop-init c = rw c.new-privileges.ensures (starts held_at c.args.count c.args.fields.now)

pub returns-in_err-held : goal.returns-in_err-held
returns-in_err-held c =
    let p = err_from_is_err_and c.from_residual.result c.from_residual.ensures.1 in
    rw (p.1, p.2)
    (ends held_at c.in_err-held.field-0.0 c.loop.privileges c.args.count c.loop.counter c.args.fields.now
    c.loop.fields c.loop-test.true c.in_err-held.ensures.value c.loop.invariant)

pub loop-preserved : goal.loop-preserved
loop-preserved c =
    rw c.in_ok-push.ensures.ok
    (goes_on held_at c.loop.privileges c.args.count c.loop.counter c.args.fields.now c.loop.fields
    c.in_ok-held.held c.read_held.new.fields c.loop-test.true c.in_ok-held.ensures.value c.loop.invariant)

pub returns : goal.returns
returns c =
    is_done held_at c.loop.privileges c.args.count c.loop.counter c.args.fields.now c.loop.fields
    c.loop-test.false c.loop.invariant
