-- The units so far, and those that are read next, are all that are read; one that can't be read ends it.
use Rattle.std.proofs.lemmas.Result.{err_from_is_err_and}
use Rattle.acct_tables.specs.Stored.{unit_at}
use Rattle.acct_base.proofs.Many.{starts, goes_on, ends, is_done}
use Rattle.acct_tables.proofs.fields.read_units.Goals as goal

pub loop-init : goal.loop-init
loop-init c = rw c.new-units.ensures (starts unit_at c.args.count c.args.fields.now)

pub returns-in_err-unit : goal.returns-in_err-unit
returns-in_err-unit c =
    let p = err_from_is_err_and c.from_residual.result c.from_residual.ensures.1 in
    rw (p.1, p.2)
    (ends unit_at c.in_err-unit.field-0.0 c.loop.units c.args.count c.loop.counter c.args.fields.now
    c.loop.fields c.loop-test.true c.in_err-unit.ensures.value c.loop.invariant)

pub loop-preserved : goal.loop-preserved
loop-preserved c =
    rw c.in_ok-push.ensures.ok
    (goes_on unit_at c.loop.units c.args.count c.loop.counter c.args.fields.now c.loop.fields
    c.in_ok-unit.unit c.read_unit.new.fields c.loop-test.true c.in_ok-unit.ensures.value c.loop.invariant)

pub returns : goal.returns
returns c =
    is_done unit_at c.loop.units c.args.count c.loop.counter c.args.fields.now c.loop.fields
    c.loop-test.false c.loop.invariant
