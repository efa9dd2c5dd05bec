-- One more unit is passed over, and at the end all are.
use Rattle.std.proofs.Common.{◌++◌, ◌∷◌, []}
use Rattle.std.proofs.lemmas.Result.{err_from_is_err_and}
use Rattle.ndr_core.specs.Shapes.{u16}
use Rattle.ndr_core.proofs.Loop.{times_begins, times_goes_on, times_ends, times_done}
use Rattle.acct_stubs.proofs.server_name.skip_units.Goals as goal

pub loop-init : goal.loop-init
loop-init c = ([], times_begins c.args.count u16 c.args.from.now)

pub loop-preserved : goal.loop-preserved
loop-preserved c = let front = c.loop.invariant.0 in (
  front ++ c.in_ok-u16.field-0 ∷ [],
  times_goes_on front c.args.count c.loop.counter u16 c.args.from.now c.loop.from c.u16.new.self
      c.in_ok-u16.field-0 c.loop-test.true c.in_ok-u16.ensures.value c.loop.invariant.1,
)

pub returns-in_err-u16 : goal.returns-in_err-u16
returns-in_err-u16 c =
    let p = err_from_is_err_and c.from_residual.result c.from_residual.ensures.1 in
    rw (p.1, p.2)
    (times_ends c.in_err-u16.field-0.0 c.loop.invariant.0 c.args.count c.loop.counter u16 c.args.from.now
    c.loop.from c.loop-test.true c.in_err-u16.ensures.value c.loop.invariant.1)

pub returns : goal.returns
returns c = (
  c.loop.invariant.0,
  times_done c.loop.invariant.0 c.args.count c.loop.counter u16 c.args.from.now c.loop.from c.loop-test.false
      c.loop.invariant.1,
)
