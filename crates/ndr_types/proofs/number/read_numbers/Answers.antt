-- One more number is read, or the reading of all ends where that of one does.
use Rattle.std.proofs.Common.{◌<◌, ◌≤◌, length, take, arith}
use Rattle.std.proofs.lemmas.Result.{err_from_is_err_and}
use Rattle.std.proofs.lemmas.List.{take_more_set, take_all}
use Rattle.ndr_core.specs.Shapes.{u32}
use Rattle.ndr_core.proofs.Loop.{times_begins, times_goes_on, times_ends, times_done}
use Rattle.ndr_types.proofs.number.read_numbers.Goals as goal

pub loop-number-init : goal.loop-number-init
loop-number-init c = times_begins (length c.args.numbers.now) u32 c.args.from.now

pub returns-in_err-number : goal.returns-in_err-number
returns-in_err-number c =
    let p = err_from_is_err_and c.from_residual.result c.from_residual.ensures.1 in
    rw (p.1, p.2) (times_ends c.in_err-number.field-0.0 (take c.loop-number.number-index c.loop-number.numbers)
    (length c.args.numbers.now) c.loop-number.number-index u32 c.args.from.now c.loop-number.from
    c.loop-number-test.true c.in_err-number.ensures.value c.loop-number.invariant)

pub loop-number-preserved : goal.loop-number-preserved
loop-number-preserved c =
    let lt : c.loop-number.number-index < length c.loop-number.numbers =
    omega (arith, c.loop-number.auto.numbers, c.loop-number-test.true) in
    rw (take_more_set c.loop-number.numbers c.loop-number.number-index c.in_ok-number.field-0 lt)
    (times_goes_on (take c.loop-number.number-index c.loop-number.numbers)
    (length c.args.numbers.now) c.loop-number.number-index u32 c.args.from.now c.loop-number.from c.u32.new.self
    c.in_ok-number.field-0 c.loop-number-test.true c.in_ok-number.ensures.value c.loop-number.invariant)

pub returns : goal.returns
returns c =
    let le : length c.loop-number.numbers ≤ c.loop-number.number-index =
    omega (arith, c.loop-number.auto.numbers, c.loop-number-test.false) in
    let done = times_done (take c.loop-number.number-index c.loop-number.numbers)
    (length c.args.numbers.now) c.loop-number.number-index u32 c.args.from.now c.loop-number.from
    c.loop-number-test.false c.loop-number.invariant in
    rw (take_all c.loop-number.number-index c.loop-number.numbers le) at done
