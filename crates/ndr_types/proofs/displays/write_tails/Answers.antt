-- One more tail is written, and at the end all are.
use Rattle.ndr_types.specs.Listed.{display_row}
use Rattle.ndr_types.proofs.Arrays.{tails_go_on, tails_written}
use Rattle.ndr_types.proofs.displays.write_tails.Goals as goal

pub loop-value-preserved : goal.loop-value-preserved
loop-value-preserved c =
    rw c.in_ok-write_tail.ensures
    (tails_go_on (display_row c.args.arm) c.args.values.now c.loop-value.value-index c.value-item.result c.value-item.result
    c.args.to.now c.loop-value.to c.loop-value-test.true c.value-item.is c.loop-value.invariant)

pub returns : goal.returns
returns c =
    tails_written (display_row c.args.arm) c.args.values.now c.loop-value.value-index c.args.to.now c.loop-value.to
    c.loop-value-test.false c.loop-value.invariant
