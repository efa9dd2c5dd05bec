-- One more head is written, and at the end all are.
use Rattle.ndr_types.specs.Listed.{privilege_name}
use Rattle.ndr_types.proofs.Arrays.{heads_begin, heads_go_on, heads_written}
use Rattle.ndr_types.proofs.privilege_names.write_heads.Goals as goal

pub loop-value-init : goal.loop-value-init
loop-value-init c = heads_begin privilege_name c.args.values.now c.args.to.now

pub loop-value-preserved : goal.loop-value-preserved
loop-value-preserved c =
    rw c.in_ok-write_head.ensures
    (heads_go_on privilege_name c.args.values.now c.loop-value.value-index c.value-item.result c.value-item.result
    c.args.to.now c.loop-value.to c.loop-value-test.true c.value-item.is c.loop-value.invariant)

pub returns : goal.returns
returns c =
    heads_written privilege_name c.args.values.now c.loop-value.value-index c.args.to.now c.loop-value.to
    c.loop-value-test.false c.loop-value.invariant
