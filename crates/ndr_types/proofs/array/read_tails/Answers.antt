-- One more tail is read, or the reading of all ends where that of one does.
use Rattle.std.proofs.lemmas.Result.{err_from_is_err_and}
use Rattle.ndr_types.proofs.Arrays.{each_begins, each_goes_on, each_ends, each_done}
use Rattle.ndr_types.proofs.array.read_tails.Goals as goal

pub loop-head-init : goal.loop-head-init
loop-head-init g c = rw c.new-values.ensures (each_begins g.X.Embedded.part.tail c.args.heads.now c.args.from.now)

pub returns-in_err-value : goal.returns-in_err-value
returns-in_err-value g c =
    let p = err_from_is_err_and c.from_residual.result c.from_residual.ensures.1 in
    let e = c.in_err-value.field-0.0 in
    rw (p.1, p.2) (each_ends e c.read_tail.new.from c.loop-head.values g.X.Embedded.part.tail c.args.heads.now
    c.loop-head.head-index c.head-item.result c.head-item.result c.args.from.now c.loop-head.from
    c.loop-head-test.true c.head-item.is c.in_err-value.ensures c.loop-head.invariant)

pub loop-head-preserved : goal.loop-head-preserved
loop-head-preserved g c =
    rw c.in_ok-push.ensures.ok
    (each_goes_on c.loop-head.values g.X.Embedded.part.tail c.args.heads.now c.loop-head.head-index c.head-item.result
    c.head-item.result c.args.from.now c.loop-head.from c.read_tail.new.from c.in_ok-value.value c.loop-head-test.true
    c.head-item.is c.in_ok-value.ensures c.loop-head.invariant)

pub returns : goal.returns
returns g c = each_done c.loop-head.values g.X.Embedded.part.tail c.args.heads.now c.loop-head.head-index
    c.args.from.now c.loop-head.from c.loop-head-test.false c.loop-head.invariant
