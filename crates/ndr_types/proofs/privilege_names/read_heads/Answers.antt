-- One more head is read, or the reading of all ends where that of one does.
use Rattle.std.proofs.lemmas.Result.{err_from_is_err_and}
use Rattle.ndr_core.specs.Parts.{times}
use Rattle.ndr_core.proofs.Loop.{times_begins, times_goes_on, times_ends, times_done}
use Rattle.ndr_types.specs.Listed.{privilege_name}
use Rattle.ndr_types.proofs.Arrays.{yields_error}
use Rattle.ndr_types.proofs.privilege_names.read_heads.Goals as goal

pub loop-init : goal.loop-init
loop-init c = rw c.new-heads.ensures (times_begins c.args.count privilege_name.head c.args.from.now)

pub returns-in_err-head : goal.returns-in_err-head
returns-in_err-head c =
    let p = err_from_is_err_and c.from_residual.result c.from_residual.ensures.1 in
    let e = c.in_err-head.field-0.0 in
    let a = privilege_name.head in
    rw (p.1, p.2)
    (yields_error e c.read_head.new.from ((times c.args.count a).read c.args.from.now)
    (times_ends e c.loop.heads c.args.count c.loop.counter a c.args.from.now c.loop.from c.loop-test.true
    c.in_err-head.ensures c.loop.invariant))

pub loop-preserved : goal.loop-preserved
loop-preserved c =
    rw c.in_ok-push.ensures.ok
    (times_goes_on c.loop.heads c.args.count c.loop.counter privilege_name.head c.args.from.now c.loop.from
    c.read_head.new.from c.in_ok-head.head c.loop-test.true c.in_ok-head.ensures c.loop.invariant)

pub returns : goal.returns
returns c =
    times_done c.loop.heads c.args.count c.loop.counter privilege_name.head c.args.from.now c.loop.from
    c.loop-test.false c.loop.invariant
