-- One more tail is read, or the reading of all ends where that of one does.
use Rattle.std.proofs.Common.{ℕ, Bool, false, get_or, refl}
use Rattle.std.proofs.lemmas.Result.{err_from_is_err_and}
use Rattle.ndr_types.specs.Listed.{privilege_name}
use Rattle.ndr_types.proofs.Arrays.{each_begins, each_goes_on, each_ends, each_done}
use Rattle.ndr_types.proofs.privilege_names.read_tails.Goals as goal

-- a head, for what stands after the end
abbrev no_head : (ℕ × Bool) × ℕ
no_head = ((0, false), 0)

pub loop-head-init : goal.loop-head-init
loop-head-init c = rw c.new-values.ensures (each_begins privilege_name.tail c.args.heads.now c.args.from.now)

pub returns-in_err-value : goal.returns-in_err-value
returns-in_err-value c =
    let p = err_from_is_err_and c.from_residual.result c.from_residual.ensures.1 in
    let e = c.in_err-value.field-0.0 in
    let i = c.loop-head.head-index in
    rw (p.1, p.2)
    (each_ends e c.read_tail.new.from c.loop-head.values privilege_name.tail c.args.heads.now i
    (get_or c.args.heads.now i no_head) no_head c.args.from.now c.loop-head.from c.loop-head-test.true refl
    c.in_err-value.ensures c.loop-head.invariant)

pub loop-head-preserved : goal.loop-head-preserved
loop-head-preserved c =
    let i = c.loop-head.head-index in
    rw c.in_ok-push.ensures.ok
    (each_goes_on c.loop-head.values privilege_name.tail c.args.heads.now i
    (get_or c.args.heads.now i no_head) no_head c.args.from.now c.loop-head.from c.read_tail.new.from
    c.in_ok-value.value c.loop-head-test.true refl c.in_ok-value.ensures c.loop-head.invariant)

pub returns : goal.returns
returns c =
    each_done c.loop-head.values privilege_name.tail c.args.heads.now c.loop-head.head-index c.args.from.now
    c.loop-head.from c.loop-head-test.false c.loop-head.invariant
