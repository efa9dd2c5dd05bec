-- The entries read so far stand before those still to read, and the first that can't be read gives the error.
use Rattle.std.proofs.Common.{◌≡◌, ◌+◌, ◌-◌, suc, arith, ap, sym, ◌∙◌, Ok, List, Result}
use Rattle.std.proofs.lemmas.Result.{err_from_is_err_and}
use Rattle.dtyp_access.specs.declared.errors.DescError.{DescError}
use Rattle.dtyp_access.specs.declared.ace.Ace.{Ace}
use Rattle.dtyp_access.specs.Reading.{aces_at}
use Rattle.dtyp_access.proofs.AcesRead.{answer_err, read_err, read_ok, read_all, behind}
use Rattle.dtyp_access.proofs.read.aces_at.Goals as goal

pub returns-clause-answer : goal.returns-clause-answer
returns-clause-answer c =
    let none : c.args.count - c.loop-done._done ≡ 0 = omega arith in
    read_all _ c.loop-done.aces.items
    (c.args.count - c.loop-done._done) c.loop-done.place c.args.end c.args.bytes.now none c.loop-done.invariant.1
    ∙ ap (λ (aces : List Ace). let o : Result (List Ace) DescError = Ok aces in o) (sym c.from_vec.ensures)

pub returns-in_err-ace-clause-answer : goal.returns-in_err-ace-clause-answer
returns-in_err-ace-clause-answer c =
    let more : c.args.count - c.loop-done._done ≡ suc (c.args.count - (c.loop-done._done + 1)) =
    omega (arith, c.loop-done-test.true) in
    let why = err_from_is_err_and c.from_residual.result c.from_residual.ensures.1 in
    let right = aces_at c.args.count c.args.first c.args.end c.args.bytes.now in
    rw (why.1, why.2)
    (answer_err c.in_err-ace.field-0.0 right
    (read_err right c.loop-done.aces.items (c.args.count - c.loop-done._done) (c.args.count - (c.loop-done._done + 1))
    c.loop-done.place c.args.end c.args.bytes.now c.in_err-ace.field-0.0 more c.loop-done.invariant.1
    c.in_err-ace.ensures.err))

pub loop-done-preserved : goal.loop-done-preserved
loop-done-preserved c =
    let more : c.args.count - c.loop-done._done ≡ suc (c.args.count - (c.loop-done._done + 1)) =
    omega (arith, c.loop-done-test.true) in
    let next = c.in_ok-ace.ensures.next in (
      omega (arith, next.1, c.requires.end),
      read_ok (aces_at c.args.count c.args.first c.args.end c.args.bytes.now) c.loop-done.aces.items
          (c.args.count - c.loop-done._done) (c.args.count - (c.loop-done._done + 1))
          c.loop-done.place c.args.end c.in_ok-ace.next c.args.bytes.now c.in_ok-ace.ace more c.loop-done.invariant.1
          c.in_ok-ace.ensures.ok next.0
          ∙ ap (λ (read : List Ace). behind read
          (aces_at (c.args.count - (c.loop-done._done + 1)) c.in_ok-ace.next c.args.end c.args.bytes.now))
          (sym c.in_ok-push.ensures.items),
    )
