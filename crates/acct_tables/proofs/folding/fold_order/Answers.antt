-- `fold_order` may pass over folded code points that are equal; the first that differ decide, or the shorter text.
use Rattle.std.proofs.Common.{◌≡◌, ◌≢◌, sym, ap, ◌∙◌, rules}
use Rattle.std.specs.declared.cmp.Ordering.TheVariants.{Equal}
use Rattle.std.specs.Ordering.{nat_cmp, ordering_then}
use Rattle.acct_calls.specs.Names.{folded_point, folded_points}
use Rattle.acct_tables.specs.KeyedRows.{compare}
use Rattle.acct_tables.proofs.FoldOrder.{order_first, order_longer, order_shorter, order_none, decides}
use Rattle.acct_tables.proofs.folding.fold_order.Goals as goal

pub returns-in_default-first_point : goal.returns-in_default-first_point
returns-in_default-first_point c =
    let first = c.in-Some.our_first in
    sym (sym c.loop-our_first.invariant
    ∙ order_longer c.loop-our_first.ours.now first.rest.now c.loop-our_first.theirs.now first.point
    c.in-Some.ensures.points c.in_default-first_point.ensures.points)

pub returns-then-ne : goal.returns-then-ne
returns-then-ne c =
    let ours = c.in-Some.our_first in
    let theirs = c.in-Some-first_point.their_first in
    let is : c.point_order-order.result ≡ nat_cmp (folded_point ours.point) (folded_point theirs.point) =
    search rules in
    let differ : c.point_order-order.result ≢ Equal = search rules in
    sym (sym c.loop-our_first.invariant
    ∙ order_first c.loop-our_first.ours.now c.loop-our_first.theirs.now ours.rest.now theirs.rest.now ours.point
    theirs.point c.in-Some.ensures.points c.in-Some-first_point.ensures.points
    ∙ ap (λ o. ordering_then o (compare (folded_points ours.rest.now) (folded_points theirs.rest.now))) (sym is)
    ∙ decides c.point_order-order.result _ differ)

pub loop-our_first-preserved : goal.loop-our_first-preserved
loop-our_first-preserved c =
    let ours = c.in-Some.our_first in
    let theirs = c.in-Some-first_point.their_first in
    let is : nat_cmp (folded_point ours.point) (folded_point theirs.point) ≡ Equal = search rules in
    sym (order_first c.loop-our_first.ours.now c.loop-our_first.theirs.now ours.rest.now theirs.rest.now ours.point
    theirs.point c.in-Some.ensures.points c.in-Some-first_point.ensures.points
    ∙ ap (λ o. ordering_then o (compare (folded_points ours.rest.now) (folded_points theirs.rest.now))) is)
    ∙ c.loop-our_first.invariant

pub returns-in-Some-first_point-2 : goal.returns-in-Some-first_point-2
returns-in-Some-first_point-2 c =
    let first = c.in-Some-first_point-2.field-0 in
    sym (sym c.loop-our_first.invariant
    ∙ order_shorter c.loop-our_first.ours.now c.loop-our_first.theirs.now first.rest.now first.point
    c.in_default.ensures.points c.in-Some-first_point-2.ensures.points)

pub returns-in-None : goal.returns-in-None
returns-in-None c =
    sym (sym c.loop-our_first.invariant
    ∙ order_none c.loop-our_first.ours.now c.loop-our_first.theirs.now c.in_default.ensures.points
    c.in-None.ensures.points)
