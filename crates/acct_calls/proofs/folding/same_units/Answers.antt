-- `same_units` may pass over folded code points that are equal; one that differs, or a text that is longer, decides.
use Rattle.std.proofs.Common.{◌≡◌, ◌==◌, ◌&&◌, true, false, sym, ap, ◌∙◌}
use Rattle.std.proofs.lemmas.Bool.{and_left, ne_eqb, eq-eqb}
use Rattle.acct_calls.specs.Names.{folded_point, is_same}
use Rattle.acct_calls.proofs.Folds.{is_same-first, is_same-longer, is_same_over_nothing}
use Rattle.acct_calls.proofs.folding.same_units.Goals as goal

pub returns-in_default-first_point : goal.returns-in_default-first_point
returns-in_default-first_point c =
    let ours = c.loop-our_first.ours.now in
    let first = c.in-Some.our_first in
    sym (sym c.loop-our_first.invariant
    ∙ ap (is_same ours) c.in_default-first_point.ensures.points
    ∙ is_same-longer ours first.rest.now first.point c.in-Some.ensures.points)

pub returns-then-fold_point : goal.returns-then-fold_point
returns-then-fold_point c =
    let ours = c.in-Some.our_first in
    let theirs = c.in-Some-first_point.their_first in
    let differ : (folded_point ours.point == folded_point theirs.point) ≡ false =
    ne_eqb _ _ (λ same. c.if-fold_point.true
    (c.fold_point.ensures.value ∙ same ∙ sym c.fold_point-in-Some.ensures.value)) in
    sym (sym c.loop-our_first.invariant
    ∙ is_same-first c.loop-our_first.ours.now c.loop-our_first.theirs.now ours.rest.now theirs.rest.now ours.point
    theirs.point c.in-Some.ensures.points c.in-Some-first_point.ensures.points
    ∙ and_left (folded_point ours.point == folded_point theirs.point) (is_same ours.rest.now theirs.rest.now) differ)

pub loop-our_first-preserved : goal.loop-our_first-preserved
loop-our_first-preserved c =
    let ours = c.in-Some.our_first in
    let theirs = c.in-Some-first_point.their_first in
    let alike : (folded_point ours.point == folded_point theirs.point) ≡ true =
    eq-eqb _ _ (sym c.fold_point.ensures.value ∙ c.if-fold_point.false ∙ c.fold_point-in-Some.ensures.value) in
    sym (is_same-first c.loop-our_first.ours.now c.loop-our_first.theirs.now ours.rest.now theirs.rest.now ours.point
    theirs.point c.in-Some.ensures.points c.in-Some-first_point.ensures.points
    ∙ ap (λ b. b && is_same ours.rest.now theirs.rest.now) alike)
    ∙ c.loop-our_first.invariant

pub returns : goal.returns
returns c =
    let theirs = c.loop-our_first.theirs.now in
    c.is_empty.ensures
    ∙ sym (is_same_over_nothing theirs)
    ∙ sym (ap (λ l. is_same l theirs) c.in_default.ensures.points)
    ∙ c.loop-our_first.invariant
