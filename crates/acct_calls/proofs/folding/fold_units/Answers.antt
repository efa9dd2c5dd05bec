-- What `fold_units` made so far, with the code points that are left folded, is the whole text folded.
use Rattle.std.proofs.Common.{◌++◌, sym, ap, ◌∙◌, append_assoc}
use Rattle.std.specs.Char.Escape.{encode_utf16}
use Rattle.std.proofs.lemmas.List.{append-nil}
use Rattle.acct_calls.specs.Names.{folded_point, folded}
use Rattle.acct_calls.proofs.Folds.{folded-nil, folded-first}
use Rattle.acct_calls.proofs.folding.fold_units.Goals as goal

pub loop-point-preserved : goal.loop-point-preserved
loop-point-preserved c =
    let rest = c.in-Some.field-0.rest.now in
    let made = c.loop-point.made.items in
    let units = encode_utf16 (folded_point c.in-Some.field-0.point) in
    ap (λ l. l ++ folded rest) (c.in_ok-push_point.ensures
    ∙ ap (λ p. made ++ encode_utf16 p) c.fold_point.ensures.value)
    ∙ append_assoc made units (folded rest)
    ∙ ap (λ l. made ++ l) (sym (folded-first c.loop-point.left.now rest c.in-Some.field-0.point
    c.in-Some.ensures.points))
    ∙ c.loop-point.invariant

pub returns : goal.returns
returns c =
    let made = c.loop-point.made.items in
    sym (append-nil made)
    ∙ ap (λ l. made ++ l) (sym (ap folded c.in_default.ensures.points ∙ folded-nil))
    ∙ c.loop-point.invariant
