-- At the end of the units no code point is left to test, so `all_may_stand` is true of them.
use Rattle.std.proofs.Common.{sym, ap, ◌∙◌}
use Rattle.std.specs.List.{list_all}
use Rattle.acct_calls.specs.Names.{all_may_stand, may_stand}
use Rattle.acct_calls.proofs.Points.{code_points-nil}
use Rattle.acct_calls.proofs.validity.all_may_stand.Goals as goal

pub returns : goal.returns
returns c =
    sym (sym c.loop-point.invariant ∙ ap all_may_stand c.in_default.ensures.points
    ∙ ap (list_all may_stand) code_points-nil)
