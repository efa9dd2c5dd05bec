-- At the end of the units no code point is left to test, so `is_dots_and_spaces` is true of them.
use Rattle.std.proofs.Common.{sym, ap, ◌∙◌}
use Rattle.std.specs.List.{list_all}
use Rattle.acct_calls.specs.Names.{is_dots_and_spaces, is_dot_or_space}
use Rattle.acct_calls.proofs.Points.{code_points-nil}
use Rattle.acct_calls.proofs.validity.is_dots_and_spaces.Goals as goal

pub returns : goal.returns
returns c =
    sym (sym c.loop-point.invariant ∙ ap is_dots_and_spaces c.in_default.ensures.points
    ∙ ap (list_all is_dot_or_space) code_points-nil)
