-- The out rows of a state are those of its history, less those that were taken out, which were the first.
use Rattle.acct_machine.proofs.Adding.{outs-are-left, outs-only-grow}
use Rattle.acct_machine.proofs.laws.outs_are_left.Goals as goal

pub returns-clause-left : goal.returns-clause-left
returns-clause-left c =
    outs-are-left c.operations_are_right.ensures c.removed_outs_stay_sound.ensures c.kept_states_are_sound.ensures

pub returns-clause-grow : goal.returns-clause-grow
returns-clause-grow c = outs-only-grow
