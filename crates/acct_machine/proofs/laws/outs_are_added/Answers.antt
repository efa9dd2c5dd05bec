-- Each entry adds the out rows of the accounts that it makes, changes or removes, and takes at most the first one out.
use Rattle.acct_machine.proofs.Adding.{outs-are-added}
use Rattle.acct_machine.proofs.laws.outs_are_added.Goals as goal

pub returns : goal.returns
returns c =
    outs-are-added c.operations_are_right.ensures c.removed_outs_stay_sound.ensures c.kept_states_are_sound.ensures
