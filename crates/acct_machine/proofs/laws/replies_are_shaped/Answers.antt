-- Each reply of a legal history from sound rows is a fault or has its operation's shape, as long as there is room.
use Rattle.acct_machine.proofs.Answering.{answers-in-history}
use Rattle.acct_machine.proofs.laws.replies_are_shaped.Goals as goal

pub returns : goal.returns
returns c =
    answers-in-history c.operations_are_right.ensures c.refusals_have_shape.ensures c.grants_are_valid.ensures
    c.kept_states_are_sound.ensures
