-- Entries of other connections change nothing that is said of a connection.
use Rattle.acct_machine.proofs.Passing.{others-change-nothing}
use Rattle.acct_machine.proofs.laws.others_change_nothing.Goals as goal

pub returns : goal.returns
returns c = others-change-nothing
