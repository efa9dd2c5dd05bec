-- Each connection of a legal history is opened once: the entries before its opening are of others.
use Rattle.acct_machine.proofs.Passing.{opened-once}
use Rattle.acct_machine.proofs.laws.connections_are_opened_once.Goals as goal

pub returns : goal.returns
returns c = opened-once c.connections_are_numbered.ensures.state
