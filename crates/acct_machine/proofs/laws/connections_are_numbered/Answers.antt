-- The connections of a legal history are numbered from 1, at configured listeners, and each entry is of one.
use Rattle.acct_machine.proofs.Connected.{are-connected}
use Rattle.acct_machine.proofs.Passing.{entries-are-numbered}
use Rattle.acct_machine.proofs.laws.connections_are_numbered.Goals as goal

pub returns-clause-state : goal.returns-clause-state
returns-clause-state c = are-connected

pub returns-clause-entries : goal.returns-clause-entries
returns-clause-entries c = entries-are-numbered are-connected
