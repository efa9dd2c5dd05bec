-- An event gives no handle, or the one that its call opened; and serials are few.
use Rattle.acct_machine.proofs.Coming.{come-in-order, are-found}
use Rattle.acct_machine.proofs.Serials.{serial-at}
use Rattle.acct_machine.proofs.laws.handles_come_in_order.Goals as goal

pub returns-clause-order : goal.returns-clause-order
returns-clause-order c = come-in-order c.kept_states_are_sound.ensures

pub returns-clause-few : goal.returns-clause-few
returns-clause-few c = serial-at

pub returns-clause-found : goal.returns-clause-found
returns-clause-found c = are-found
