-- Each prefix of a legal history is legal.
use Rattle.acct_machine.proofs.Passing.{fronts-are-legal}
use Rattle.acct_machine.proofs.laws.fronts_are_legal.Goals as goal

pub returns : goal.returns
returns c = fronts-are-legal
