-- Connections 1 and 2 are still live after the lines that were told so far.
use Rattle.std.proofs.Common.{◌≡◌, true}
use Rattle.acct_machine.specs.State.{is_live}
use Rattle.acct_machine.specs.Machine.{state_of}
use Rattle.account_vectors.proofs.tests.machine.scripts.tell.Given as goal

abbrev pub invariant-loop-line : goal.invariant-loop-line
invariant-loop-line g l = record {
  first : is_live 1 (state_of l.machine.past).conns ≡ true;
  second : is_live 2 (state_of l.machine.past).conns ≡ true;
}
