-- A program is still told of changes after the numbers that were taken so far.
use Rattle.std.proofs.Common.{◌≡◌, true}
use Rattle.acct_machine.specs.Outbox.{has_hook}
use Rattle.account_vectors.proofs.tests.machine.hooks.take_all.Given as goal

abbrev pub invariant-loop-number : goal.invariant-loop-number
invariant-loop-number l = has_hook l.machine.past.start.config ≡ true
