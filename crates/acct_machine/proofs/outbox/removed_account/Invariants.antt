-- None of the keys passed is an account's: those left decide.
use Rattle.std.proofs.Common.{◌≡◌, drop}
use Rattle.acct_rules.specs.Planned.{removed_account}
use Rattle.acct_machine.proofs.outbox.removed_account.Given as goal

abbrev pub invariant-loop-key : goal.invariant-loop-key
invariant-loop-key l = removed_account (drop l.key-index l.removes) ≡ removed_account l.removes
