-- None of the rows passed is an account's: those left decide.
use Rattle.std.proofs.Common.{◌≡◌, drop}
use Rattle.acct_rules.specs.Planned.{put_account}
use Rattle.acct_machine.proofs.outbox.put_account.Given as goal

abbrev pub invariant-loop-row : goal.invariant-loop-row
invariant-loop-row l = put_account (drop l.row-index l.puts) ≡ put_account l.puts
