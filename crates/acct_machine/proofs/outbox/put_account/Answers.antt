-- A row that is no account's is passed; the first that is one is the answer.
use Rattle.std.proofs.Common.{◌∙◌}
use Rattle.acct_machine.proofs.Scanning.{put-passed, put-here}
use Rattle.acct_machine.proofs.outbox.put_account.Goals as goal

pub loop-row-preserved : goal.loop-row-preserved
loop-row-preserved c =
    put-passed c.args.puts.now c.loop-row.row-index c.row-item.result c.loop-row-test.true c.row-item.is
    c.in_default.not-Account ∙ c.loop-row.invariant

pub returns-in-Account : goal.returns-in-Account
returns-in-Account c =
    put-here c.args.puts.now c.loop-row.row-index c.row-item.result c.in-Account.account c.loop-row-test.true
    c.row-item.is c.in-Account.is ∙ c.loop-row.invariant
