-- A key that is no account's is passed; the first that is one is the answer.
use Rattle.std.proofs.Common.{◌∙◌}
use Rattle.acct_machine.proofs.Scanning.{removal-passed, removal-here}
use Rattle.acct_machine.proofs.outbox.removed_account.Goals as goal

pub loop-key-preserved : goal.loop-key-preserved
loop-key-preserved c =
    removal-passed c.args.removes.now c.loop-key.key-index c.key-item.result c.loop-key-test.true c.key-item.is
    c.in_default.not-Account ∙ c.loop-key.invariant

pub returns-in-Account : goal.returns-in-Account
returns-in-Account c =
    removal-here c.args.removes.now c.loop-key.key-index c.key-item.result c.in-Account.domain
    c.in-Account.rid c.loop-key-test.true c.key-item.is c.in-Account.is ∙ c.loop-key.invariant
