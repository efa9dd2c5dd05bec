-- `entries_of` meets its contract: the entries so far are those of the rows so far.
use Rattle.std.proofs.Common.{arith, ◌∙◌, ap, map}
use Rattle.std.proofs.lemmas.Grind.{common_steps}
use Rattle.std.proofs.lemmas.List.{take_all}
use Rattle.acct_tables.specs.steps.Primaries.{by_primary}
use Rattle.acct_tables.proofs.primaries.entries_of.Goals as goal

pub loop-account-preserved : goal.loop-account-preserved
loop-account-preserved c = grind (arith, common_steps)

pub returns : goal.returns
returns c =
    c.loop-account.invariant ∙ ap (map by_primary)
    (take_all c.loop-account.account-index c.args.accounts.now c.loop-account-test.false)
