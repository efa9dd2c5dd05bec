-- The filter passes just the changes that put an account, so counting what it yields counts these.
use Rattle.std.proofs.Common.{rules, tests}
use Rattle.std.proofs.lemmas.Iterator.{YieldsList-from_slice}
use Rattle.std.proofs.lemmas.Iterator.Consumers.{YieldsList-at, YieldsList-from_filter, count_from_yields_List}
use Rattle.host_world.specs.Host.{puts_account}
use Rattle.host_world.proofs.host_keeper.accounts_put.Goals as goal

pub returns : goal.returns
returns c =
    count_from_yields_List _ _ c.count.ensures.ran
    (YieldsList-from_filter _ puts_account
    (YieldsList-at c.filter.ensures.source (YieldsList-from_slice c.args.changes.now (cc)))
    c.filter.ensures.closure (λ x r q k. search (rules, tests)))
