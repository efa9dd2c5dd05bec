-- The filter passes just the calls of the history, so counting what it yields counts the calls.
use Rattle.std.proofs.Common.{◌∙◌, rules, tests}
use Rattle.std.proofs.lemmas.Iterator.{YieldsList-from_slice}
use Rattle.std.proofs.lemmas.Iterator.Consumers.{YieldsList-at, YieldsList-from_filter, count_from_yields_List}
use Rattle.acct_commands.specs.Generating.{is_call}
use Rattle.acct_commands.proofs.Counting.{calls-counted}
use Rattle.acct_commands.proofs.summary.call_count.Goals as goal

pub returns : goal.returns
returns c =
    count_from_yields_List _ _ c.count.ensures.ran
    (YieldsList-from_filter _ is_call
    (YieldsList-at c.filter.ensures.source (YieldsList-from_slice c.args.history.now (cc)))
    c.filter.ensures.closure (λ x r q k. search (rules, tests)))
    ∙ calls-counted c.args.history.now
