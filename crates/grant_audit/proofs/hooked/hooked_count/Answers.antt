-- The filter passes just the events that take a row from the outbox, so counting what it yields counts them.
use Rattle.std.proofs.Common.{◌∙◌, rules, tests}
use Rattle.std.proofs.lemmas.Iterator.{YieldsList-from_slice}
use Rattle.std.proofs.lemmas.Iterator.Consumers.{YieldsList-at, YieldsList-from_filter, count_from_yields_List}
use Rattle.grant_audit.specs.Following.{is_hooked}
use Rattle.grant_audit.proofs.Followed.{hooked-counted}
use Rattle.grant_audit.proofs.hooked.hooked_count.Goals as goal

pub returns : goal.returns
returns c =
    count_from_yields_List _ _ c.count.ensures.ran
    (YieldsList-from_filter _ is_hooked
    (YieldsList-at c.filter.ensures.source (YieldsList-from_slice c.args.history.now (cc)))
    c.filter.ensures.closure (λ x r q k. search (rules, tests)))
    ∙ hooked-counted c.args.history.now
