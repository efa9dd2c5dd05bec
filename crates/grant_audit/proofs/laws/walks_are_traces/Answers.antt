-- What is found event by event is what the definition says.
use Rattle.grant_audit.proofs.Audited.{walks-are-traces}
use Rattle.grant_audit.proofs.laws.walks_are_traces.Goals as goal

pub returns : goal.returns
returns c =
    walks-are-traces c.handles_come_in_order.ensures.order c.handles_come_in_order.ensures.few
    c.handles_come_in_order.ensures.found
