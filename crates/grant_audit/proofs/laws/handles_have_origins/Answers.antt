-- Each handle has one origin.
use Rattle.grant_audit.proofs.Origins.{have-origins}
use Rattle.grant_audit.proofs.laws.handles_have_origins.Goals as goal

pub returns : goal.returns
returns c = have-origins c.handles_come_in_order.ensures.order c.handles_come_in_order.ensures.found
