-- Each trace of a legal history is right.
use Rattle.std.proofs.Common.{[]}
use Rattle.acct_machine.specs.State.{Start}
use Rattle.grant_audit.specs.Traces.{traces}
use Rattle.grant_audit.proofs.Origins.{tracked-first}
use Rattle.grant_audit.proofs.Traced.{traces-right}
use Rattle.grant_audit.proofs.laws.traces_are_right.Goals as goal

pub returns : goal.returns
unfolding traces
returns c = λ config rows history right sound legal.
    let start : Start = record { config = config; rows = rows; faults = legal.faults } in
    traces-right c.handles_come_in_order.ensures.order c.handles_come_in_order.ensures.found start [] history right sound
    tt legal.legal (tracked-first start)
