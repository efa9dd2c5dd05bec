-- After each outcome `out` has the bytes of the outcomes so far after what it had, and each of these is whole.
use Rattle.rpc_pdu.specs.Written.{outcome_bytes}
use Rattle.rpc_pdu.specs.Written.{IsWholeOutcome}
use Rattle.rpc_pdu.proofs.Pushes.{pushed_none, pushed_more, pushed_all}
use Rattle.rpc_pdu.proofs.writing.push_outcomes.Goals as goal

pub loop-outcome-init : goal.loop-outcome-init
loop-outcome-init c = pushed_none outcome_bytes IsWholeOutcome c.args.out.now.items c.args.outcomes.now

pub loop-outcome-preserved : goal.loop-outcome-preserved
loop-outcome-preserved c =
    pushed_more outcome_bytes IsWholeOutcome c.args.out.now.items c.loop-outcome.out.items c.push_outcome.new.out.items
    c.args.outcomes.now c.loop-outcome.outcome-index c.outcome-item.result c.loop-outcome-test.true c.outcome-item.is
    c.in_ok-push_outcome.ensures.bytes c.in_ok-push_outcome.ensures.whole c.loop-outcome.invariant

pub returns-clause-bytes : goal.returns-clause-bytes
returns-clause-bytes c =
    (pushed_all outcome_bytes IsWholeOutcome c.args.out.now.items c.loop-outcome.out.items c.args.outcomes.now
    c.loop-outcome.outcome-index c.loop-outcome-test.false c.loop-outcome.invariant).0

pub returns-clause-whole : goal.returns-clause-whole
returns-clause-whole c =
    (pushed_all outcome_bytes IsWholeOutcome c.args.out.now.items c.loop-outcome.out.items c.args.outcomes.now
    c.loop-outcome.outcome-index c.loop-outcome-test.false c.loop-outcome.invariant).1
