-- The refusal that acts end in is that of the last of them.
use Rattle.std.proofs.Common.{arith, ◌∙◌}
use Rattle.link_sessions.proofs.Ending.{closing-at}
use Rattle.link_sessions.proofs.sessions.closing.Goals as goal

pub returns : goal.returns
returns c =
    c.refusal_of.ensures
    ∙ closing-at c.args.acts.now c.index-acts-count.result (omega (arith, c.if-count-eq0.false)) c.index-acts-count.is
