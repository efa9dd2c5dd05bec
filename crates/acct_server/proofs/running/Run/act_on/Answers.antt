-- Acts that were answered are done, once their refusal has ended the connection.
use Rattle.std.proofs.Common.{ℕ, List, [], subst}
use Rattle.link_sessions.specs.Sessions.{closing_of}
use Rattle.acct_server.specs.steps.Running.{Answered}
use Rattle.acct_server.proofs.Bytes.{where-ok}
use Rattle.acct_server.proofs.running.Run.act_on.Goals as goal

pub returns-in_ok-close_behind-in-Ok-clause-acts : goal.returns-in_ok-close_behind-in-Ok-clause-acts
returns-in_ok-close_behind-in-Ok-clause-acts g c =
    let a = c.args in
    let m = a.self.now.machine in
    let mid = c.answer-answered.new.self.machine.history in
    let lines = c.answer-answered.new.out.lines.items in
    c.in_ok-close_behind-in-Ok.ensures.acts m.start m.history []
    (subst (λ (old : List ℕ). Answered a.conn m.start a.acts.now m.history mid old lines (closing_of a.acts.now))
    c.new-out.ensures.lines
    (where-ok c.answer-answered.result _ c.in-Ok.is c.answer-answered.ensures.ok))
