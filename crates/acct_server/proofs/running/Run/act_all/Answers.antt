-- Where there is no act, nothing is done.
use Rattle.std.proofs.Common.{List, [], None, sym, ◌∙◌, subst}
use Rattle.rpc_session.specs.declared.sessions.Act.{Act}
use Rattle.acct_server.specs.Replayed.{on_acts}
use Rattle.acct_server.specs.steps.Running.{DoesActs}
use Rattle.acct_server.proofs.Bytes.{is_nil}
use Rattle.acct_server.proofs.Moves.{none-done}
use Rattle.acct_server.proofs.running.Run.act_all.Goals as goal

pub returns-then-is_empty-clause-acts : goal.returns-then-is_empty-clause-acts
returns-then-is_empty-clause-acts g c =
    let a = c.args in
    let m = a.self.now.machine in
    let lines = c.new.result.items in
    subst (λ (xs : List Act). DoesActs (λ verdicts. on_acts m.start verdicts m.history a.conn xs) m.history m.history []
    lines None) (sym (is_nil a.acts.now (sym c.is_empty.ensures ∙ c.if-is_empty.true)))
    (none-done m.start a.conn m.history lines c.new.ensures.items)
