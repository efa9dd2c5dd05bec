-- The acts of a connection are answered over the machine, which stays in step with the connections.
use Rattle.std.proofs.Common.{◌≡◌, false, OnOk, IfErr, subst}
use Rattle.acct_machine.specs.Step.{state_at}
use Rattle.link_sessions.specs.Connections.{is_served}
use Rattle.link_sessions.specs.Sessions.{closing_of}
use Rattle.acct_server.specs.Replayed.{on_acts, peer_of}
use Rattle.acct_server.specs.steps.Running.{Running, Began, Answered, AnsweredToFull}
use Rattle.acct_server.proofs.Answered.{all-answered, all-full, both-began, both-live}
use Rattle.acct_server.proofs.Moves.{ties-live}
use Rattle.acct_server.proofs.running.Run.answer.Goals as goal

pub invariant_of-self : goal.invariant_of-self
invariant_of-self g c =
    let a = c.args in
    let old = c.self.inside.machine in
    let new = c.answer_all.new.gate in
    ties-live c.self.inside.peers.items (state_at old.past.start old.past.history)
    (state_at new.past.start new.past.history) c.self.invariant
    (both-live (λ m. m.past) _ a.conn c.answer_all.result (is_served (peer_of a.conn a.self.now.peers)) a.acts.now
    a.out.now old c.answer_all.new.taker new c.requires.closed c.requires.conn c.answer_all.ensures.start
    c.answer_all.ensures.ok c.answer_all.ensures.err)

pub returns-clause-began : goal.returns-clause-began
returns-clause-began g c =
    let a = c.args in
    let new = c.answer_all.new.gate in
    subst (λ (x : Running). Began (λ verdicts. on_acts x.machine.start verdicts x.machine.history a.conn a.acts.now)
    x.machine.history new.past.history) c.self.view_is
    (both-began (λ m. m.past) _ a.conn c.answer_all.result (is_served (peer_of a.conn a.self.now.peers)) a.acts.now
    a.out.now c.self.inside.machine c.answer_all.new.taker new c.requires.closed c.requires.conn
    c.answer_all.ensures.ok c.answer_all.ensures.err)

pub returns-clause-ok : goal.returns-clause-ok
returns-clause-ok g c =
    let a = c.args in
    let new = c.answer_all.new.gate in
    let lines = c.answer_all.new.taker.lines.items in
    subst (λ (x : Running). OnOk c.answer_all.result (Answered a.conn x.machine.start a.acts.now x.machine.history
    new.past.history a.out.now.lines.items lines (closing_of a.acts.now))) c.self.view_is
    (all-answered (λ m. m.past) _ a.conn c.answer_all.result (is_served (peer_of a.conn a.self.now.peers)) a.acts.now
    a.out.now c.self.inside.machine c.answer_all.new.taker new c.requires.closed c.requires.conn
    c.answer_all.ensures.ok)

pub returns-clause-full : goal.returns-clause-full
returns-clause-full g c =
    let a = c.args in
    let new = c.answer_all.new in
    subst (λ (x : Running). IfErr c.answer_all.result (λ why. new.taker.is_cut ≡ false → AnsweredToFull a.conn
    x.machine.start a.acts.now x.machine.history new.gate.past.history a.out.now.lines.items new.taker.lines.items
    why)) c.self.view_is
    (all-full (λ m. m.past) _ a.conn c.answer_all.result (is_served (peer_of a.conn a.self.now.peers)) a.acts.now
    a.out.now c.self.inside.machine new.taker new.gate c.requires.closed c.requires.conn c.answer_all.ensures.err)
