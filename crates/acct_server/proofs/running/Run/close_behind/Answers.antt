-- After acts that end in a refusal the connection is gone; after others nothing is done.
use Rattle.std.proofs.Common.{ℕ, List, [], ◌∷◌, ◌++◌, Option, None, sym, ◌∙◌, ap, subst}
use Rattle.acct_machine.specs.Shown.{Past}
use Rattle.acct_machine.specs.declared.entry.Entry.{Entry}
use Rattle.acct_machine.specs.declared.entry.Entry.TheVariants.{Gone}
use Rattle.link_sessions.specs.Connections.{is_served}
use Rattle.acct_server.specs.Replayed.{Doing, Verdicts, IsClosed, line_bytes, on_acts, peer_of}
use Rattle.acct_server.specs.steps.Running.{DoesActs, Answered}
use Rattle.acct_server.proofs.Answered.{closed-served}
use Rattle.acct_server.proofs.Bytes.{on-ok-2}
use Rattle.acct_server.proofs.running.Run.close_behind.Goals as goal

pub close-requires-clause-closed : goal.close-requires-clause-closed
close-requires-clause-closed g c =
    closed-served (is_served (peer_of c.args.conn c.args.self.now.peers)) c.args.acts.now
    (c.in-Some.place, c.in-Some.cause) c.requires.closed (sym c.closing.ensures ∙ c.in-Some.is)

pub returns-in-Some-clause-acts : goal.returns-in-Some-clause-acts
returns-in-Some-clause-acts g c = λ start before old answered.
    let a = c.args in
    let what : Verdicts → Doing = λ verdicts. on_acts start verdicts before a.conn a.acts.now in
    let gone = a.self.now.machine.history ++ Gone a.conn ∷ [] in
    let lines = a.lines.now.items ++ line_bytes (IsClosed a.conn c.in-Some.place c.in-Some.cause) in
    let done : DoesActs what before gone old lines None =
    subst (λ (o : Option (ℕ × ℕ)). Answered a.conn start a.acts.now before a.self.now.machine.history old
    a.lines.now.items o) (sym c.closing.ensures ∙ c.in-Some.is) answered in
    on-ok-2 c.close.result
    (λ machine printed. subst (λ (h : List Entry). DoesActs what before h old c.close.new.lines.items None)
    (sym (ap (λ (m : Past). m.history) machine))
    (subst (λ (bs : List ℕ). DoesActs what before gone old bs None) (sym printed) done))
    c.close.ensures.machine c.close.ensures.lines

pub returns-in-None-clause-acts : goal.returns-in-None-clause-acts
returns-in-None-clause-acts g c = λ start before old answered.
    let a = c.args in
    subst (λ (o : Option (ℕ × ℕ)). Answered a.conn start a.acts.now before a.self.now.machine.history old
    a.lines.now.items o) (sym c.closing.ensures ∙ c.in-None.is) answered
