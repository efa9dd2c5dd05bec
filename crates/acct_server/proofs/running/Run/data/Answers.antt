-- `Run::data` does the acts that its bytes complete, and no stream that was heard grew by more than these bytes.
use Rattle.std.proofs.Common.{◌+◌, length, List, sym, subst}
use Rattle.rpc_session.specs.declared.sessions.Act.{Act}
use Rattle.link_sessions.specs.declared.connections.Peer.{Peer}
use Rattle.acct_server.specs.steps.Running.{AllHeard, Hears}
use Rattle.acct_server.proofs.Heard.{heard-there, all-heard-behind}
use Rattle.acct_server.proofs.Moves.{data-does, data-stops}
use Rattle.acct_server.proofs.running.Run.data.Goals as goal

pub returns-in_err-act_all-clause-memory : goal.returns-in_err-act_all-clause-memory
returns-in_err-act_all-clause-memory g c = λ memory.
    let a = c.args in
    data-stops a.self.now c.hear.new.self c.act_all.new.self a.conn a.bytes.now c.deref.result.now
    (subst (λ (as' : List Act). Hears a.conn a.bytes.now a.self.now as' c.hear.new.self) (sym c.deref.ensures.value)
    c.in_ok-acts.ensures.acts)
    c.in_err-act_all.ensures.began

pub returns-clause-does : goal.returns-clause-does
returns-clause-does g c =
    let a = c.args in
    data-does a.self.now c.hear.new.self c.act_all.new.self a.conn a.bytes.now c.in_ok-act_all.field-0.output.items
    c.deref.result.now c.in_ok-act_all.field-0.full
    (subst (λ (as' : List Act). Hears a.conn a.bytes.now a.self.now as' c.hear.new.self) (sym c.deref.ensures.value)
    c.in_ok-acts.ensures.acts) c.in_ok-act_all.ensures.acts c.in_ok-act_all.ensures.peers c.act_all.ensures.start

pub act_all-requires-clause-there : goal.act_all-requires-clause-there
act_all-requires-clause-there g c =
    heard-there c.args.self.now c.hear.new.self c.args.conn c.args.bytes.now c.in_ok-acts.acts.items
    c.in_ok-acts.ensures.acts

pub returns-clause-hears : goal.returns-clause-hears
returns-clause-hears g c = λ most all.
    let a = c.args in
    let mid = c.hear.new.self in
    subst (λ (ps : List Peer). AllHeard (most + length a.bytes.now) ps) (sym c.in_ok-act_all.ensures.peers)
    (all-heard-behind (most + length a.bytes.now) a.conn c.in_ok-act_all.field-0.full mid.peers
    (heard-there a.self.now mid a.conn a.bytes.now c.in_ok-acts.acts.items c.in_ok-acts.ensures.acts)
    (c.in_ok-acts.ensures.hears most all))
