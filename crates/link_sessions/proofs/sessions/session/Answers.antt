-- The conversation stands as it was once the connection's end is entered, the last entry of a legal history.
use Rattle.std.proofs.Common.{subst}
use Rattle.acct_machine.specs.State.{Start}
use Rattle.link_sessions.specs.Sessions.{Ended}
use Rattle.link_sessions.proofs.Ending.{conversation-on}
use Rattle.link_sessions.proofs.sessions.session.Goals as goal

pub returns-clause-session : goal.returns-clause-session
returns-clause-session g c =
    let a = c.args in
    let m = g.G.Gate in
    let t = g.L.Link in
    let before = m.known c.converse-end.new.gate in
    let after = m.known c.end_conn.new.gate in
    let ended =
    subst (λ (k : Start). Ended k a.conn before after) c.converse-end.ensures.start c.end_conn.ensures.ended in
    record {
      conversation = conversation-on (m.start a.gate.now) a.conn a.max_read c.converse-end.result (t.told a.link.now)
          (t.told c.converse-end.new.link) (m.known a.gate.now) before after ended c.converse-end.ensures.conversation;
      faults = c.converse-end.ensures.faults;
      before = ended.before;
      gone = ended.gone;
      legal = ended.legal;
    }
