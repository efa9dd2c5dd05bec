-- `write` sends the whole answer, or a prefix of it where the one write fails.
use Rattle.link_sessions.proofs.Faults.{sent-whole, sent-in-part}
use Rattle.link_sessions.proofs.takers.write.Goals as goal

pub returns-clause-ok : goal.returns-clause-ok
returns-clause-ok g c =
    let t = g.L.Link in
    sent-whole (t.told c.args.link.now) (t.told c.send.new.link) c.args.bytes.now c.send.result c.send.ensures.ok
    c.send.ensures.faults

pub returns-clause-err : goal.returns-clause-err
returns-clause-err g c =
    let t = g.L.Link in
    sent-in-part (t.told c.args.link.now) (t.told c.send.new.link) c.args.bytes.now c.send.result c.send.ensures.err
    c.send.ensures.faults
