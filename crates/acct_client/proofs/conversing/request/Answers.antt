-- After a failed write only a prefix of the requests was sent, and a later request adds nothing to it.
use Rattle.acct_client.proofs.Sending.{sent-cut-by, sent-front-by}
use Rattle.acct_client.proofs.conversing.request.Goals as goal

pub returns-then-line-clause-sent : goal.returns-then-line-clause-sent
returns-then-line-clause-sent g c = λ old before le so_far.
    sent-cut-by c.args.line.now.is_cut old (g.L.Link.told c.args.link.now) before c.args.bytes.now c.if-line.true so_far

pub returns-in-Err-clause-sent : goal.returns-in-Err-clause-sent
returns-in-Err-clause-sent g c = λ old before le so_far.
    sent-front-by c.args.line.now.is_cut old (g.L.Link.told c.args.link.now) (g.L.Link.told c.send.new.link) before
    c.args.bytes.now c.if-line.false le so_far c.in-Err.ensures.err
