-- Where all was written, the status is the one of lines that were run through, which is none of a failed write.
use Rattle.std.proofs.Common.{sym, ap, ◌∙◌}
use Rattle.acct_keeper.specs.Faults.{faults_after}
use Rattle.acct_server.proofs.WriteFaults.{through-no-fault}
use Rattle.acct_server.proofs.replays.finish.Goals as goal

pub returns-in-Ok-write_all-clause-faults : goal.returns-in-Ok-write_all-clause-faults
returns-in-Ok-write_all-clause-faults g c =
    let t = g.T.Sink in
    c.in-Ok-write_all.ensures.count
    ∙ sym (ap (λ b. faults_after b (t.faults c.args.out.now)) (through-no-fault c.args.status c.requires))
