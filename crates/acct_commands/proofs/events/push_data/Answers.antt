-- The line that is added brings bytes, which a replay takes.
use Rattle.std.proofs.Common.{w8}
use Rattle.std.proofs.Math.Facts.{Fits-lt-pow}
use Rattle.acct_commands.proofs.Taking.{taken-more}
use Rattle.acct_commands.proofs.events.push_data.Goals as goal

pub returns-clause-taken : goal.returns-clause-taken
returns-clause-taken c = λ taken. taken-more c.args.lines.now.items _ c.args.pdu.now taken
    (λ i. Fits-lt-pow {w = w8} (c.type_inv.pdu i)) c.in_ok-push_line.ensures
