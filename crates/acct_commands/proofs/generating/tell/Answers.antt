-- A replay that was run to its end has rows, and what is told of it is the summary of its history and of these.
use Rattle.std.proofs.Common.{ap}
use Rattle.acct_server.specs.Replaying.{lists_in}
use Rattle.acct_commands.proofs.generating.tell.Goals as goal

pub returns-in-Some : goal.returns-in-Some
returns-in-Some g c = record {
  done = λ is. record {
    rows = c.in-Some.rows.lists;
    there = ap lists_in c.in-Some.is;
    written = c.write_summary.ensures.written;
  };
  others = λ other. absurd (other c.in-Done.is);
  later = c.write_summary.ensures.later;
}
