-- A replay that was run to its end has rows from which its history may be traced, and the traces are told of it.
use Rattle.std.proofs.Common.{Option, ap, subst}
use Rattle.acct_rows.specs.Rows.{Shown}
use Rattle.acct_server.specs.Replaying.{lists_in}
use Rattle.acct_commands.specs.Auditing.{MayBeTraced}
use Rattle.acct_commands.proofs.auditing.tell.Goals as goal

pub write_traces-requires-clause-traceable : goal.write_traces-requires-clause-traceable
write_traces-requires-clause-traceable g c =
    subst (λ (o : Option Shown). MayBeTraced c.args.config.now c.args.history.now (lists_in o)) c.in-Some.is
    (c.requires.traceable c.in-Done.is)

pub returns-in-Some : goal.returns-in-Some
returns-in-Some g c = record {
  done = λ is. record {
    rows = c.in-Some.opening.lists;
    there = ap lists_in c.in-Some.is;
    written = c.write_traces.ensures.written;
    right = c.write_traces.ensures.right;
    faults = c.write_traces.ensures.faults;
  };
  others = λ other. absurd (other c.in-Done.is);
  later = c.write_traces.ensures.later;
}
