-- The dialogue and its link stand as the command wants it after what was read; an answer is whole or awaited.
use Rattle.std.proofs.Common.{◌≡◌, ◌+◌, ◌≤◌, not}
use Rattle.acct_client.specs.Askers.{bytes_taken}
use Rattle.client_commands.specs.declared.command.Command.{Command}
use Rattle.acct_client.specs.steps.Parts.{Stands, steps_left}
use Rattle.acct_client.specs.Talks.{IsBegun, most_read}
use Rattle.acct_client.proofs.conversing.exchange.Given as goal

abbrev pub invariant-loop-whole : goal.invariant-loop-whole
invariant-loop-whole g l = record {
  whole : l.asker.is_awaiting ≡ not l.is_whole;
  room : bytes_taken l.asker + l.line.room ≤ most_read;
  stands : (command : Command) → IsBegun command l.initial.asker
      → Stands command (g.L.Link.told l.initial.link) (g.L.Link.told l.link) l.asker l.line.room l.line.is_cut
      l.is_whole;
}

abbrev pub decreases-loop-whole : goal.decreases-loop-whole
decreases-loop-whole g l = steps_left l.line.room l.asker l.is_whole
