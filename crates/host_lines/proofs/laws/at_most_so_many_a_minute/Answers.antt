-- Each line but the first finds its minute running.
use Rattle.host_lines.proofs.Tallies.{at_most}
use Rattle.host_lines.proofs.laws.at_most_so_many_a_minute.Goals as goal

pub returns : goal.returns
returns c = at_most
