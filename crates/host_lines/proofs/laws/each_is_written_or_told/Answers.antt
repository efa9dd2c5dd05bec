-- A line that is left out is counted, and what is told is counted no more.
use Rattle.host_lines.proofs.Tallies.{none_is_lost}
use Rattle.host_lines.proofs.laws.each_is_written_or_told.Goals as goal

pub returns : goal.returns
returns c = none_is_lost
