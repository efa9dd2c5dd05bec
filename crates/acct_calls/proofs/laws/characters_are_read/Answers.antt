-- Characters are the code points of their units.
use Rattle.acct_calls.proofs.Points.{code_points-characters}
use Rattle.acct_calls.proofs.laws.characters_are_read.Goals as goal

pub returns : goal.returns
returns c = code_points-characters
