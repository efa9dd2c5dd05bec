-- The code points of a list of 16-bit units spell these units.
use Rattle.acct_calls.proofs.Points.{Fits-from, units_of-code_points}
use Rattle.acct_calls.proofs.laws.points_spell_units.Goals as goal

pub returns : goal.returns
returns c = λ units fit. units_of-code_points units (Fits-from units fit)
