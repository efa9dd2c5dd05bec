-- A member row or an alias row that wasn't there, put and removed again, leaves the rows as they were.
use Rattle.acct_rows.proofs.Undoing.{undone}
use Rattle.acct_rows.proofs.laws.puts_are_undone.Goals as goal

pub returns : goal.returns
returns c = undone
