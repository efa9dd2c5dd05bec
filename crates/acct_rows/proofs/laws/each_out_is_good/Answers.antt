-- Each change of sound rows stands at its key and keeps its rules, and its number is below the next one.
use Rattle.acct_rows.proofs.Keeping.{each_out_good}
use Rattle.acct_rows.proofs.laws.each_out_is_good.Goals as goal

pub returns : goal.returns
returns c = each_out_good
