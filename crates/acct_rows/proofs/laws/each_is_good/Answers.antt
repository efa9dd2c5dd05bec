-- Each domain and each account of sound rows stands at its key and keeps its rules.
use Rattle.acct_rows.proofs.Keeping.{each_good}
use Rattle.acct_rows.proofs.laws.each_is_good.Goals as goal

pub returns : goal.returns
returns c = each_good
