-- Each descriptor of sound rows stands at its key and keeps its rules, and its object is there.
use Rattle.acct_rows.proofs.Keeping.{each_desc_good}
use Rattle.acct_rows.proofs.laws.each_descriptor_is_good.Goals as goal

pub returns : goal.returns
returns c = each_desc_good
