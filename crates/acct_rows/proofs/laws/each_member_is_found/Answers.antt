-- Each member row and each alias row of sound rows is found at its key.
use Rattle.acct_rows.proofs.Keeping.{each_member_found}
use Rattle.acct_rows.proofs.laws.each_member_is_found.Goals as goal

pub returns : goal.returns
returns c = each_member_found
