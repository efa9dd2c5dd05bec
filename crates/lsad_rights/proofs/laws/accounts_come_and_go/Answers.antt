-- The account that is made stands at its SID, and the one that is deleted stands there no more.
use Rattle.lsad_rights.proofs.Coming.{account-made, account-gone}
use Rattle.lsad_rights.proofs.laws.accounts_come_and_go.Goals as goal

pub returns : goal.returns
returns c = record {
  made = account-made c.puts_are_found.ensures c.puts_leave_others.ensures;
  deleted = λ r sid asked. account-gone c.equal_sids_are_one.ensures r sid;
}
