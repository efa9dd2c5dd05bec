-- Each privilege and each right of the tables is one that sound rows may hold.
use Rattle.lsad_rights.proofs.Naming.{privilege-may-be-held, right-may-be-held}
use Rattle.lsad_rights.proofs.laws.rights_may_be_held.Goals as goal

pub returns : goal.returns
returns c = record { privilege = privilege-may-be-held; logon = right-may-be-held }
