-- Names, LUIDs and bits lead back to each other.
use Rattle.lsad_rights.proofs.Naming.{low-leads-back, right-named-privilege, right-named-logon, bits-lead-back}
use Rattle.lsad_rights.proofs.Naming.{held-leads-back}
use Rattle.lsad_rights.proofs.laws.names_lead_back.Goals as goal

pub returns : goal.returns
returns c = record {
  luid = low-leads-back;
  privilege = right-named-privilege;
  logon = right-named-logon;
  bit = bits-lead-back;
  held = held-leads-back;
}
