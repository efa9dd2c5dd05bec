-- The rights that are named are added to the others, or taken from them.
use Rattle.lsad_rights.proofs.Coming.{rights-are-added, rights-are-taken}
use Rattle.lsad_rights.proofs.laws.rights_change.Goals as goal

pub returns : goal.returns
returns c = record {
  added =
      rights-are-added c.each_lsa_is_good.ensures c.puts_are_found.ensures c.puts_leave_others.ensures
      c.equal_sids_are_one.ensures;
  taken = rights-are-taken c.each_lsa_is_good.ensures c.puts_are_found.ensures c.puts_leave_others.ensures;
}
