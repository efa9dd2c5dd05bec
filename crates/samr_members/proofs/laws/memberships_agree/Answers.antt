-- The members of groups and the groups of users agree, and so do the members of aliases and the aliases of SIDs.
use Rattle.samr_members.proofs.Agreeing.{agree}
use Rattle.samr_members.proofs.laws.memberships_agree.Goals as goal

pub returns : goal.returns
returns c = agree
