-- Two SIDs are told equal, by equality and by order, exactly where they are one.
use Rattle.dtyp_sid.proofs.Equal.{equal_sids}
use Rattle.dtyp_sid.proofs.laws.equal_sids_are_one.Goals as goal

pub returns : goal.returns
returns c = equal_sids
