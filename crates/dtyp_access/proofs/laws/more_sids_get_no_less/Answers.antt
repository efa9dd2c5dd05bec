-- A token with more SIDs is granted no less where no entry denies.
use Rattle.dtyp_access.proofs.AccessLaws.{more_sids}
use Rattle.dtyp_access.proofs.laws.more_sids_get_no_less.Goals as goal

pub returns : goal.returns
returns c = more_sids
