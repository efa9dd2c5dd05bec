-- Pieces may be heard one after the other, since what is decided of a stream stays however it goes on.
use Rattle.acct_client.proofs.Cutting.{cut_anywhere_is}
use Rattle.acct_client.proofs.hearing.streams_are_cut_anywhere.Goals as goal

pub returns : goal.returns
returns c = cut_anywhere_is c.front_is_stable.ensures
