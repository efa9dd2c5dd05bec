-- No text is that of two SIDs.
use Rattle.dtyp_sid.proofs.Texts.{one_sid}
use Rattle.dtyp_sid.proofs.laws.texts_are_of_one.Goals as goal

pub returns : goal.returns
returns c = one_sid
