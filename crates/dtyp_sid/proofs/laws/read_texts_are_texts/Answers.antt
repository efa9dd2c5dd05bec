-- A SID is read exactly from its texts.
use Rattle.dtyp_sid.proofs.Texts.{sid_of_text-is, text-of_sid}
use Rattle.dtyp_sid.proofs.laws.read_texts_are_texts.Goals as goal

pub returns : goal.returns
returns c = λ text sid. (text-of_sid text sid, sid_of_text-is text sid)
