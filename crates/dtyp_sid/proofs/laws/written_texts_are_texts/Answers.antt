-- The written text of a SID is one of its texts.
use Rattle.dtyp_sid.proofs.Texts.{written_text}
use Rattle.dtyp_sid.proofs.laws.written_texts_are_texts.Goals as goal

pub returns : goal.returns
returns c = written_text
