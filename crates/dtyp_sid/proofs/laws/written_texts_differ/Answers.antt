-- Two SIDs that have the same written text are one.
use Rattle.dtyp_sid.proofs.Texts.{written_one}
use Rattle.dtyp_sid.proofs.laws.written_texts_differ.Goals as goal

pub returns : goal.returns
returns c = written_one
