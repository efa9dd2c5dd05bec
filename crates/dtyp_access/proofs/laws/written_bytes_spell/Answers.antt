-- The written bytes of parts spell them, whatever bytes follow: from the lengths of written SIDs.
use Rattle.dtyp_access.proofs.WrittenIsSpelled.{written_is_spelled}
use Rattle.dtyp_access.proofs.laws.written_bytes_spell.Goals as goal

pub returns : goal.returns
returns c = written_is_spelled c.written_bytes_have_lengths.ensures
