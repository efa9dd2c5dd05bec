-- What is written of parts are bytes: from the lengths of written SIDs.
use Rattle.dtyp_access.proofs.SmallBytes.{are_bytes}
use Rattle.dtyp_access.proofs.laws.written_are_bytes.Goals as goal

pub returns : goal.returns
returns c = are_bytes c.written_bytes_have_lengths.ensures
