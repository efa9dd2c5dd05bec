-- A descriptor is read exactly from the bytes that spell it, since so it is with its SIDs.
use Rattle.dtyp_access.proofs.SpelledIsRead.{spelled_is_read}
use Rattle.dtyp_access.proofs.ReadIsSpelled.{read_is_spelled}
use Rattle.dtyp_access.proofs.laws.read_bytes_spell.Goals as goal

pub returns : goal.returns
returns c = λ bytes d all. (
  read_is_spelled c.read_bytes_are_written.ensures bytes d all,
  spelled_is_read c.written_bytes_are_read.ensures bytes d,
)
