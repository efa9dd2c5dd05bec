-- Parts are read exactly from the bytes that spell them, since so it is with their SIDs.
use Rattle.std.proofs.Common.{false}
use Rattle.dtyp_access.proofs.SpelledIsRead.{parts_are_read}
use Rattle.dtyp_access.proofs.ReadIsSpelled.{parts_are_spelled}
use Rattle.dtyp_access.proofs.laws.read_parts_spell.Goals as goal

pub returns : goal.returns
returns c = λ bytes p all. (
  parts_are_spelled c.read_bytes_are_written.ensures false bytes p all,
  parts_are_read c.written_bytes_are_read.ensures false bytes p (λ needed. cc),
)
