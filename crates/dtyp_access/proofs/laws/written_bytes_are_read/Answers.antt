-- A descriptor that is written is read as the same one, whatever bytes follow: what is written spells it.
use Rattle.dtyp_access.specs.Parts.{parts_of, descriptor_bytes}
use Rattle.std.proofs.Common.{◌++◌}
use Rattle.dtyp_access.proofs.SpelledIsRead.{spelled_is_read}
use Rattle.dtyp_access.proofs.laws.written_bytes_are_read.Goals as goal

pub returns : goal.returns
returns c = λ d rest is. spelled_is_read c.written_bytes_are_read.ensures (descriptor_bytes d ++ rest) d
    (c.written_bytes_spell.ensures (parts_of d) rest is)
