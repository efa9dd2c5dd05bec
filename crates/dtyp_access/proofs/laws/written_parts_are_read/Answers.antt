-- Parts that are written are read as the same ones, whatever bytes follow: what is written spells them.
use Rattle.std.proofs.Common.{◌++◌, false}
use Rattle.dtyp_access.specs.Parts.{parts_bytes}
use Rattle.dtyp_access.proofs.SpelledIsRead.{parts_are_read}
use Rattle.dtyp_access.proofs.laws.written_parts_are_read.Goals as goal

pub returns : goal.returns
returns c = λ p rest are. parts_are_read c.written_bytes_are_read.ensures false (parts_bytes p ++ rest) p (λ needed. cc)
    (c.written_bytes_spell.ensures p rest are)
