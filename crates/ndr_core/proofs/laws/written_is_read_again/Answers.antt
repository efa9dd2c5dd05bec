-- Integers, pointers, counts and bytes that are written are read again as the same, as with every shape.
use Rattle.ndr_core.proofs.Again.{read_again as holds}
use Rattle.ndr_core.specs.Parts.{times}
use Rattle.ndr_core.specs.Shapes.{u8, u16, u32, pointer, varying}
use Rattle.ndr_core.proofs.laws.written_is_read_again.Goals as goal

pub returns-clause-small : goal.returns-clause-small
returns-clause-small c = holds u8

pub returns-clause-short : goal.returns-clause-short
returns-clause-short c = holds u16

pub returns-clause-long : goal.returns-clause-long
returns-clause-long c = holds u32

pub returns-clause-pointers : goal.returns-clause-pointers
returns-clause-pointers c = holds pointer

pub returns-clause-counts : goal.returns-clause-counts
returns-clause-counts c = λ most. holds (varying most)

pub returns-clause-bytes : goal.returns-clause-bytes
returns-clause-bytes c = λ count. holds (times count u8)
