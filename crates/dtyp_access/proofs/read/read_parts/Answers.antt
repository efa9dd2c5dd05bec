-- The bytes that are read as parts spell them.
use Rattle.std.proofs.Common.{ℕ, ◌<◌, List, w8}
use Rattle.std.proofs.Math.Facts.{Fits-lt-pow}
use Rattle.std.proofs.lemmas.List.Elements.{All-from_get_or}
use Rattle.dtyp_access.proofs.ReadIsSpelled.{AreBytes, parts_if_read}
use Rattle.dtyp_access.proofs.read.read_parts.Goals as goal

pub returns-clause-spelled : goal.returns-clause-spelled
returns-clause-spelled c =
    let bytes : List ℕ = c.args.bytes.now in
    let all : AreBytes bytes =
    All-from_get_or (λ byte. byte < 256) bytes 0 (λ i inside. Fits-lt-pow {w = w8} (c.type_inv.bytes i)) in
    parts_if_read bytes c.parts_if.result c.read_parts_spell.ensures all c.parts_if.ensures.answer
