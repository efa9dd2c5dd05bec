-- The bytes that are read as a descriptor spell it.
use Rattle.std.proofs.Common.{ℕ, ◌<◌, List, w8}
use Rattle.std.proofs.Math.Facts.{Fits-lt-pow}
use Rattle.std.proofs.lemmas.List.Elements.{All-from_get_or}
use Rattle.dtyp_access.proofs.ReadIsSpelled.{AreBytes, descriptor_if_read}
use Rattle.dtyp_access.proofs.read.read_descriptor.Goals as goal

pub returns-clause-spelled : goal.returns-clause-spelled
returns-clause-spelled c =
    let bytes : List ℕ = c.args.bytes.now in
    let all : AreBytes bytes =
    All-from_get_or (λ byte. byte < 256) bytes 0 (λ i inside. Fits-lt-pow {w = w8} (c.type_inv.bytes i)) in
    descriptor_if_read bytes c.owned_parts.result c.read_bytes_spell.ensures all c.owned_parts.ensures.answer
