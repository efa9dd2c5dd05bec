-- Parts that are read keep their limits: the bytes spell them.
use Rattle.dtyp_access.proofs.ReadParts.{read_are_parts}
use Rattle.dtyp_access.proofs.laws.read_parts_are_parts.Goals as goal

pub returns : goal.returns
returns c = read_are_parts c.read_parts_spell.ensures
