-- Bit for bit, the mask has the desired rights that are named and those that a desired generic bit stands for.
use Rattle.std.proofs.Common.{refl}
use Rattle.dtyp_access.specs.Granted.{asks}
use Rattle.dtyp_access.proofs.Masks.{shares-and, shares-or, shares-if}
use Rattle.dtyp_access.proofs.Nameless.{shares-named}
use Rattle.dtyp_access.proofs.check.asked_rights.Goals as goal

pub returns : goal.returns
unfolding asks
returns c = λ bit within.
    rw (shares-or, shares-or, shares-or, shares-or, shares-and, shares-named bit within)
    (rw (c.meant.ensures, c.meant-2.ensures, c.meant-3.ensures, c.meant-4.ensures)
    (rw (shares-if, shares-if, shares-if, shares-if, c.mapping_of-mapping.ensures) refl))
