-- A token with the owner's SID has just the bits of READ_CONTROL and WRITE_DAC from it, and any other token none.
use Rattle.std.proofs.Common.{◌∙◌, sym}
use Rattle.dtyp_access.specs.Granted.{is_owners}
use Rattle.dtyp_access.proofs.Masks.{shares-none}
use Rattle.dtyp_access.proofs.Nameless.{shares-owners}
use Rattle.dtyp_access.proofs.check.owners_rights.Goals as goal

pub returns-then-has_sid : goal.returns-then-has_sid
unfolding is_owners
returns-then-has_sid c = λ bit within. rw (sym c.has_sid.ensures ∙ c.if-has_sid.true) (shares-owners bit within)

pub returns-else-has_sid : goal.returns-else-has_sid
unfolding is_owners
returns-else-has_sid c = λ bit within. rw (sym c.has_sid.ensures ∙ c.if-has_sid.false) (shares-none bit)
