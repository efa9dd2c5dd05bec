-- A right is one bit, and it is granted where the mask of the granted rights shares this bit.
use Rattle.std.proofs.Common.{◌≡◌, ℕ, ◌^◌, ◌∙◌, ap, sym, subst, bit_and, List}
use Rattle.dtyp_sid.specs.Sids.{SidValue}
use Rattle.std.specs.Prelude.{not, ◌==◌}
use Rattle.dtyp_access.specs.Granted.{shares, granted}
use Rattle.dtyp_access.proofs.check.is_granted.Goals as goal

pub returns : goal.returns
unfolding shares
returns c =
    let bit = c.requires in
    subst (λ (right : ℕ). not (bit_and c.granted_rights.result right == 0)
    ≡ granted c.args.token.now c.args.d.now right) (sym bit.2)
    (c.granted_rights.ensures bit.0 bit.1
    ∙ ap (λ (sids : List SidValue). granted sids c.args.d.now (2 ^ bit.0)) c.sids.ensures)
