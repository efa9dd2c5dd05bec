-- Bit for bit, a descriptor grants what its list does, or without a list all, but never ACCESS_SYSTEM_SECURITY.
use Rattle.std.proofs.Common.{◌≡◌, ◌^◌, ◌∙◌, ap, sym, List, Some}
use Rattle.dtyp_access.specs.declared.ace.Ace.{Ace}
use Rattle.std.specs.Prelude.{◌&&◌, not, ◌==◌}
use Rattle.acct_codes.specs.Rights.{access_system_security}
use Rattle.dtyp_access.specs.Granted.{shares, granted, grants}
use Rattle.dtyp_access.proofs.Masks.{shares-and}
use Rattle.dtyp_access.proofs.Nameless.{shares-all, shares-every}
use Rattle.dtyp_access.proofs.Walk.{and_swapped}
use Rattle.dtyp_access.proofs.check.granted_rights.Goals as goal
use Rattle.dtyp_access.proofs.check.granted_rights.Goals.{in-Some, in-None}

pub returns : goal.returns
unfolding granted
returns c = λ bit within.
    let token = c.args.token.now in
    let d = c.args.d.now in
    let listed : shares c.match-d.granted (2 ^ bit) ≡ grants token d.owner (2 ^ bit) d.acl = elim c.match-d.branch [
      | in-Some w ↦
          ap (λ n. shares n (2 ^ bit)) w.granted-is
          ∙ w.listed_rights-granted.ensures bit within
          ∙ ap (λ (aces : List Ace). grants token d.owner (2 ^ bit) (Some aces)) w.aces.ensures
          ∙ ap (grants token d.owner (2 ^ bit)) (sym w.in-Some.is)
      | in-None w ↦
          ap (λ n. shares n (2 ^ bit)) w.granted-is
          ∙ shares-every bit within
          ∙ ap (grants token d.owner (2 ^ bit)) (sym w.in-None.is)
    ] in
    shares-and c.match-d.granted 0xFEFF_FFFF bit
    ∙ ap (λ b. b && shares 0xFEFF_FFFF (2 ^ bit)) listed
    ∙ ap (λ b. grants token d.owner (2 ^ bit) d.acl && b) (shares-all bit within)
    ∙ and_swapped (grants token d.owner (2 ^ bit) d.acl) (not ((2 ^ bit) == access_system_security))
