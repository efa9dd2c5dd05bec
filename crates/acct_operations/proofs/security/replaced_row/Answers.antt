-- Parts that have an owner where it is named may replace those of a descriptor.
use Rattle.std.proofs.Common.{◌≡◌, Bool, true, false, not, is_some, Option, subst}
use Rattle.std.specs.Prelude.{◌||◌}
use Rattle.acct_codes.specs.Descriptors.{owner_security_information}
use Rattle.dtyp_access.specs.declared.parts.Parts.{Parts}
use Rattle.dtyp_access.specs.Granted.{shares}
use Rattle.acct_operations.specs.Openings.{have_owner}
use Rattle.acct_operations.proofs.security.replaced_row.Goals as goal

named-given : (named given : Bool) → (not named || given) ≡ true → named ≡ true → given ≡ true
named-given true given h is = h
named-given false given h is = cc

pub replaced-descriptor-requires : goal.replaced-descriptor-requires
replaced-descriptor-requires c =
    named-given (shares c.args.info owner_security_information) (is_some c.in-Some.parts.owner)
    (subst (λ (p : Option Parts). have_owner c.args.info p ≡ true) c.in-Some.is c.requires)
