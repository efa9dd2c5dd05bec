-- Laws of the access check
use Rattle.std.specs.Prelude.{◌≡◌, ℕ, true, List, bit_and}
use Rattle.std.specs.List.{list_all}
use Rattle.std.specs.declared.option.Option.{Option}
use Rattle.std.specs.declared.option.Option.TheVariants.{Some, None}
use Rattle.acct_codes.specs.declared.kind.Kind.{Kind}
use Rattle.acct_codes.specs.Rights.{maximum_allowed, valid_rights}
use Rattle.dtyp_sid.specs.Sids.{SidValue}
use Rattle.dtyp_access.specs.declared.ace.Ace.{Ace}
use Rattle.dtyp_access.specs.declared.descriptor.Descriptor.{Descriptor}
use Rattle.dtyp_access.specs.Granted.{shares, has_sid, is_allow, granted, opened}

-- no entry of the list denies
abbrev pub DeniesNothing : Option (List Ace) → Type 0
DeniesNothing None = Unit {0}
DeniesNothing (Some aces) = list_all is_allow aces ≡ true

-- a token with more SIDs is granted no less where no entry denies
abbrev pub MoreSidsGetNoLess : Type 0
MoreSidsGetNoLess = (token more : List SidValue) (d : Descriptor) (right : ℕ) → DeniesNothing d.acl
    → ((sid : SidValue) → has_sid token sid ≡ true → has_sid more sid ≡ true) → granted token d right ≡ true →
    granted more d right ≡ true

-- what an opening grants lies within the rights of the kind
abbrev pub GrantsAreValid : Type 0
GrantsAreValid = (kind : Kind) (d : Descriptor) (token : List SidValue) (desired grant : ℕ) →
    opened kind d token desired ≡ Some grant → bit_and grant (valid_rights kind) ≡ grant

-- an opening that asks for the maximum grants all that any other opening would
abbrev pub MaximumGrantsAll : Type 0
MaximumGrantsAll = (kind : Kind) (d : Descriptor) (token : List SidValue) (desired grant other plain : ℕ) →
    shares desired maximum_allowed ≡ true
    → opened kind d token desired ≡ Some grant → opened kind d token other ≡ Some plain → bit_and plain grant ≡ plain

-- an opening that asks for nothing grants nothing, and is never refused
abbrev pub NothingIsGranted : Type 0
NothingIsGranted = (kind : Kind) (d : Descriptor) (token : List SidValue) → opened kind d token 0 ≡ Some 0
