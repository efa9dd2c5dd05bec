-- The access check (MS-DTYP 2.5.3): which rights a descriptor grants to a token, and what an opening is granted.
use Rattle.std.specs.Prelude.{◌≡◌, ℕ, ◌^◌, ◌<◌, Bool, true, false, not, ◌&&◌, ◌||◌, List, ◌==◌, bit_and, find, zero}
use Rattle.std.specs.Prelude.{suc, ◌+◌, if◌then◌else◌}
use Rattle.std.specs.List.{list_any}
use Rattle.std.specs.Option.{option_map_or}
use Rattle.std.specs.declared.option.Option.{Option}
use Rattle.std.specs.declared.option.Option.TheVariants.{Some, None}
use Rattle.acct_codes.specs.Descriptors.{inherit_only_ace}
use Rattle.acct_codes.specs.Rights.{generic_mapping, valid_rights, read_control, write_dac, access_system_security}
use Rattle.acct_codes.specs.Rights.{maximum_allowed, generic_all, generic_execute, generic_write, generic_read}
use Rattle.acct_codes.specs.declared.kind.Kind.{Kind}
use Rattle.dtyp_sid.specs.Sids.{sid_eq, SidValue}
use Rattle.dtyp_access.specs.declared.ace.Ace.{Ace}
use Rattle.dtyp_access.specs.declared.ace.AceKind.{AceKind}
use Rattle.dtyp_access.specs.declared.ace.AceKind.TheVariants.{Allow, Deny}
use Rattle.dtyp_access.specs.declared.descriptor.Descriptor.{Descriptor}

-- ======== which rights a descriptor grants to a token (MS-DTYP 2.5.3), one right at a time
-- A right is an access mask of one bit.

-- the number is an access mask of one bit
abbrev pub IsOneRight : ℕ → Type 0
IsOneRight right = (bit : ℕ) × (bit < 32) × (right ≡ 2 ^ bit)

-- whether two access masks have a bit in common
unfoldable pub shares : ℕ → ℕ → Bool
shares mask other = not (bit_and mask other == 0)

-- whether a right is one of the generic ones
abbrev pub is_generic : ℕ → Bool
is_generic right = right == generic_all || right == generic_execute || right == generic_write || right == generic_read

-- whether an entry names the right, which its generic bits and MAXIMUM_ALLOWED never do
unfoldable pub names : Ace → ℕ → Bool
names ace right = shares ace.mask right && not (is_generic right || right == maximum_allowed)

-- whether an entry is for what inherits the list alone, and not for the object itself
unfoldable pub is_inherit_only : Ace → Bool
is_inherit_only ace = shares ace.flags inherit_only_ace

-- whether the token has the SID
unfoldable pub has_sid : List SidValue → SidValue → Bool
has_sid token sid = list_any (λ other. sid_eq other sid) token

-- whether an entry speaks of the token and the right
unfoldable pub applies : List SidValue → ℕ → Ace → Bool
applies token right ace = not (is_inherit_only ace) && names ace right && has_sid token ace.sid

-- whether a kind of entries grants what it names
abbrev pub allows : AceKind → Bool
allows Allow = true
allows Deny = false

abbrev pub is_allow : Ace → Bool
is_allow ace = allows ace.kind

-- whether a list grants the right: the first entry that speaks of it decides
unfoldable pub acl_grants : List SidValue → ℕ → List Ace → Bool
acl_grants token right aces = option_map_or is_allow (find (applies token right) aces) false

-- whether the owner has the right whatever the list says
unfoldable pub is_owners : List SidValue → SidValue → ℕ → Bool
is_owners token owner right = has_sid token owner && (right == read_control || right == write_dac)

-- whether a right is granted where there is an access control list, or none, which grants every right
abbrev pub grants : List SidValue → SidValue → ℕ → Option (List Ace) → Bool
grants token owner right None = true
grants token owner right (Some aces) = is_owners token owner right || acl_grants token right aces

-- whether the descriptor grants the right to the token
unfoldable pub granted : List SidValue → Descriptor → ℕ → Bool
granted token descriptor right = not (right == access_system_security)
    && grants token descriptor.owner right descriptor.acl

-- ======== what an opening grants: the asked rights, each of which must be valid and granted

-- whether a desired access mask asks for the right: by its own bit, or by a generic bit that stands for it
unfoldable pub asks : Kind → ℕ → ℕ → Bool
asks kind desired right =
    (shares desired right && not (is_generic right || right == maximum_allowed))
    || (shares desired generic_all && shares (generic_mapping kind).all right)
    || (shares desired generic_read && shares (generic_mapping kind).read right)
    || (shares desired generic_write && shares (generic_mapping kind).write right)
    || (shares desired generic_execute && shares (generic_mapping kind).execute right)

-- whether the right is one to objects of the kind, and the descriptor grants it to the token
unfoldable pub may_have : Kind → Descriptor → List SidValue → ℕ → Bool
may_have kind descriptor token right = shares (valid_rights kind) right && granted token descriptor right

-- whether an opening gives the right: it is asked for, or all that may be had are
unfoldable pub gives : Kind → Descriptor → List SidValue → ℕ → ℕ → Bool
gives kind descriptor token desired right = asks kind desired right
    || (shares desired maximum_allowed && may_have kind descriptor token right)

-- whether each of the first rights passes a test, from bit 0 on
unfoldable pub all_rights : ℕ → (ℕ → Bool) → Bool
all_rights zero test = true
all_rights (suc bit) test = test (2 ^ bit) && all_rights bit test

-- the access mask of those of the first rights that pass a test
unfoldable pub mask_of : ℕ → (ℕ → Bool) → ℕ
mask_of zero test = 0
mask_of (suc bit) test = (if test (2 ^ bit) then 2 ^ bit else 0) + mask_of bit test

-- what an opening grants: nothing where a right that is asked for may not be had
unfoldable pub opened : Kind → Descriptor → List SidValue → ℕ → Option ℕ
opened kind descriptor token desired =
    if all_rights 32 (λ right. not (asks kind desired right) || may_have kind descriptor token right)
    then Some (mask_of 32 (gives kind descriptor token desired))
    else None
