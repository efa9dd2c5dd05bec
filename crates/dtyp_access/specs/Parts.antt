-- The parts of a descriptor, their limits, and the bytes that they are written as.
use Rattle.std.specs.Prelude.{◌≡◌, ℕ, true, is_some, if◌then◌else◌, ◌^◌, ◌<◌, ◌≤◌, nat_le, Bool, List, length, All, ◌+◌}
use Rattle.std.specs.Prelude.{[], ◌∷◌, ◌++◌}
use Rattle.std.specs.Int.{w16, w32, to_le_bytes}
use Rattle.std.specs.List.{flat_map}
use Rattle.std.specs.Option.{unwrap_or}
use Rattle.std.specs.declared.option.Option.{Option}
use Rattle.std.specs.declared.option.Option.TheVariants.{Some, None}
use Rattle.acct_codes.specs.Descriptors.{se_dacl_present, se_self_relative, security_descriptor_revision, acl_revision}
use Rattle.acct_codes.specs.Descriptors.{access_allowed_ace_type, access_denied_ace_type, owner_security_information}
use Rattle.acct_codes.specs.Descriptors.{group_security_information, dacl_security_information}
use Rattle.dtyp_sid.specs.Sids.{bytes_of, SidValue, IsSid}
use Rattle.dtyp_access.specs.Granted.{shares}
use Rattle.dtyp_access.specs.declared.ace.Ace.{Ace}
use Rattle.dtyp_access.specs.declared.ace.AceKind.{AceKind}
use Rattle.dtyp_access.specs.declared.ace.AceKind.TheVariants.{Allow, Deny}
use Rattle.dtyp_access.specs.declared.descriptor.Descriptor.{Descriptor}
use Rattle.dtyp_access.specs.declared.parts.Parts.{Parts}

-- ======== the parts of a descriptor, of which each may be absent, and what a change of named parts leaves

-- the parts of a descriptor, which always has an owner
abbrev pub parts_of : Descriptor → Parts
parts_of d = record { owner = Some d.owner; group = d.group; acl = d.acl }

-- the parts that the bits name; the others are absent
abbrev pub named_parts : ℕ → Descriptor → Parts
named_parts info d = record {
  owner = if shares info owner_security_information then Some d.owner else None;
  group = if shares info group_security_information then d.group else None;
  acl = if shares info dacl_security_information then d.acl else None;
}

-- the parts have an owner where the bits name it
abbrev pub HasOwnerIfNamed : ℕ → Parts → Type 0
HasOwnerIfNamed info parts = shares info owner_security_information ≡ true → is_some parts.owner ≡ true

-- a descriptor with the named parts replaced (MS-DTYP 2.4.7), of which the owner can't become absent
unfoldable pub replaced : Descriptor → ℕ → Parts → Descriptor
replaced old info parts = record {
  owner = if shares info owner_security_information then unwrap_or parts.owner old.owner else old.owner;
  group = if shares info group_security_information then parts.group else old.group;
  acl = if shares info dacl_security_information then parts.acl else old.acl;
}

-- ======== the limits of a descriptor's parts: flags of 8 bits and masks of 32 (MS-DTYP 2.4.4.1 and 2.4.3), and a list
-- no longer than its size field can say, which counts at most 76 bytes an entry

-- an entry
pub record IsAce (ace : Ace) : Type 0 where
  pub flags_fit : ace.flags < 2 ^ 8
  pub mask_fits : ace.mask < 2 ^ 32
  pub is_sid : IsSid ace.sid

-- the parts that may be absent
abbrev pub IsSidOrNone : Option SidValue → Type 0
IsSidOrNone None = Unit {0}
IsSidOrNone (Some sid) = IsSid sid

abbrev pub IsList : Option (List Ace) → Type 0
IsList None = Unit {0}
IsList (Some aces) = All IsAce aces × (length aces ≤ 800)

-- the parts of a descriptor
pub record AreParts (parts : Parts) : Type 0 where
  pub owner : IsSidOrNone parts.owner
  pub group : IsSidOrNone parts.group
  pub acl : IsList parts.acl

-- a descriptor
abbrev pub IsDescriptor : Descriptor → Type 0
IsDescriptor d = AreParts (parts_of d)

-- a list has at most 800 entries, where there is one
abbrev pub HasFewAces : Option (List Ace) → Type 0
HasFewAces acl = (aces : List Ace) → acl ≡ Some aces → length aces ≤ 800

-- the same as a test
abbrev pub has_few_aces : Option (List Ace) → Bool
has_few_aces None = true
has_few_aces (Some aces) = nat_le (length aces) 800

-- ======== the written bytes of a descriptor, or of its parts: the self-relative form of MS-DTYP 2.4.6, with its parts
-- in order and without gaps

-- the type byte of an entry
abbrev pub type_of : AceKind → ℕ
type_of Allow = access_allowed_ace_type
type_of Deny = access_denied_ace_type

-- an entry: type, flags, its size, mask and SID
unfoldable pub ace_bytes : Ace → List ℕ
ace_bytes ace =
    (type_of ace.kind ∷ ace.flags ∷ []) ++ to_le_bytes w16 (8 + length (bytes_of ace.sid)) ++ to_le_bytes w32 ace.mask
    ++ bytes_of ace.sid

unfoldable pub aces_bytes : List Ace → List ℕ
aces_bytes aces = flat_map ace_bytes aces

-- an access control list: its revision, its size, the count of its entries, and the entries
unfoldable pub acl_bytes : List Ace → List ℕ
acl_bytes aces =
    (acl_revision ∷ 0 ∷ []) ++ to_le_bytes w16 (8 + length (aces_bytes aces)) ++ to_le_bytes w16 (length aces)
    ++ (0 ∷ 0 ∷ []) ++ aces_bytes aces

-- the parts that may be absent
unfoldable pub sid_bytes : Option SidValue → List ℕ
sid_bytes None = []
sid_bytes (Some sid) = bytes_of sid

unfoldable pub list_bytes : Option (List Ace) → List ℕ
list_bytes None = []
list_bytes (Some aces) = acl_bytes aces

-- the control bits: self-relative, and that there is a list
abbrev pub control_of : Option (List Ace) → ℕ
control_of None = se_self_relative
control_of (Some aces) = se_self_relative + se_dacl_present

-- where a part begins, and 0 where it is absent
abbrev pub offset_if : Bool → ℕ → ℕ
offset_if there place = if there then place else 0

-- the header: the revision, the control bits, and the offsets of owner, group, auditing list and list
unfoldable pub header_bytes : Parts → List ℕ
header_bytes p =
    (security_descriptor_revision ∷ 0 ∷ [])
    ++ to_le_bytes w16 (control_of p.acl)
    ++ to_le_bytes w32 (offset_if (is_some p.owner) 20)
    ++ to_le_bytes w32 (offset_if (is_some p.group) (20 + length (sid_bytes p.owner)))
    ++ to_le_bytes w32 0
    ++ to_le_bytes w32 (offset_if (is_some p.acl) (20 + length (sid_bytes p.owner) + length (sid_bytes p.group)))

-- the written bytes of parts
unfoldable pub parts_bytes : Parts → List ℕ
parts_bytes p = header_bytes p ++ sid_bytes p.owner ++ sid_bytes p.group ++ list_bytes p.acl

-- the written bytes of a descriptor
abbrev pub descriptor_bytes : Descriptor → List ℕ
descriptor_bytes d = parts_bytes (parts_of d)
