-- The bytes that spell a descriptor, or its parts, part by part (MS-DTYP 2.4.4 to 2.4.6)
use Rattle.std.specs.Prelude.{◌≡◌, ℕ, ◌+◌, ◌-◌, ◌^◌, ◌<◌, ◌≤◌, ◌⊎◌, ◌↔◌, true, false, List, [], ◌∷◌, ◌++◌, length, take}
use Rattle.std.specs.Prelude.{drop, slice_index, All}
use Rattle.std.specs.declared.option.Option.{Option}
use Rattle.std.specs.declared.option.Option.TheVariants.{Some, None}
use Rattle.std.specs.declared.result.Result.TheVariants.{Ok}
use Rattle.acct_codes.specs.Descriptors.{se_dacl_present, se_self_relative, security_descriptor_revision, acl_revision}
use Rattle.dtyp_sid.specs.Sids.{SidValue, IsSid, BeginWithSid}
use Rattle.dtyp_access.specs.declared.ace.Ace.{Ace}
use Rattle.dtyp_access.specs.declared.descriptor.Descriptor.{Descriptor}
use Rattle.dtyp_access.specs.declared.parts.Parts.{Parts}
use Rattle.dtyp_access.specs.Granted.{shares}
use Rattle.dtyp_access.specs.Parts.{parts_of, AreParts, IsDescriptor, HasFewAces, type_of, parts_bytes}
use Rattle.dtyp_access.specs.Parts.{descriptor_bytes}
use Rattle.dtyp_access.specs.Reading.{u16_at, u32_at, next_ace, parts_of_bytes, descriptor_of_bytes}

-- an offset that is neither in the header nor past the end
pub record IsInside (offset : ℕ) (bytes : List ℕ) : Type 0 where
  pub behind_header : 20 ≤ offset
  pub within : offset ≤ length bytes

-- the bytes begin with a SID
pub record SpellSid (bytes : List ℕ) (sid : SidValue) : Type 0 where
  pub is_sid : IsSid sid
  pub begin : BeginWithSid bytes sid

-- the offset in a field of the header points to a SID
pub record PointsToSid (field : ℕ) (bytes : List ℕ) (sid : SidValue) : Type 0 where
  pub inside : IsInside (u32_at field bytes) bytes
  pub spelled : SpellSid (drop (u32_at field bytes) bytes) sid

-- an entry at a place of a list that ends at another
pub record SpellAce (place end : ℕ) (bytes : List ℕ) (ace : Ace) : Type 0 where
  pub whole : place + 8 ≤ end
  pub large : 16 ≤ u16_at (place + 2) bytes
  pub fits : next_ace place bytes ≤ end
  pub kind : slice_index bytes place ≡ type_of ace.kind
  pub flags : slice_index bytes (place + 1) ≡ ace.flags
  pub mask : u32_at (place + 4) bytes ≡ ace.mask
  pub sid : SpellSid (take (u16_at (place + 2) bytes - 8) (drop (place + 8) bytes)) ace.sid

-- entries, one after the other
abbrev pub SpellAces : ℕ → ℕ → List ℕ → List Ace → Type 0
SpellAces place end bytes [] = Unit {0}
SpellAces place end bytes (ace ∷ aces) = SpellAce place end bytes ace × SpellAces (next_ace place bytes) end bytes aces

-- a list at a place
pub record SpellAcl (place : ℕ) (bytes : List ℕ) (aces : List Ace) : Type 0 where
  pub whole : place + 8 ≤ length bytes
  pub fits : place + u16_at (place + 2) bytes ≤ length bytes
  pub revision : slice_index bytes place ≡ acl_revision
  pub count : u16_at (place + 4) bytes ≡ length aces
  pub entries : SpellAces (place + 8) (place + u16_at (place + 2) bytes) bytes aces

-- an owner or a group, which is absent where the offset in its field is 0
abbrev pub SpellSidOrNone : ℕ → List ℕ → Option SidValue → Type 0
SpellSidOrNone field bytes None = u32_at field bytes ≡ 0
SpellSidOrNone field bytes (Some sid) = PointsToSid field bytes sid

-- the list, which is absent where its control bit isn't set or its offset is 0
pub record PointsToAcl (bytes : List ℕ) (aces : List Ace) : Type 0 where
  pub present : shares (u16_at 2 bytes) se_dacl_present ≡ true
  pub inside : IsInside (u32_at 16 bytes) bytes
  pub spelled : SpellAcl (u32_at 16 bytes) bytes aces

abbrev pub SpellList : List ℕ → Option (List Ace) → Type 0
SpellList bytes None = (shares (u16_at 2 bytes) se_dacl_present ≡ false) ⊎ (u32_at 16 bytes ≡ 0)
SpellList bytes (Some aces) = PointsToAcl bytes aces

-- the bytes spell the parts
pub record SpellParts (bytes : List ℕ) (p : Parts) : Type 0 where
  pub header : 20 ≤ length bytes
  pub revision : slice_index bytes 0 ≡ security_descriptor_revision
  pub self_relative : shares (u16_at 2 bytes) se_self_relative ≡ true
  pub owner : SpellSidOrNone 4 bytes p.owner
  pub group : SpellSidOrNone 8 bytes p.group
  pub acl : SpellList bytes p.acl

-- the bytes spell the descriptor
abbrev pub SpellDescriptor : List ℕ → Descriptor → Type 0
SpellDescriptor bytes d = SpellParts bytes (parts_of d)

-- parts are read exactly from the bytes that spell them
abbrev pub ReadPartsSpell : Type 0
ReadPartsSpell = (bytes : List ℕ) (p : Parts) → All (λ byte. byte < 256) bytes → (parts_of_bytes bytes ≡ Ok p)
    ↔ SpellParts bytes p

-- and so is a descriptor
abbrev pub ReadBytesSpell : Type 0
ReadBytesSpell = (bytes : List ℕ) (d : Descriptor) → All (λ byte. byte < 256) bytes → (descriptor_of_bytes bytes ≡ Ok d)
    ↔ SpellDescriptor bytes d

-- what is read keeps the limits of its parts, where its list has at most 800 entries
abbrev pub ReadPartsAreParts : Type 0
ReadPartsAreParts = (bytes : List ℕ) (p : Parts) → All (λ byte. byte < 256) bytes → parts_of_bytes bytes ≡ Ok p
    → HasFewAces p.acl → AreParts p

-- what is written are bytes, and fewer than 2^16 of them
pub record AreWrittenBytes (bytes : List ℕ) : Type 0 where
  pub short : length bytes < 2 ^ 16
  pub small : All (λ byte. byte < 2 ^ 8) bytes

abbrev pub WrittenAreBytes : Type 0
WrittenAreBytes = (p : Parts) → AreParts p → AreWrittenBytes (parts_bytes p)

-- the written bytes spell the parts, whatever bytes follow
abbrev pub WrittenBytesSpell : Type 0
WrittenBytesSpell = (p : Parts) (rest : List ℕ) → AreParts p → SpellParts (parts_bytes p ++ rest) p

-- what is written is read as the same parts, whatever bytes follow
abbrev pub WrittenPartsAreRead : Type 0
WrittenPartsAreRead = (p : Parts) (rest : List ℕ) → AreParts p → parts_of_bytes (parts_bytes p ++ rest) ≡ Ok p

-- and so is a descriptor
abbrev pub WrittenBytesAreRead : Type 0
WrittenBytesAreRead = (d : Descriptor) (rest : List ℕ) → IsDescriptor d →
    descriptor_of_bytes (descriptor_bytes d ++ rest) ≡ Ok d
