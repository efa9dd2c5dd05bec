-- SIDs (MS-DTYP 2.4.2): their value, what is made of them, their order and their bytes.
use Rattle.std.specs.Prelude.{ℕ, ◌^◌, ◌<◌, ◌≤◌, List, length, All, [], ◌∷◌, ◌++◌, nat_lt, nat_le, if◌then◌else◌, ◌≡◌}
use Rattle.std.specs.Prelude.{Bool, true, nat_eq, ◌↔◌, zero, suc, ◌+◌, ◌*◌, drop, slice_index, not, ◌==◌}
use Rattle.std.specs.Cmp.Lexicographic.{slice_cmp}
use Rattle.std.specs.Hash as fed
use Rattle.std.specs.Int.{w32, w64, bytes_high_first, to_le_bytes, from_le_bytes, from_be_bytes}
use Rattle.std.specs.List.{flat_map}
use Rattle.std.specs.Ordering.{nat_cmp, on, then_cmp, as_partial_cmp, eq_of_both}
use Rattle.std.specs.declared.cmp.Ordering.{Ordering}
use Rattle.std.specs.declared.cmp.Ordering.TheVariants.{Equal}
use Rattle.std.specs.declared.option.Option.{Option}
use Rattle.std.specs.declared.result.Result.{Result}
use Rattle.std.specs.declared.result.Result.TheVariants.{Ok, Err}
use lib.Pointwise.{pointwise}
use Rattle.dtyp_sid.specs.declared.errors.BytesError.{BytesError}
use Rattle.dtyp_sid.specs.declared.errors.BytesError.TheVariants.{Short, Revision, Count}
use Rattle.dtyp_sid.specs.declared.errors.SidError.{SidError}
use Rattle.dtyp_sid.specs.declared.errors.SidError.TheVariants.{TooMany, AuthorityRange}

-- ======== the value of a SID (MS-DTYP 2.4.2): an identifier authority of 48 bits, and at most fifteen sub-authorities
-- of 32 bits

-- SID_MAX_SUB_AUTHORITIES: the most sub-authorities of a SID
abbrev pub sid_max_sub_authorities : ℕ
sid_max_sub_authorities = 15

-- SID_REVISION: the revision of a SID (MS-DTYP 2.4.2.2)
abbrev pub sid_revision : ℕ
sid_revision = 1

-- what contracts see of a SID
pub record SidValue : Type 0 where
  pub authority : ℕ
  pub subs : List ℕ

-- the limits of a SID
pub record IsSid (sid : SidValue) : Type 0 where
  pub authority_fits : sid.authority < 2 ^ 48
  pub count_fits : length sid.subs ≤ sid_max_sub_authorities
  pub subs_fit : All (λ sub. sub < 2 ^ 32) sid.subs

-- ======== what is made of an authority and a list of sub-authorities, and of a SID and a relative identifier (RID),
-- its last sub-authority

-- the SID of an authority and its sub-authorities, or the first limit that they pass
abbrev pub sid_of : ℕ → List ℕ → Result SidValue SidError
sid_of authority subs =
    if nat_lt sid_max_sub_authorities (length subs) then Err TooMany
    else (if nat_le (2 ^ 48) authority then Err AuthorityRange else Ok (record { authority = authority; subs = subs }))

-- the SID with one more sub-authority at its end
abbrev pub with_last : SidValue → ℕ → SidValue
with_last sid rid = record { authority = sid.authority; subs = sid.subs ++ rid ∷ [] }

-- the SID of an authority alone
abbrev pub authority_alone : ℕ → SidValue
authority_alone authority = record { authority = authority; subs = [] }

-- ======== equality and order of SIDs: by authority, and then by the lists of sub-authorities

-- whether two SIDs have the same authority and the same sub-authorities
abbrev pub sid_eq : SidValue → SidValue → Bool
sid_eq = eq_of_both (on (λ sid. sid.authority) nat_eq) (on (λ sid. sid.subs) (pointwise nat_eq))

-- the order of SIDs: by authority, then by the sub-authorities as std orders lists
abbrev pub sid_cmp : SidValue → SidValue → Ordering
sid_cmp = then_cmp (on (λ sid. sid.authority) nat_cmp) (on (λ sid. sid.subs) (slice_cmp nat_cmp))

abbrev pub sid_partial_cmp : SidValue → SidValue → Option Ordering
sid_partial_cmp = as_partial_cmp sid_cmp

-- what a SID feeds a hasher: its authority, and its sub-authorities as a slice
abbrev pub sid_hashed : SidValue → fed.HashWrites
sid_hashed sid = fed.u64 sid.authority ++ fed.slice fed.u32 sid.subs

-- equality and order tell SIDs apart by their values
abbrev pub EqualSidsAreOne : Type 0
EqualSidsAreOne = (left right : SidValue) → ((sid_eq left right ≡ true) ↔ (left ≡ right))
    × ((sid_cmp left right ≡ Equal) ↔ (left ≡ right))

-- ======== the bytes of a SID (MS-DTYP 2.4.2.2): the revision, the count of sub-authorities, the authority in six bytes
-- with the highest first, and each sub-authority in four bytes with the lowest first

-- the first eight bytes of a SID: the revision, the count and the authority
unfoldable pub header_of : SidValue → List ℕ
header_of sid = sid_revision ∷ length sid.subs ∷ bytes_high_first 6 sid.authority

-- the sub-authorities in four bytes each
unfoldable pub sub_bytes : List ℕ → List ℕ
sub_bytes subs = flat_map (to_le_bytes w32) subs

-- the written bytes of a SID
unfoldable pub bytes_of : SidValue → List ℕ
bytes_of sid = header_of sid ++ sub_bytes sid.subs

-- the number of the six bytes at the beginning, the highest first
unfoldable pub authority_at_front : List ℕ → ℕ
authority_at_front bytes = from_be_bytes w64 (0 ∷ 0 ∷ bytes)

-- the numbers at the beginning, so many, of four bytes each
unfoldable pub subs_at_front : ℕ → List ℕ → List ℕ
subs_at_front zero bytes = []
subs_at_front (suc count) bytes = from_le_bytes w32 bytes ∷ subs_at_front count (drop 4 bytes)

-- the SID at the beginning of the bytes, or the first reason that there is none
unfoldable pub sid_of_bytes : List ℕ → Result SidValue BytesError
sid_of_bytes bytes =
    if nat_lt (length bytes) 8 then Err Short
    else (if not (slice_index bytes 0 == sid_revision) then Err Revision
    else (if nat_lt sid_max_sub_authorities (slice_index bytes 1) then Err Count
    else (if nat_lt (length bytes) (8 + 4 * slice_index bytes 1) then Err Short
    else Ok (record {
      authority = authority_at_front (drop 2 bytes);
      subs =
          subs_at_front (slice_index bytes 1) (drop 8 bytes);
    }))))

-- the bytes begin with those of the SID
abbrev pub BeginWithSid : List ℕ → SidValue → Type 0
BeginWithSid bytes sid = (rest : List ℕ) × (bytes ≡ bytes_of sid ++ rest)

-- what is written is read as the same SID, whatever bytes follow
abbrev pub WrittenBytesAreRead : Type 0
WrittenBytesAreRead = (sid : SidValue) (rest : List ℕ) → IsSid sid → sid_of_bytes (bytes_of sid ++ rest) ≡ Ok sid

-- a SID has eight written bytes, and four for each sub-authority
abbrev pub WrittenBytesHaveLengths : Type 0
WrittenBytesHaveLengths = (sid : SidValue) → length (bytes_of sid) ≡ 8 + 4 * length sid.subs

-- what is read is a SID, and the bytes begin with its written ones
abbrev pub ReadBytesAreWritten : Type 0
ReadBytesAreWritten = (bytes : List ℕ) (sid : SidValue) → All (λ byte. byte < 256) bytes → sid_of_bytes bytes ≡ Ok sid →
    IsSid sid × BeginWithSid bytes sid
