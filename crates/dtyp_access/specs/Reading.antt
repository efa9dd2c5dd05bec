-- The descriptor that bytes spell, or its parts, or the first reason that they spell none (MS-DTYP 2.4.4 to 2.4.6)
use Rattle.std.specs.Prelude.{◌≡◌, ℕ, zero, suc, ◌+◌, ◌-◌, Bool, true, false, not, ◌&&◌, ◌||◌, List, [], ◌∷◌, length}
use Rattle.std.specs.Prelude.{take, drop, slice_index, nat_lt, ◌==◌, if◌then◌else◌}
use Rattle.std.specs.Int.{w16, w32, from_le_bytes}
use Rattle.std.specs.declared.option.Option.{Option}
use Rattle.std.specs.declared.option.Option.TheVariants.{Some, None}
use Rattle.std.specs.declared.result.Result.{Result}
use Rattle.std.specs.declared.result.Result.TheVariants.{Ok, Err}
use Rattle.acct_codes.specs.Descriptors.{se_dacl_present, se_self_relative, security_descriptor_revision, acl_revision}
use Rattle.acct_codes.specs.Descriptors.{access_allowed_ace_type, access_denied_ace_type}
use Rattle.dtyp_sid.specs.Sids.{SidValue, sid_of_bytes}
use Rattle.dtyp_sid.specs.declared.errors.BytesError.{BytesError}
use Rattle.dtyp_access.specs.declared.ace.Ace.{Ace}
use Rattle.dtyp_access.specs.declared.ace.AceKind.{AceKind}
use Rattle.dtyp_access.specs.declared.ace.AceKind.TheVariants.{Allow, Deny}
use Rattle.dtyp_access.specs.declared.descriptor.Descriptor.{Descriptor}
use Rattle.dtyp_access.specs.declared.parts.Parts.{Parts}
use Rattle.dtyp_access.specs.declared.errors.DescError.{DescError}
use Rattle.dtyp_access.specs.declared.errors.DescError.TheVariants.{Short, Revision, Offset, AceType, Sid as NoSid}
use Rattle.dtyp_access.specs.declared.errors.DescError.TheVariants.{Memory}
use Rattle.dtyp_access.specs.Granted.{shares}

-- the next step of a reading, where the one before was not refused
abbrev pub then_read : {X Y : Type 0} → Result X DescError → (X → Result Y DescError) → Result Y DescError
then_read (Ok x) next = next x
then_read (Err refusal) next = Err refusal

-- numbers at a place
unfoldable pub u16_at : ℕ → List ℕ → ℕ
u16_at place bytes = from_le_bytes w16 (drop place bytes)

unfoldable pub u32_at : ℕ → List ℕ → ℕ
u32_at place bytes = from_le_bytes w32 (drop place bytes)

-- the SID at the beginning of bytes that begin at a place
abbrev pub or_no_sid : ℕ → Result SidValue BytesError → Result SidValue DescError
or_no_sid place (Ok sid) = Ok sid
or_no_sid place (Err why) = Err (NoSid place)

-- whether an offset points into the header or past the end
abbrev pub is_outside : ℕ → List ℕ → Bool
is_outside offset bytes = nat_lt offset 20 || nat_lt (length bytes) offset

-- the SID that the offset in a field of the header points to
unfoldable pub sid_of_field : ℕ → List ℕ → Result SidValue DescError
sid_of_field field bytes =
    if is_outside (u32_at field bytes) bytes then Err (Offset field)
    else or_no_sid (u32_at field bytes) (sid_of_bytes (drop (u32_at field bytes) bytes))

-- the same, where the SID is absent if the offset is 0
unfoldable pub sid_if_any : ℕ → List ℕ → Result (Option SidValue) DescError
sid_if_any field bytes =
    if u32_at field bytes == 0 then Ok None else then_read (sid_of_field field bytes) (λ sid. Ok (Some sid))

-- the owner, which may be absent where none is needed
abbrev pub owner_of : Bool → List ℕ → Result (Option SidValue) DescError
owner_of true bytes = then_read (sid_of_field 4 bytes) (λ owner. Ok (Some owner))
owner_of false bytes = sid_if_any 4 bytes

-- the group, which may be absent
abbrev pub group_of : List ℕ → Result (Option SidValue) DescError
group_of bytes = sid_if_any 8 bytes

-- the kind of entries that a type byte tells
abbrev pub kind_of : ℕ → ℕ → Result AceKind DescError
kind_of place type =
    if type == access_allowed_ace_type then Ok Allow
    else (if type == access_denied_ace_type then Ok Deny else Err (AceType place))

-- where the entry after the one at a place begins
unfoldable pub next_ace : ℕ → List ℕ → ℕ
next_ace place bytes = place + u16_at (place + 2) bytes

-- the entry at a place of a list that ends at another
unfoldable pub ace_at : ℕ → ℕ → List ℕ → Result Ace DescError
ace_at place end bytes =
    if nat_lt end (place + 8) || nat_lt end (next_ace place bytes) || nat_lt (u16_at (place + 2) bytes) 16 then
    Err (Short place)
    else then_read (kind_of place (slice_index bytes place)) (λ kind.
    then_read (or_no_sid (place + 8) (sid_of_bytes (take (u16_at (place + 2) bytes - 8) (drop (place + 8) bytes))))
    (λ sid.
    Ok (record { kind = kind; flags = slice_index bytes (place + 1); mask = u32_at (place + 4) bytes; sid = sid })))

-- so many entries, one after the other
unfoldable pub aces_at : ℕ → ℕ → ℕ → List ℕ → Result (List Ace) DescError
aces_at zero place end bytes = Ok []
aces_at (suc count) place end bytes =
    then_read (ace_at place end bytes)
    (λ ace. then_read (aces_at count (next_ace place bytes) end bytes) (λ aces. Ok (ace ∷ aces)))

-- the list at a place
unfoldable pub acl_at : ℕ → List ℕ → Result (List Ace) DescError
acl_at place bytes =
    if nat_lt (length bytes) (place + 8) || nat_lt (length bytes) (place + u16_at (place + 2) bytes) then
    Err (Short place)
    else (if not (slice_index bytes place == acl_revision) then Err (Revision place)
    else aces_at (u16_at (place + 4) bytes) (place + 8) (place + u16_at (place + 2) bytes) bytes)

-- the list, which is absent where the control bits or its offset say so
unfoldable pub list_of : List ℕ → Result (Option (List Ace)) DescError
list_of bytes =
    if not (shares (u16_at 2 bytes) se_dacl_present) || u32_at 16 bytes == 0 then Ok None
    else (if is_outside (u32_at 16 bytes) bytes then Err (Offset 16)
    else then_read (acl_at (u32_at 16 bytes) bytes) (λ aces. Ok (Some aces)))

-- the parts, or the first refusal, where an owner is needed or none is
unfoldable pub parts_if : Bool → List ℕ → Result Parts DescError
parts_if needs_owner bytes =
    if nat_lt (length bytes) 20 then Err (Short 0)
    else (if not (slice_index bytes 0 == security_descriptor_revision) then Err (Revision 0)
    else (if not (shares (u16_at 2 bytes) se_self_relative) then Err (Offset 2)
    else then_read (owner_of needs_owner bytes) (λ owner.
    then_read (group_of bytes) (λ group.
    then_read (list_of bytes) (λ acl.
    Ok (record { owner = owner; group = group; acl = acl }))))))

-- the parts, of which each may be absent
abbrev pub parts_of_bytes : List ℕ → Result Parts DescError
parts_of_bytes bytes = parts_if false bytes

-- the descriptor of an owner, which is refused where there is none, and of the other parts
abbrev pub with_owner : Option SidValue → Option SidValue → Option (List Ace) → Result Descriptor DescError
with_owner None group acl = Err (Offset 4)
with_owner (Some owner) group acl = Ok (record { owner = owner; group = group; acl = acl })

-- the descriptor: the parts, where an owner is needed
unfoldable pub descriptor_of_bytes : List ℕ → Result Descriptor DescError
descriptor_of_bytes bytes = then_read (parts_if true bytes) (λ parts. with_owner parts.owner parts.group parts.acl)

-- an answer is the one that is expected, or memory ran out
abbrev pub ReadsAllIfRoom : {X : Type 0} → Result X DescError → Result X DescError → Type 0
ReadsAllIfRoom (Ok x) wanted = wanted ≡ Ok x
ReadsAllIfRoom (Err Memory) wanted = Unit {0}
ReadsAllIfRoom (Err refusal) wanted = wanted ≡ Err refusal

-- whether bytes have a list: control says so, and its offset isn't 0 and points after the header and not past the end
unfoldable pub has_list : List ℕ → Bool
has_list bytes = shares (u16_at 2 bytes) se_dacl_present
    && (not (u32_at 16 bytes == 0) && not (is_outside (u32_at 16 bytes) bytes))

-- whether the list at a place has an entry: its header is whole, and its count isn't 0
unfoldable pub has_entry : ℕ → List ℕ → Bool
has_entry place bytes = not (nat_lt (length bytes) (place + 8)) && nat_lt 0 (u16_at (place + 4) bytes)

-- memory runs out only where some is taken
abbrev pub WantsOnlyIf : {X : Type 0} → Bool → Result X DescError → Type 0
WantsOnlyIf _ (Ok x) = Unit {0}
WantsOnlyIf takes (Err Memory) = takes ≡ true
WantsOnlyIf _ (Err refusal) = Unit {0}

-- where there is a list with an entry, which takes memory
abbrev pub OnlyWithEntry : {X : Type 0} → Result X DescError → List ℕ → Type 0
OnlyWithEntry result bytes =
    WantsOnlyIf (has_list bytes) result × WantsOnlyIf (has_entry (u32_at 16 bytes) bytes) result

abbrev pub is_read : {X : Type 0} → Result X DescError → Bool
is_read (Ok x) = true
is_read (Err refusal) = false

-- memory runs out only where an entry is reached: the owner and the group are read, and there is a list with an entry
abbrev pub OnlyAtList : {X : Type 0} → Bool → Result X DescError → List ℕ → Type 0
OnlyAtList needs_owner (Ok read) bytes = Unit {0}
OnlyAtList needs_owner (Err Memory) bytes = (is_read (owner_of needs_owner bytes) ≡ true)
    × (is_read (group_of bytes) ≡ true) × (has_list bytes ≡ true) × (has_entry (u32_at 16 bytes) bytes ≡ true)
OnlyAtList needs_owner (Err refusal) bytes = Unit {0}

-- reading a SID takes no memory
abbrev pub NeverMemory : {X : Type 0} → Result X DescError → Type 0
NeverMemory (Ok x) = Unit {0}
NeverMemory (Err Memory) = ⊥
NeverMemory (Err refusal) = Unit {0}
